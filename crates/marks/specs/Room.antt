-- The sheet of an accepted job is no longer than the room that row 14 asks for, and that is at most 34,383 bytes.
-- Rests on the law of every sheet: no piece has more spots than its quota, and the quotas of a zone add up to its count.
use Rattle.std.proofs.Common.{ap, length-append}
use Rattle.std.specs.Prelude.{Bool, true, false, cond, ℕ, suc, ◌+◌, ◌*◌, ◌≤◌, length, Float}
use mathlib.Core.List.{List, [], ◌∷◌, map, flatten, flat_map}
use native.Mathlib.Omega.{arith}
use Rattle.laws.specs.Sorted.{weigh}
use Rattle.glyphs.specs.declared.rect.Point.{Point}
use Rattle.glyphs.specs.declared.rect.Rectangle.{Rectangle}
use Rattle.glyphs.specs.Spots.{length_flat}
use Rattle.regions.specs.Ring.{Piece}
use Rattle.discs.specs.declared.options.GlyphOptions.{GlyphOptions}
use Rattle.discs.specs.Region.{Zone, quotas}
use Rattle.discs.specs.PlaceGlyphs.{Placed, is_left_in, work_of}
use Rattle.format.specs.Known.{All}
use Rattle.sheet.specs.Sheet.{Placement, placement_bytes, sheet_of}
use Rattle.sheet.specs.Back.{length_sheet_head}
use Rattle.sheet.proofs.Back.{length_placement}
use Rattle.job.specs.Job.{Job, job_of, zones_room, sheet_room}
use Rattle.job.specs.Known.{ZoneKnown, marks_of, JobKnown}
use Rattle.job.specs.Plan.{placements_of, placement_of, sheet_for}
use Rattle.claims.specs.Claim.{SheetKept, OwnPieces, Zones}
use Rattle.claims.specs.HandOut.{sum, assigned_sum}

module _ (options : GlyphOptions) (pillars : List Rectangle) (radius : Float) where
  own_few :
      (pieces : List Piece) (quotas : List ℕ) (spots : List (List Point)) → OwnPieces options pillars radius pieces quotas spots
      → length (flatten spots) ≤ sum quotas
  unfolding flatten weigh
  own_few pieces quotas [] h = omega arith
  own_few [] quotas (spots ∷ later) h = absurd h
  own_few (piece ∷ pieces) [] (spots ∷ later) h = absurd h
  own_few (piece ∷ pieces) (quota ∷ quotas) (spots ∷ later) h =
      rw (length-append spots (flatten later)) (omega (arith, h.0.within, own_few pieces quotas later h.1))

  zones_short :
      (ps : List Placed) (entries : List Placement) → Zones options pillars radius ps entries
      → length (flat_map placement_bytes (map placement_of ps)) ≤ zones_room (map (λ (placed : Placed). placed.zone) ps)
  unfolding flat_map placement_of zones_room
  zones_short [] [] h = omega arith
  zones_short [] (e ∷ es) h = absurd h
  zones_short (p ∷ ps) [] h = absurd h
  zones_short (p ∷ ps) (e ∷ es) h =
      let z = p.zone in
      rw (length-append (placement_bytes (placement_of p)) (flat_map placement_bytes (map placement_of ps)))
      (omega (
        arith,
        length_placement (placement_of p),
        length_flat (flatten p.spots),
        own_few z.pieces (quotas z) p.spots h.0.pieces,
        assigned_sum (quotas z),
        h.0.quotas_sum,
        zones_short ps es h.1,
      ))

pub sheet_short : (s bytes : List ℕ) → SheetKept s bytes → length (sheet_of (sheet_for (placements_of (job_of s)))) ≤ sheet_room (job_of s)
unfolding sheet_of sheet_for sheet_room
sheet_short s bytes k =
    let ps = (placements_of (job_of s)).zones in
    let zs = flat_map placement_bytes (map placement_of ps) in
    rw (length-append _ zs, length_sheet_head (11 + length zs) (placements_of (job_of s)).radius (length (map placement_of ps)))
    (omega (arith, ap zones_room k.left_in, zones_short _ _ _ ps _ k.zones))

zones_room_lem : (zones : List Zone) → All ZoneKnown zones → zones_room (work_of zones) ≤ 37 * length zones + 16 * marks_of zones
unfolding work_of zones_room marks_of
zones_room_lem [] k = omega arith
zones_room_lem (zone ∷ zones) k = go (is_left_in zone) (zones_room_lem zones k.1)
  where
    go :
        (t : Bool) → zones_room (work_of zones) ≤ 37 * length zones + 16 * marks_of zones
        → zones_room (cond t (zone ∷ work_of zones) (work_of zones)) ≤ 37 * suc (length zones) + 16 * (zone.count + marks_of zones)
    go true h = omega (arith, h, k.0.short)
    go false h = omega (arith, h)

pub room_small : (job : Job) → JobKnown job → sheet_room job ≤ 34383
unfolding sheet_room
room_small job k = omega (arith, zones_room_lem job.zones k.zones, k.few_zones, k.marks)
