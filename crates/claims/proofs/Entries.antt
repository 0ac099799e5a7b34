-- The entries of a sheet: what a zone's entry holds is what is claimed of it, and the bytes of a sheet can hold it.
-- Rests on what is claimed of the pieces and on the law of quotas: no zone has more spots than its count.
use Rattle.std.specs.Prelude.{refl, ℕ, ◌≤◌, length, Float}
use mathlib.Core.List.{List, [], ◌∷◌, map, flatten}
use native.Mathlib.Omega.{arith}
use Rattle.std.proofs.Common.{length-append}
use Rattle.laws.specs.Every.{Every, every_append}
use Rattle.laws.specs.Sorted.{weigh}
use Rattle.glyphs.specs.declared.rect.Point.{Point}
use Rattle.glyphs.specs.declared.rect.Rectangle.{Rectangle}
use Rattle.glyphs.specs.Spots.{flat, length_flat}
use Rattle.regions.specs.Ring.{Piece}
use Rattle.discs.specs.declared.options.GlyphOptions.{GlyphOptions}
use Rattle.discs.specs.Region.{quotas}
use Rattle.discs.specs.PlaceGlyphs.{Placed}
use Rattle.sheet.specs.Back.{AllFit}
use Rattle.sheet.specs.Back.{Writable, AllWritable}
use Rattle.job.specs.Plan.{placement_of}
use Rattle.claims.specs.Claim.{Exact, OwnPieces, ZoneKept, Zones}
use Rattle.claims.specs.HandOut.{sum, assigned_sum}
use Rattle.claims.specs.Areas.{areas_known}
use Rattle.claims.proofs.Portions.{zone_sum, zone_fair}
use Rattle.claims.specs.Placings.{LeftIn}

exact_fit : (ps : List Point) → Every Exact ps → AllFit (flat ps)
unfolding flat
exact_fit [] e = tt
exact_fit (p ∷ ps) e = (e.0.across.fit, (e.0.along.fit, exact_fit ps e.1))

module _ (options : GlyphOptions) (pillars : List Rectangle) (radius : Float) where
  -- the spots of all pieces
  own_few :
      (pieces : List Piece) (quotas : List ℕ) (spots : List (List Point)) → OwnPieces options pillars radius pieces quotas spots
      → length (flatten spots) ≤ sum quotas
  unfolding flatten weigh
  own_few pieces quotas [] h = omega arith
  own_few [] quotas (spots ∷ later) h = absurd h
  own_few (piece ∷ pieces) [] (spots ∷ later) h = absurd h
  own_few (piece ∷ pieces) (quota ∷ quotas) (spots ∷ later) h =
      rw (length-append spots (flatten later)) (omega (arith, h.0.within, own_few pieces quotas later h.1))

  own_exact :
      (pieces : List Piece) (quotas : List ℕ) (spots : List (List Point)) → OwnPieces options pillars radius pieces quotas spots → Every Exact (flatten spots)
  unfolding flatten
  own_exact pieces quotas [] h = tt
  own_exact [] quotas (spots ∷ later) h = absurd h
  own_exact (piece ∷ pieces) [] (spots ∷ later) h = absurd h
  own_exact (piece ∷ pieces) (quota ∷ quotas) (spots ∷ later) h = every_append Exact spots (flatten later) h.0.exact (own_exact pieces quotas later h.1)

  abbrev Own : Placed → Type 0
  Own placed = OwnPieces options pillars radius placed.zone.pieces (quotas placed.zone) placed.spots

  abbrev In : Placed → Type 0
  In placed = LeftIn placed.zone

  -- ---- one zone
  module _ (placed : Placed) (l : In placed) (own : Own placed) where
    adds_up : length (flatten placed.spots) ≤ placed.zone.count
    adds_up =
        let z = placed.zone in
        omega (arith, own_few z.pieces (quotas z) placed.spots own, assigned_sum (quotas z), zone_sum z l.known.pieces l.known.few l.some l.few)

    writable : Writable (placement_of placed)
    unfolding placement_of
    writable =
        let n = length_flat (flatten placed.spots) in
        let f = adds_up in
        record {
          short = omega (arith, l.known.short);
          pairs = omega (arith, n);
          few = omega (arith, n, f, l.few);
          unplaced = omega (arith, l.few);
          fit = exact_fit (flatten placed.spots) (own_exact placed.zone.pieces (quotas placed.zone) placed.spots own);
        }

    zone_kept : ZoneKept options pillars radius placed (placement_of placed)
    unfolding placement_of
    zone_kept =
        let z = placed.zone in
        record {
          key = refl;
          own = refl;
          pieces = own;
          quotas_sum = zone_sum z l.known.pieces l.known.few l.some l.few;
          weights = areas_known z.pieces l.known.pieces;
          fair = zone_fair z l.known.pieces l.known.few l.some l.few;
        }

  -- ---- all zones
  pub all_writable : (ps : List Placed) → Every In ps → Every Own ps → AllWritable (map placement_of ps)
  all_writable [] l h = tt
  all_writable (p ∷ ps) l h = (writable p l.0 h.0, all_writable ps l.1 h.1)

  pub zones_kept : (ps : List Placed) → Every In ps → Every Own ps → Zones options pillars radius ps (map placement_of ps)
  zones_kept [] l h = tt
  zones_kept (p ∷ ps) l h = (zone_kept p l.0 h.0, zones_kept ps l.1 h.1)
