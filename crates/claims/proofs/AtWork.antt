-- The claim at work: the example is accepted, whatever slices are lent, and its claim says that its two spots are apart and clear of the pillar.
-- Rests on the example's computation.
use Rattle.std.specs.Prelude.{◌≡◌, refl, List, [], ◌∷◌, ℕ, ◌≤◌, length, Float}
use Rattle.std.proofs.Common.{◌∙◌, le-leb}
use Rattle.std.specs.Float.Ieee
use Rattle.format.specs.Rows.{◌unless◌, ◌or_else◌}
use Rattle.laws.specs.Any.{all}
use Rattle.float.specs.Ops.{1ᶠ, 2ᶠ}
use Rattle.glyphs.specs.declared.options.ObstaclePolicy.TheVariants.{Strict}
use Rattle.discs.specs.PlaceGlyphs.{is_left_in, work_of}
use Rattle.sheet.specs.Sheet.{Placement, read_sheet}
use Rattle.job.specs.Head.{work_fault}
use Rattle.job.specs.Job.{zones_room, sheet_room, sheet_fault}
use Rattle.discs.specs.Searches.{starts_deepest, is_searched, searched, searches_in, had_room}
use Rattle.job.specs.Plan.{search_fault, low_fault, ceiling_of, ceiling_fault, number_of, given, plan_of}
use Rattle.claims.specs.Claim.{Inset, Away, FarApart, PieceKept, ZoneKept, Zones, SheetKept}
use Rattle.claims.proofs.EverySheet.{every_sheet_kept}
use Rattle.claims.specs.Example.{job, lent, read, options, square, said, says, corner, pillar, ctx, one, other, shared, kept_near, placed, pillars, found}
use Rattle.claims.specs.Example.{inset_is, spacing_is}

-- ---- it is accepted
fits : (n : ℕ) → 53 ≤ n → sheet_fault said n ≡ 0
unfolding sheet_fault sheet_room zones_room work_of is_left_in ◌unless◌
fits n h = rw (le-leb 53 n h)

roomy : search_fault said ≡ 0
unfolding search_fault all searches_in searched had_room is_searched starts_deepest work_of is_left_in ◌unless◌ Ieee.lt Ieee.of_bits Ieee.of_fields Ieee.odd
roomy = rw shared

not_low : ceiling_fault said ≡ 0
unfolding ceiling_fault ceiling_of low_fault
not_low = refl

lent_enough : (m n : ℕ) → 8000 ≤ m → 8000 ≤ n → work_fault m n ≡ 0
unfolding work_fault ◌unless◌ ◌or_else◌
lent_enough m n h g = rw (le-leb 8000 m h, le-leb 8000 n g)

numbered : (first second : List Float) (sheet : List ℕ) → 8000 ≤ length first → 8000 ≤ length second → 53 ≤ length sheet → number_of job first second sheet ≡ 0
unfolding number_of ◌or_else◌
numbered first second sheet f g h = rw (lent, lent_enough (length first) (length second) f g, read, says, fits (length sheet) h, roomy, not_low)

accepted :
    (first second : List Float) (sheet : List ℕ) → 8000 ≤ length first → 8000 ≤ length second → 53 ≤ length sheet → (plan_of job first second sheet).number ≡ 0
unfolding plan_of given
accepted first second sheet f g h = rw (numbered first second sheet f g h)

-- ---- what the claim says of it: inset 1, spacing 2
record Said : Type 0 where
  one_deep : Inset corner 1ᶠ one
  other_deep : Inset corner 1ᶠ other
  apart : FarApart 2ᶠ one other
  one_away : Away 1ᶠ one pillar
  other_away : Away 1ᶠ other pillar
  counted : 2 ≤ 2

of_piece : PieceKept ctx Strict (pillar ∷ []) corner 2 (one ∷ other ∷ []) → Said
of_piece k =
    let deep = rw inset_is at k.insets in
    let away = rw (kept_near, inset_is) at (k.clear refl) in
    let apart = rw spacing_is at k.spaced in
    record { one_deep = deep.0; other_deep = deep.1.0; apart = apart.0.0; one_away = away.0.0; other_away = away.1.0.0; counted = k.within }

of_zone : (entry : Placement) → ZoneKept options (pillar ∷ []) 1ᶠ (record { zone = square; spots = (one ∷ other ∷ []) ∷ [] }) entry → Said
of_zone entry z = of_piece (rw shared at z.pieces).0

of_zones : (entries : List Placement) → Zones options (pillar ∷ []) 1ᶠ (record { zone = square; spots = (one ∷ other ∷ []) ∷ [] } ∷ []) entries → Said
of_zones [] h = absurd h
of_zones (entry ∷ entries) h = of_zone entry h.0

says_so : (bytes : List ℕ) → SheetKept job bytes → Said
says_so bytes k =
    let r : (read_sheet bytes).radius ≡ 1ᶠ = k.radius ∙ rw says found in
    of_zones (read_sheet bytes).zones (rw (r, says, pillars, placed) at k.zones)

-- and so it does of the sheet that the call gives
of_its_sheet : (first second : List Float) (sheet : List ℕ) → 8000 ≤ length first → 8000 ≤ length second → 53 ≤ length sheet → Said
of_its_sheet first second sheet f g h =
    says_so (plan_of job first second sheet).sheet (every_sheet_kept job first second sheet (accepted first second sheet f g h))
