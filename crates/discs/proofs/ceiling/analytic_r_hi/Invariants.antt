-- `analytic_r_hi` meets its contract. The invariant: the answer is that of the zones left, from `r_hi` on.
-- Rests on a turn over zones.
use Rattle.std.proofs.Common.{◌≡◌, ℕ, List}
use mathlib.Core.List.{foldl}
use Rattle.float.specs.Ops.{∞}
use Rattle.discs.specs.Floor.{handed_from, handed_work, work_in, lowered_by, EachRow, Stands}
use Rattle.discs.proofs.ceiling.analytic_r_hi.Given as goal

abbrev pub invariant-loop-zone : goal.invariant-loop-zone
invariant-loop-zone l =
    let left = l.zone-iterator in
    let all = l.layout in
    (left.layout ≡ all)
    × EachRow all.rings.now all.sizes.now (Stands all.rings.now all.sizes.now all.points.now l.deepest) left.rows.now left.at
    × ((s quotas : List ℕ)
    → foldl (lowered_by l.gap) ∞ (work_in s all.rows.now all.rings.now all.sizes.now all.points.now quotas l.deepest)
    ≡ foldl (lowered_by l.gap) l.r_hi
    (handed_work (handed_from s all.rings.now all.sizes.now all.points.now quotas l.deepest left.rows.now left.at)))
