-- `feasible` meets its contract. The invariant: the answer is that of the zones left.
-- Rests on a turn over zones.
use Rattle.std.proofs.Common.{◌≡◌}
use Rattle.laws.specs.Any.{all}
use Rattle.discs.specs.Radius.{context_at, probe}
use Rattle.discs.specs.Floor.{holds_all, EachRow}
use Rattle.discs.specs.Bundles.{work_from, fits_in, IsPackable, SameWork}
use Rattle.discs.proofs.trial.feasible.Given as goal

abbrev pub invariant-loop-zone : goal.invariant-loop-zone
invariant-loop-zone l =
    let p = l.packing in
    let pillars = p.obstacles.now in
    let left = l.zone-iterator in
    let layout = l.zones.layout in
    (left.layout ≡ layout)
    × EachRow layout.rings.now layout.sizes.now (IsPackable l.zones) left.rows.now left.at
    × SameWork l.initial.work l.work
    × (fits_in p l.zones pillars l.r
    ≡ all (holds_all p.numbers p.options (context_at p.options probe l.r) pillars) (work_from l.zones left.rows.now left.at))
