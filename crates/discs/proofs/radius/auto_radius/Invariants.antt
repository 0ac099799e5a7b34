-- `auto_radius` meets its contract. The invariant: the answer is that of the search left.
-- Rests on the turns of the search.
use Rattle.std.proofs.Common.{◌≡◌}
use Rattle.discs.specs.Radius.{auto_radius}
use Rattle.discs.specs.Bundles.{fits_in, SameWork}
use Rattle.discs.proofs.Halving.{left}
use Rattle.discs.proofs.radius.auto_radius.Given as goal

abbrev pub invariant-loop-made : goal.invariant-loop-made
invariant-loop-made l =
    let fits = fits_in l.packing l.zones l.packing.obstacles.now in
    SameWork l.initial.work l.work × (auto_radius fits l.r_hi ≡ left fits l.r_hi l.b l.made)
