-- `clearance_at_least` meets its contract: `clears` with a margin made for it.
-- Rests on the contracts of both.
use mathlib.Core.Path.{◌∙◌, ap}
use lib.Ieee.{Float}
use Rattle.float.specs.Ops.{◌≤ᶠ◌}
use Rattle.regions.specs.Pieces.{rings_of}
use Rattle.regions.specs.Clearance.{signed_clearance}
use Rattle.regions.specs.Margins.{least_of_margin}
use Rattle.regions.proofs.keeps.clearance_at_least.Goals as goal

pub returns : goal.returns
returns c =
    let a = c.args in
    c.clears.ensures
    ∙ ap (λ (x : Float). x ≤ᶠ signed_clearance a.px a.py (rings_of a.piece)) (least_of_margin _ _ c.of.ensures)
