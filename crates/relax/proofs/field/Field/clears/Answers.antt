-- `clears` meets its contract.
-- Rests on the contract of `clears_obstacles`, and on the margin's being that of the inset.
use mathlib.Core.Path.{ap, ◌∙◌}
use Rattle.glyphs.specs.Rect.{clear_of_obstacles}
use Rattle.regions.specs.Margins.{least_of_margin}
use Rattle.relax.proofs.field.Field.clears.Goals as goal

pub returns : goal.returns
returns c =
    let a = c.args in
    c.clears_obstacles.ensures
    ∙ ap (clear_of_obstacles a.place.x a.place.y a.self.now.obstacles.now) (least_of_margin _ _ a.self.now.inset_margin)
