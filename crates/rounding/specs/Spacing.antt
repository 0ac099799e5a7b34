-- SPACING FROM SQUARES: where the computed squared distance of two points is at least the computed spacing squared, their
-- exact distance is at least the spacing less 2 ^ -30.
-- Rests on `Errors` and `Relative`. Coordinates and spacing are 65,536 at most: a job's are 1,024 and 34,816, and no candidate passes 36,000.
use Rattle.std.specs.Prelude.{Float}
use Rattle.float.specs.Ops.{◌+ᶠ◌, ◌-ᶠ◌, ◌*ᶠ◌}

-- (x - x') * (x - x') + (y - y') * (y - y')
abbrev pub computed : Float → Float → Float → Float → Float
computed x y x' y' = (x -ᶠ x') *ᶠ (x -ᶠ x') +ᶠ (y -ᶠ y') *ᶠ (y -ᶠ y')
