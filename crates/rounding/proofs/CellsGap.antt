-- CELLS: two points whose computed cell numbers, floor((x - min) / cell), differ by two or more along an axis are at least the cell's size less 2 ^ -30 apart.
-- Rests on `Casts` (floor) and `Errors`. Coordinates are 65,536 at most and a cell 2 ^ -20 to 65,536: a spacing is 2 ^ -20 to 34,816, so no number saturates.
use Rattle.std.specs.Prelude.{◌+◌, ◌≤◌, Float}
use Rattle.std.proofs.Common.{inl, inr}
use Rattle.rounding.specs.Value.{mag}
use Rattle.rounding.specs.Bounds.{Sized}
use Rattle.rounding.specs.Distance.{Length, tiny, gap, gap_of_lem, gap_sym, Spaced, spaced_across, spaced_along}
use Rattle.rounding.specs.Cells.{TwoApart, cell_of}
use Rattle.rounding.proofs.Cells.{cells_apart}

cells_gap :
    (x x' min cell : Float) → Sized x 65536 → Sized x' 65536 → Sized min 65536 → Length cell → TwoApart (cell_of x min cell) (cell_of x' min cell)
    → mag cell ≤ gap x x' + tiny
unfolding TwoApart
cells_gap x x' min cell X X' M c (inl h) = gap_of_lem x x' (mag cell) tiny (cells_apart x x' min cell X X' M c h)
cells_gap x x' min cell X X' M c (inr h) = rw (gap_sym x x') (gap_of_lem x' x (mag cell) tiny (cells_apart x' x min cell X' X M c h))

module _ (cell x y x' y' : Float) (c : Length cell) (X : Sized x 65536) (Y : Sized y 65536) (X' : Sized x' 65536) (Y' : Sized y' 65536) where
  pub cells_across : (min : Float) → Sized min 65536 → TwoApart (cell_of x min cell) (cell_of x' min cell) → Spaced cell x y x' y'
  cells_across min M h = spaced_across cell x y x' y' (cells_gap x x' min cell X X' M c h)

  pub cells_along : (min : Float) → Sized min 65536 → TwoApart (cell_of y min cell) (cell_of y' min cell) → Spaced cell x y x' y'
  cells_along min M h = spaced_along cell x y x' y' (cells_gap y y' min cell Y Y' M c h)
