-- `starts_deepest` meets its contract, case by case.
-- Rests on what its calls ensure.
use Rattle.std.proofs.Common.{◌≡◌, refl, Option, Some, None}
use Rattle.std.specs.Prelude.{is_some}
use Rattle.glyphs.specs.declared.bounds.Extents.{Extents}
use Rattle.discs.specs.Searches.{has_bounds, starts_deepest}
use Rattle.plan.proofs.searches.starts_deepest.Goals as goal

bounded : (bounds : Option Extents) → is_some bounds ≡ has_bounds bounds
unfolding has_bounds
bounded None = refl
bounded (Some bounds) = refl

pub returns-in-Uniform : goal.returns-in-Uniform
unfolding starts_deepest
returns-in-Uniform c = rw c.in-Uniform.is

pub returns-in-Rectangular : goal.returns-in-Rectangular
unfolding starts_deepest
returns-in-Rectangular c = rw c.in-Rectangular.is

pub returns-in-LowDiscrepancy : goal.returns-in-LowDiscrepancy
unfolding starts_deepest
returns-in-LowDiscrepancy c = rw (c.in-LowDiscrepancy.is, ← bounded, ← c.piece_bounds.ensures, c.is_some.ensures)

pub returns-in-Random : goal.returns-in-Random
unfolding starts_deepest
returns-in-Random c = rw c.in-Random.is
