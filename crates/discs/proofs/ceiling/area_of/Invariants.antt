-- `area_of` meets its contract. The invariant: the answer is that of the pieces left, from `area` on.
-- Rests on the definition alone.
use Rattle.std.proofs.Common.{◌≡◌}
use mathlib.Core.List.{foldl}
use Rattle.float.specs.Ops.{◌+ᶠ◌}
use Rattle.discs.specs.Region.{areas}
use Rattle.discs.specs.Radius.{area_of}
use Rattle.discs.specs.Slices.{pieces_left}
use Rattle.discs.proofs.ceiling.area_of.Given as goal

abbrev pub invariant-loop-piece : goal.invariant-loop-piece
invariant-loop-piece l = area_of (pieces_left l.pieces) ≡ foldl ◌+ᶠ◌ l.area (areas (pieces_left l.piece-iterator))
