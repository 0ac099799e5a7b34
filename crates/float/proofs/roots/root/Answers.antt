-- `float::root` meets its contract: a guess that is returned is the root, and else nothing is guessed.
-- Rests on the contracts of `is_normal`, `is_root` and `unguessed_root`.
use Rattle.laws.specs.Truth.{yes}
use Rattle.float.proofs.roots.root.Goals as goal

pub root_guess-guess-requires : goal.root_guess-guess-requires
root_guess-guess-requires c = c.is_normal.ensures (yes c.if-is_normal.true)

pub is_root-requires : goal.is_root-requires
is_root-requires c = c.is_normal.ensures (yes c.if-is_normal.true)

pub returns-then-is_root : goal.returns-then-is_root
returns-then-is_root c = c.is_root.ensures (yes c.if-is_root.true)
