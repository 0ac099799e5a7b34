-- `make_room` meets its contract: what is copied within the slice is moved.
-- Rests on the contract of the copy.
use Rattle.std.proofs.Common.{◌≡◌, ℕ, ◌+◌, ◌-◌, ◌*◌, ◌≤◌, List, take, drop, ◌∙◌, append_assoc, arith}
use Rattle.std.specs.List.{copy_within}
use lib.Ieee.{Float}
use Rattle.lattice.specs.Flat.{moved}
use Rattle.lattice.proofs.nearest.make_room.Goals as goal

copied : (l : List Float) (a b : ℕ) → a ≤ b → copy_within l a b (a + 2) ≡ moved l a b
unfolding moved
copied l a b h = let n : a + 2 + (b - a) ≡ b + 2 = omega arith in rw n (append_assoc (take (a + 2) l) (take (b - a) (drop a l)) (drop (b + 2) l))

pub returns : goal.returns
returns c = c.copy_within.ensures.after ∙ copied c.args.cells.now (c.args.k * 2) (c.args.e * 2) (omega arith)
