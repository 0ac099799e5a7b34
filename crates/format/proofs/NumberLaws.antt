-- Laws of numbers and items.
-- Rests on the laws of rows.
use Rattle.std.specs.Prelude.{ℕ, zero, suc, ◌+◌, ◌≤◌, ◌≡◌, refl, List, length}
use Rattle.std.specs.List.{between}
use Rattle.std.proofs.Common.{arith, zero-add}
use Rattle.std.proofs.lemmas.List.Edits.{length-between, get_or-between}
use Rattle.format.specs.Numbers.{uint}

front : (s : List ℕ) (at end k : ℕ) → at + k ≤ end → uint k (between at end s) 0 ≡ uint k s at
unfolding uint
front s at end zero h = refl
front s at end (suc k) h = rw (front s at end k (omega arith), zero-add, get_or-between s at end k 0 (omega arith))

-- a number that is a part of some bytes
pub uint_part : (n : ℕ) (s : List ℕ) (at end : ℕ) → at + n ≡ end → end ≤ length s → uint (length (between at end s)) (between at end s) 0 ≡ uint n s at
uint_part n s at end e h =
    let l : length (between at end s) ≡ n = omega (arith, length-between s at end h) in
    rw l (front s at end n (omega arith))
