-- Asking a point of a height whose crossings are found: the end of each ring in turn, and what the test of each ring says of the whole.
-- Rests on the definitions of the crossings.
use Rattle.std.specs.Prelude.{◌≡◌, ℕ, ◌+◌, ◌-◌, ◌<◌, ◌≤◌, true, false, not, List, [], ◌∷◌, length, take, drop, slice_index, Float}
use Rattle.std.proofs.Common.{arith}
use Rattle.std.proofs.lemmas.List.{drop_more}
use Rattle.std.proofs.Math.ListN.{drop_of_length-le}
use Rattle.lattice.specs.Crossings.{odd, odd_any, inside_level, Ascend}

ascend_le : (most from : ℕ) (ends : List ℕ) → Ascend most from ends → from ≤ most
ascend_le most from [] h = h
ascend_le most from (to ∷ ends) h = let k = ascend_le most to ends h.1 in omega (arith, h.0)

-- the next end is no less than the one before, and within the crossings
pub end_next :
    (most : ℕ) (ends : List ℕ) (from k : ℕ) → k < length ends → Ascend most from (drop k ends)
    → (from ≤ slice_index ends k) × (slice_index ends k ≤ most) × Ascend most (slice_index ends k) (drop (k + 1) ends)
end_next most ends from k h a =
    let b : Ascend most from (slice_index ends k ∷ drop (k + 1) ends) = rw (drop_more ends k 0 h) at a in
    (b.0, ascend_le most (slice_index ends k) (drop (k + 1) ends) b.1, b.1)

module _ (x : Float) (crossings : List Float) (ends : List ℕ) where
  pub outside_outer : odd x (take (slice_index ends 0) crossings) ≡ false → inside_level x crossings ends ≡ false
  unfolding inside_level
  outside_outer e = rw e

  pub inside_outer :
      odd x (take (slice_index ends 0) crossings) ≡ true → inside_level x crossings ends ≡ not (odd_any x crossings (slice_index ends 0) (drop 1 ends))
  unfolding inside_level
  inside_outer e = rw e

  -- a turn of the loop over the holes
  module _ (from k : ℕ) (h : k < length ends) where
    pub inside_hole : odd x (take (slice_index ends k - from) (drop from crossings)) ≡ true → odd_any x crossings from (drop k ends) ≡ true
    unfolding odd_any
    inside_hole e = rw (drop_more ends k 0 h, e)

    pub outside_hole :
        odd x (take (slice_index ends k - from) (drop from crossings)) ≡ false
        → odd_any x crossings from (drop k ends) ≡ odd_any x crossings (slice_index ends k) (drop (k + 1) ends)
    unfolding odd_any
    outside_hole e = rw (drop_more ends k 0 h, e)

  pub no_hole : (from k : ℕ) → length ends ≤ k → odd_any x crossings from (drop k ends) ≡ false
  unfolding odd_any
  no_hole from k e = rw (drop_of_length-le)
