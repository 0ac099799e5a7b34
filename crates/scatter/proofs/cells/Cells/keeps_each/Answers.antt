-- `keeps_each` meets its contract: each index is asked.
-- Rests on the kit's laws of a chain over a range.
use mathlib.Core.Path.{◌≡◌, refl}
use mathlib.Core.Bool.{Bool, true, false}
use mathlib.Core.List.{List}
use Prim.Native.Nat.{ℕ, ◌/◌, ◌<◌}
use native.Mathlib.Nat.{sub-zero, zero-add}
use native.Mathlib.Omega.{arith}
use borrow.Author.Rules.{rules}
use borrow.Author.Tests.{tests}
use lib.Ieee.{Float}
use lib.ListN.{length}
use Rattle.std.specs.Bool.{MatchBool}
use Rattle.std.specs.List.{AllWithin, HoldsAt, range_with_len}
use Rattle.std.proofs.lemmas.Iterator.{cases_from_all, YieldsList-from_range}
use Rattle.std.proofs.lemmas.List.FromFn.{length-range_with_len, get_or-range_with_len}
use Rattle.std.proofs.lemmas.List.Recursion.{and_is}
use Rattle.laws.specs.Any.{all}
use Rattle.glyphs.specs.declared.rect.Point.{Point}
use Rattle.glyphs.specs.Spots.{spot_at, spots_of, spots_at_lem, length_spots}
use Rattle.scatter.specs.Cells.{keeps}
use Rattle.scatter.proofs.cells.Cells.keeps_each.Goals as goal

-- what is asked of each index is asked of each spot
module _ (f : Point → Bool) (s : List Float) (n : ℕ) (e : n ≡ length s / 2) where
  each :
      (r : Bool) → MatchBool r (AllWithin (λ (k : ℕ). f (spot_at s k) ≡ true) (range_with_len 0 n) 0 (length (range_with_len 0 n)))
      ((k : ℕ) × (k < length (range_with_len 0 n)) × HoldsAt (λ (k : ℕ). f (spot_at s k) ≡ false) (range_with_len 0 n) k)
      → r ≡ all f (spots_of s)
  unfolding all
  each true h =
      and_is (all f) f refl (λ _ _. refl) (spots_of s) (spot_at s 0) true
      (λ t i l.
      let m : i < n = omega (arith, length_spots s) in
      rw (spots_at_lem s i (spot_at s 0) (omega arith))
      (rw (get_or-range_with_len 0 n i 0 m, zero-add) at (h i 0 (omega arith) (omega (arith, length-range_with_len 0 n)))))
      (λ t. let w : ◌≡◌ {A = Bool} true false = t in cc)
  each false h =
      and_is (all f) f refl (λ _ _. refl) (spots_of s) (spot_at s 0) false
      (λ t. let w : ◌≡◌ {A = Bool} false true = t in cc)
      (λ t.
      let m : h.0 < n = omega (arith, h.1, length-range_with_len 0 n) in
      (h.0, omega (arith, length_spots s), rw (spots_at_lem s h.0 (spot_at s 0) (omega arith)) (rw (get_or-range_with_len 0 n h.0 0 m, zero-add) at (h.2 0))))

pub returns : goal.returns
returns c =
    let s = c.args.spots.now in
    let n = length s / 2 in
    let f = keeps c.args.self.now c.args.p in
    each f s n refl c.all.result
    (cases_from_all _ _ c.all.result (λ (k : ℕ). f (spot_at s k) ≡ true) (λ (k : ℕ). f (spot_at s k) ≡ false) c.all.ensures.ran
    (YieldsList-from_range 0 n n refl (rw sub-zero)) (λ x q k. search (rules, tests)) (λ x q k. search (rules, tests)))
