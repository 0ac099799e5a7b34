-- An `i64` and its rank, as the code computes one from the other.
-- Rests on the kit's account of signed words.
use Rattle.std.proofs.Common.{◌≡◌, ℕ, suc, ◌+◌, ◌-◌, ◌%◌, ◌^◌, ◌<◌, ◌≤◌, ℤ, pos, negsuc, ◌-ℤ◌, nat_abs, inl, inr}
use Rattle.std.proofs.Common.{sym, refl, ap, ◌∙◌, arith, w64, SFits, to_z, of_z, le-ltb}
use mir.ValLaws.{to_z_pos, to_z-neg, of_z-to_z}
use Rattle.laws.specs.Orders.{lt_or_le}
use Rattle.lattice.specs.Span.{middle, rank_of, of_rank, of_high, of_low}

-- how far a number is above the least one
pub rank_is : (z : ℤ) → SFits w64 z → nat_abs (z -ℤ negsuc 9223372036854775807) ≡ rank_of z
unfolding rank_of
rank_is (pos a) F = refl
rank_is (negsuc a) F = let h : a < 2 ^ 63 = F.sfits in rw (le-ltb middle (suc a) (omega arith))

-- and back
signed_is : (u : ℕ) → u < 2 ^ 64 → to_z w64 ((9223372036854775808 + u) % 2 ^ 64) ≡ of_rank u
signed_is u h = elim (lt_or_le u middle) [ inl below ↦ low below | inr above ↦ high above ]
  where
    high : middle ≤ u → to_z w64 ((9223372036854775808 + u) % 2 ^ 64) ≡ of_rank u
    high k =
        let e : (9223372036854775808 + u) % 2 ^ 64 ≡ u - middle = omega arith in
        ap (to_z w64) e ∙ to_z_pos w64 (u - middle) (omega arith) ∙ sym (of_high u k)

    low : u < middle → to_z w64 ((9223372036854775808 + u) % 2 ^ 64) ≡ of_rank u
    low k =
        let e : (9223372036854775808 + u) % 2 ^ 64 ≡ 2 ^ 64 - suc (middle - suc u) = omega arith in
        ap (to_z w64) e ∙ to_z-neg w64 (middle - suc u) (omega arith) ∙ sym (of_low u k)

-- a word whose bits these are, read again
pub signed_read : (u : ℕ) (z : ℤ) → u < 2 ^ 64 → z ≡ to_z w64 ((9223372036854775808 + u) % 2 ^ 64) → to_z w64 (of_z w64 z) ≡ of_rank u
signed_read u z h e =
    ap (λ (y : ℤ). to_z w64 (of_z w64 y)) e ∙ ap (to_z w64) (of_z-to_z w64 ((9223372036854775808 + u) % 2 ^ 64) (record { fits = omega arith })) ∙ signed_is u h
