-- The weights of the digits in a base, kept for many indices.
-- Rests on a quotient's being at most half of what is divided.
use Rattle.std.specs.Prelude.{◌≡◌, ℕ, zero, suc, ◌+◌, ◌-◌, ◌*◌, ◌/◌, ◌^◌, ◌<◌}
use Rattle.std.specs.Prelude.{◌≤◌, List, length, slice_index_or, slice_set, refl, Float}
use Rattle.std.proofs.Common.{ap, subst, ◌∙◌, inl, inr, arith, div-lt_iff_lt-mul, mul-le-mul_left}
use Rattle.std.proofs.Common.{pow-suc, eq-or-lt_of_le, get_or-set_same, get_or-set_other}
use Rattle.std.specs.Float.{nan}
use Rattle.float.specs.Ops.{◌/ᶠ◌, 1ᶠ}
use Rattle.float.specs.Whole.{as_f64}

-- the weight of the digit j: 1 / base, and for each further digit a base-th of it
unfoldable pub weight_at : ℕ → ℕ → Float
weight_at base zero = 1ᶠ /ᶠ as_f64 base
weight_at base (suc j) = weight_at base j /ᶠ as_f64 base

-- the first n weights stand in a list
pub record Upto (base n : ℕ) (l : List Float) : Type 0 where
  pub weight : (j : ℕ) → j < n → slice_index_or l j nan ≡ weight_at base j

abbrev pub Weights : ℕ → List Float → Type 0
Weights base l = Upto base 64 l

pub none_yet : (base : ℕ) (l : List Float) → Upto base 0 l
none_yet base l = record { weight = λ j h. absurd (omega arith) }

pub one_more : (base j : ℕ) (l : List Float) (w : Float) → j < length l → w ≡ weight_at base j → Upto base j l → Upto base (j + 1) (slice_set l j w)
one_more base j l w h e u =
    record {
      weight = λ (i : ℕ) (k : i < j + 1). elim (eq-or-lt_of_le (at_most i k)) [
        | inl f ↦ rw f (get_or-set_same l j w nan h ∙ e)
        | inr g ↦ get_or-set_other l j i w nan (λ f. omega arith) ∙ u.weight i g
      ];
    }
  where
    at_most : (i : ℕ) → i < j + 1 → i ≤ j
    at_most i k = omega arith

pub next_weight : (base j : ℕ) (w : Float) → w ≡ weight_at base j → w /ᶠ as_f64 base ≡ weight_at base (j + 1)
unfolding weight_at
next_weight base j w e =
    let f : j + 1 ≡ suc j = omega arith in
    rw (f, e)

-- ---- an index below 2^64 has at most 64 digits: after j of them less than 2^(64 - j) is left
abbrev pub Left : ℕ → ℕ → Type 0
Left j rest = rest < 2 ^ (64 - j)

pub digit_left : (j rest : ℕ) → 0 < rest → Left j rest → j < 64
digit_left j rest h l = go (64 - j) refl l
  where
    go : (m : ℕ) → 64 - j ≡ m → rest < 2 ^ m → j < 64
    go zero e k = absurd (omega (arith, h, k))
    go (suc m) e k = omega arith

pub digit_off : (base j rest : ℕ) → 2 ≤ base → j < 64 → Left j rest → Left (j + 1) (rest / base)
digit_off base j rest h k l =
    let m = 64 - (j + 1) in
    let e : 64 - j ≡ suc m = omega arith in
    let whole : rest < 2 ^ m * 2 = subst (λ (z : ℕ). rest < z) (ap (λ (z : ℕ). 2 ^ z) e ∙ pow-suc 2 m) l in
    (div-lt_iff_lt-mul {k = base} {x = rest} {y = 2 ^ m} (omega arith)).1 (omega (arith, whole, mul-le-mul_left (2 ^ m) h))
