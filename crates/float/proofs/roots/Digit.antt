-- The digits of a square root, one at a time, for every width: b is the weight of the last digit found, q the digits, and rest * b what is left of y.
-- One step goes from the weight b * 2 to b; at the weight 1 q is the whole part of √y, and what is left says whether it is rounded up. Assumes nothing.
use Rattle.std.proofs.Common.{◌≡◌, ℕ, zero, suc, ◌+◌, ◌-◌, ◌*◌, ◌/◌, ◌^◌, ◌<◌, ◌≤◌}
use Rattle.std.proofs.Common.{sym, ap, ◌∙◌, subst, zero-lt-suc, pow-suc, mul-div_cancel, arith, pow_pos}
use Rattle.float.specs.Root.{Near}

abbrev pub Digits : ℕ → ℕ → ℕ → ℕ → Type 0
Digits y q rest b = (q * q + rest * b ≡ y) × (rest < q * 2 + b)

-- ---- one step: the next digit is 1 where q * 2 + b fits into what is left, and 0 otherwise
pub digit_one : (y q rest b : ℕ) → Digits y q rest (b * 2) → q * 2 + b ≤ rest * 2 → Digits y (q + b) (rest * 2 - (q * 2 + b)) b
digit_one y q rest b d h = go (rest * 2 - (q * 2 + b)) (omega arith)
  where
    go : (left : ℕ) → rest * 2 ≡ left + (q * 2 + b) → Digits y (q + b) left b
    go left e = (omega (arith, d.0, ap (λ (n : ℕ). n * b) e), omega (arith, d.1))

pub digit_zero : (y q rest b : ℕ) → Digits y q rest (b * 2) → rest * 2 < q * 2 + b → Digits y q (rest * 2) b
digit_zero y q rest b d h = (omega (arith, d.0), h)

-- ---- the step of a loop whose weight is a power of two, with the bound that keeps it in a word: the root has at most the digits of N
abbrev pub State : ℕ → ℕ → ℕ → ℕ → ℕ → Type 0
State N y q rest bit = ((j : ℕ) × (bit ≡ 2 ^ j)) × Digits y q rest bit × (q + bit ≤ N) × (0 < q)

half_power : (b j : ℕ) → b ≡ 2 ^ j → 1 < b → ((i : ℕ) × (b / 2 ≡ 2 ^ i)) × (b ≡ b / 2 * 2)
half_power b zero e h = absurd (omega arith)
half_power b (suc i) e h =
    let d : b ≡ 2 ^ i * 2 = e ∙ pow-suc 2 i in
    let q : b / 2 ≡ 2 ^ i = ap (λ (x : ℕ). x / 2) d ∙ mul-div_cancel (2 ^ i) (zero-lt-suc 1) in
    ((i, q), d ∙ ap (λ (x : ℕ). x * 2) (sym q))

module _ (N y q rest bit : ℕ) (s : State N y q rest bit) (more : 1 < bit) where
  halves : ((i : ℕ) × (bit / 2 ≡ 2 ^ i)) × (bit ≡ bit / 2 * 2)
  halves = half_power bit s.0.0 s.0.1 more

  digits : Digits y q rest (bit / 2 * 2)
  digits = subst (λ (b : ℕ). Digits y q rest b) halves.1 s.1

  pub again_one : q * 2 + bit / 2 ≤ rest * 2 → State N y (q + bit / 2) (rest * 2 - (q * 2 + bit / 2)) (bit / 2)
  again_one h = (halves.0, digit_one y q rest (bit / 2) digits h, omega arith, omega arith)

  pub again_zero : rest * 2 < q * 2 + bit / 2 → State N y q (rest * 2) (bit / 2)
  again_zero h = (halves.0, digit_zero y q rest (bit / 2) digits h, omega arith, s.3)

-- the weight is 1 where the loop ends
pub at_one : (y q rest bit j : ℕ) → bit ≡ 2 ^ j → bit ≤ 1 → Digits y q rest bit → Digits y q rest 1
at_one y q rest bit j e h d = subst (λ (b : ℕ). Digits y q rest b) (omega (arith, pow_pos j)) d

-- ---- rounding, from the whole part and what is left
pub near_suc : (y p : ℕ) → (2 * p + 1) * (2 * p + 1) < 4 * y → 4 * y < (2 * p + 3) * (2 * p + 3) → Near y (suc p)
near_suc y p l h =
    let a : 2 * suc p - 1 ≡ 2 * p + 1 = omega arith in
    let b : 2 * suc p + 1 ≡ 2 * p + 3 = omega arith in
    (rw a l, rw b h)

pub nearest_up : (y q rest : ℕ) → Digits y q rest 1 → q < rest → Near y (q + 1)
nearest_up y q rest d h = subst (Near y) (omega arith) (near_suc y q (omega arith) (omega arith))

pub nearest_down : (y q rest : ℕ) → Digits y q rest 1 → 0 < q → rest ≤ q → Near y q
nearest_down y zero rest d p h = absurd (omega arith)
nearest_down y (suc q) rest d p h = near_suc y q (omega arith) (omega arith)
