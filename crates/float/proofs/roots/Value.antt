-- A finite x above zero from its bit pattern: what `root_of` takes the root of is m * 2 ^ 52 * 2 ^ g, for an m of 53 digits.
-- Rests on the kit's account of bit patterns.
use Rattle.std.proofs.Common.{◌≡◌, ℕ, zero, suc, ◌+◌, ◌-◌, ◌*◌, ◌/◌, ◌%◌, ◌^◌, ◌<◌, ◌≤◌, true}
use Rattle.std.proofs.Common.{false, sym, refl, ap, ◌∙◌, subst, true≢false, le_trans, le_of_eq, lt_of_lt_of_le, mul-le-mul_right}
use Rattle.std.proofs.Common.{mod-eq_of_lt, mul_assoc, mul-lt-mul_of_pos_right, mul-pos, lt_of_not-le, mul-one, mul_right_comm}
use Rattle.std.proofs.Common.{not-le_of_lt, mul-div_cancel, arith, lit≤, pow_pos, pow_mono, pow-add, ne_eqb}
use lib.Count.{count_leading_zeros, leading_top}
use lib.Ieee.{Float, nan, inf, fin, Format, binary64, low, up, down, odd, of_fields, of_bits}
use lib.Ieee.Fits.{down_pos}
use lib.Ieee.Exact.{HasValue, odd_sign}
use borrow.Author.Tests.{lt-leb}
use Rattle.float.specs.Root.{root_of, nearest_root}

-- ---- the root by the fraction of 2 ^ low that x equals
root_of_value : (f : Format) (x : Float) (n : ℕ) → 0 < n → HasValue x false n (2 ^ low f) → root_of f x ≡ nearest_root f (n * 2 ^ low f)
unfolding root_of
root_of_value f nan n p h = absurd h
root_of_value f (inf s) n p h = absurd h
root_of_value f (fin true zero e) n p h = absurd (true≢false h.0)
root_of_value f (fin true (suc m) e) n p h = absurd (true≢false h.0)
root_of_value f (fin false zero e) n p h = absurd (omega (arith, h.1, mul-pos p (down_pos e)))
root_of_value f (fin false (suc m) e) n p h =
    let l = 2 ^ low f in
    let a : suc m * up e * (l * l) ≡ n * l * down e = sym (mul_assoc (suc m * up e) l l) ∙ ap (λ (x : ℕ). x * l) h.1 ∙ mul_right_comm n (down e) l in
    ap (nearest_root f) (ap (λ (x : ℕ). x / down e) a ∙ mul-div_cancel (n * l) (down_pos e))

-- ---- what a pattern stands for
fields : (b : ℕ) → b < 2 ^ 63 → of_bits binary64 b ≡ of_fields binary64 false (b / 2 ^ 52) (b % 2 ^ 52)
unfolding of_bits
fields b h = rw (lt-leb (2 ^ 63) b h, mod-eq_of_lt h) refl

normal : (t x : ℕ) → suc x < 2047 → of_fields binary64 false (suc x) t ≡ odd 53 false (2 ^ 52 + t) x 1074
unfolding of_fields
normal t x h = rw (ne_eqb (suc x) 2047 (λ (e : suc x ≡ 2047). omega arith)) refl

subnormal : (t : ℕ) → of_fields binary64 false 0 t ≡ odd 53 false t 0 1074
unfolding of_fields
subnormal t = refl

normal_value :
    (b : ℕ) → 2 ^ 52 ≤ b → b < 0x7ff0_0000_0000_0000 → HasValue (of_bits binary64 b) false ((2 ^ 52 + b % 2 ^ 52) * 2 ^ (b / 2 ^ 52 - 1)) (2 ^ 1074)
normal_value b l h =
    let x = b / 2 ^ 52 - 1 in
    let t = b % 2 ^ 52 in
    let e : b / 2 ^ 52 ≡ suc x = omega arith in
    let is : of_bits binary64 b ≡ odd 53 false (2 ^ 52 + t) x 1074 =
    fields b (omega arith) ∙ ap (λ (z : ℕ). of_fields binary64 false z t) e ∙ normal t x (omega arith) in
    subst (λ (z : Float). HasValue z false ((2 ^ 52 + t) * 2 ^ x) (2 ^ 1074)) (sym is) (odd_sign 53 false (2 ^ 52 + t) x 1074)

subnormal_value : (b : ℕ) → b < 2 ^ 52 → HasValue (of_bits binary64 b) false (b * 2 ^ 0) (2 ^ 1074)
subnormal_value b h =
    let e : b / 2 ^ 52 ≡ 0 = omega arith in
    let is : of_bits binary64 b ≡ odd 53 false b 0 1074 =
    fields b (omega arith) ∙ ap (λ (z : ℕ). of_fields binary64 false z (b % 2 ^ 52)) e ∙ ap (λ (z : ℕ). of_fields binary64 false 0 z) (mod-eq_of_lt h)
    ∙ subnormal b in
    subst (λ (z : Float). HasValue z false (b * 2 ^ 0) (2 ^ 1074)) (sym is) (odd_sign 53 false b 0 1074)

-- ---- their roots
pub normal_root :
    (b : ℕ) → 2 ^ 52 ≤ b → b < 0x7ff0_0000_0000_0000
    → root_of binary64 (of_bits binary64 b) ≡ nearest_root binary64 ((b % 2 ^ 52 + 2 ^ 52) * 2 ^ 52 * 2 ^ (b / 2 ^ 52 + 1021))
normal_root b l h =
    let m = 2 ^ 52 + b % 2 ^ 52 in
    let x = b / 2 ^ 52 - 1 in
    let g = b / 2 ^ 52 + 1021 in
    let c : m ≡ b % 2 ^ 52 + 2 ^ 52 = omega arith in
    let j : x + 1074 ≡ 52 + g = omega arith in
    let powers : 2 ^ x * 2 ^ 1074 ≡ 2 ^ 52 * 2 ^ g = sym (pow-add 2 x 1074) ∙ ap (λ (z : ℕ). 2 ^ z) j ∙ pow-add 2 52 g in
    let e : m * 2 ^ x * 2 ^ 1074 ≡ m * 2 ^ 52 * 2 ^ g =
    mul_assoc m (2 ^ x) (2 ^ 1074) ∙ ap (λ (z : ℕ). m * z) powers ∙ sym (mul_assoc m (2 ^ 52) (2 ^ g)) in
    root_of_value binary64 (of_bits binary64 b) (m * 2 ^ x) (mul-pos (omega arith) (pow_pos x)) (normal_value b l h)
    ∙ ap (nearest_root binary64) (e ∙ ap (λ (z : ℕ). z * 2 ^ 52 * 2 ^ g) c)

pub subnormal_root :
    (b z : ℕ) → 0 < b → b < 2 ^ 52 → z ≤ 52 → root_of binary64 (of_bits binary64 b) ≡ nearest_root binary64 (b * 2 ^ z * 2 ^ 52 * 2 ^ (1022 - z))
subnormal_root b z p h s =
    let g = 1022 - z in
    let j : 1074 ≡ z + 52 + g = omega arith in
    let powers : 2 ^ 1074 ≡ 2 ^ z * 2 ^ 52 * 2 ^ g = ap (λ (x : ℕ). 2 ^ x) j ∙ pow-add 2 (z + 52) g ∙ ap (λ (x : ℕ). x * 2 ^ g) (pow-add 2 z 52) in
    let e : b * 2 ^ 1074 ≡ b * 2 ^ z * 2 ^ 52 * 2 ^ g =
    ap (λ (x : ℕ). b * x) powers ∙ sym (mul_assoc b (2 ^ z * 2 ^ 52) (2 ^ g)) ∙ ap (λ (x : ℕ). x * 2 ^ g) (sym (mul_assoc b (2 ^ z) (2 ^ 52))) in
    root_of_value binary64 (of_bits binary64 b) (b * 2 ^ 0) (omega arith) (subnormal_value b h)
    ∙ ap (nearest_root binary64) (ap (λ (x : ℕ). x * 2 ^ 1074) (mul-one b) ∙ e)

-- ---- the digits of a subnormal x moved up until they are 53, as the program does it
pub moved :
    (b : ℕ) → 0 < b → b < 2 ^ 52
    → (11 ≤ count_leading_zeros 64 b) × (count_leading_zeros 64 b - 11 ≤ 52) × (2 ^ 52 ≤ b * 2 ^ (count_leading_zeros 64 b - 11))
    × (b * 2 ^ (count_leading_zeros 64 b - 11) < 2 ^ 53)
moved b p h =
    let t = leading_top 64 b p (lt_of_lt_of_le h (pow_mono {i = 52} {j = 64} (lit≤ tt))) in
    go (count_leading_zeros 64 b) t.0 t.1 t.2 t.3
  where
    go :
        (y j : ℕ) → y + suc j ≡ 64 → 2 ^ j ≤ b → b < 2 ^ suc j
        → (11 ≤ y) × (y - 11 ≤ 52) × (2 ^ 52 ≤ b * 2 ^ (y - 11)) × (b * 2 ^ (y - 11) < 2 ^ 53)
    go y j e l u =
        let short : j < 52 = lt_of_not-le (λ (g : 52 ≤ j). not-le_of_lt h (le_trans (pow_mono g) l)) in
        let a : j + (y - 11) ≡ 52 = omega arith in
        let c : suc j + (y - 11) ≡ 53 = omega arith in (
          omega arith,
          omega arith,
          le_trans (le_of_eq (ap (λ (z : ℕ). 2 ^ z) (sym a) ∙ pow-add 2 j (y - 11))) (mul-le-mul_right (2 ^ (y - 11)) l),
          lt_of_lt_of_le (mul-lt-mul_of_pos_right u (pow_pos (y - 11))) (le_of_eq (sym (pow-add 2 (suc j) (y - 11)) ∙ ap (λ (z : ℕ). 2 ^ z) c)),
        )
