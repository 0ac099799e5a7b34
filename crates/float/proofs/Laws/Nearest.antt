-- `nearest_root` is IEEE 754's rounding, for every n: its result is q steps of 2 ^ k, √n lies no further than half a step from it, and at a tie q is even.
-- Both sides of a comparison with √n are doubled and squared. Rests on `Laws/Floor.antt`.
use Rattle.std.specs.Prelude.{◌≡◌, ℕ, zero, suc, ◌+◌, ◌-◌, ◌*◌, ◌/◌, ◌%◌, ◌^◌, ◌<◌, ◌≤◌, false, ◌≢◌, refl}
use Rattle.std.proofs.Common.{subst, le_trans, le_of_eq, lt_of_lt_of_le, mul-le-mul, mul-pos, div-mul-le_self, arith, pow_pos}
use Prim.Native.Nat.{compare, Ordering}
use Rattle.std.proofs.Math.Nat.{lt-div-mul-add, mul-mul-mul_comm}
use Rattle.std.specs.Float.{Format}
use Rattle.std.specs.Float.Ieee.{prec, size, nearest, units}
use Rattle.laws.specs.Orders.{Says, says}
use Rattle.float.specs.Root.{floor_root, nearest_root}
use Rattle.float.specs.Laws.Floor.{mid, whole_part}
use Rattle.float.specs.Laws.Nearest.{Nearest}

module _ (n u q : ℕ) (U : 0 < u) (l : q * q * u ≤ n) (h : n < (q + 1) * (q + 1) * u) where
  -- q itself, where √n is not above the point halfway to q + 1
  stay : 4 * n ≤ (2 * q + 1) * (2 * q + 1) * u → (4 * n ≡ (2 * q + 1) * (2 * q + 1) * u → q % 2 ≡ 0) → Nearest n u q
  stay c t = go q l c t
    where
      go :
          (q : ℕ) → q * q * u ≤ n → 4 * n ≤ (2 * q + 1) * (2 * q + 1) * u → (4 * n ≡ (2 * q + 1) * (2 * q + 1) * u → q % 2 ≡ 0)
          → Nearest n u q
      go zero l c t = record { low = omega arith; high = c; even_low = λ e. omega arith; even_high = t }
      go (suc p) l c t =
          let e : 2 * suc p - 1 ≡ 2 * p + 1 = omega arith in
          record { low = rw e (omega arith); high = c; even_low = λ i. absurd (below p l (rw e at i)); even_high = t }
        where
          below : (p : ℕ) → suc p * suc p * u ≤ n → (2 * p + 1) * (2 * p + 1) * u ≢ 4 * n
          below p l i = omega arith

  -- q + 1, where it is not below
  next : (2 * q + 1) * (2 * q + 1) * u ≤ 4 * n → ((2 * q + 1) * (2 * q + 1) * u ≡ 4 * n → suc q % 2 ≡ 0) → Nearest n u (suc q)
  next c t =
      let e : 2 * suc q - 1 ≡ 2 * q + 1 = omega arith in
      record { low = rw e c; high = omega arith; even_low = λ i. t (rw e at i); even_high = λ i. absurd (omega arith) }

  pub nearest_of : (o : Ordering) → Says (4 * n) ((2 * q + 1) * (2 * q + 1) * u) o → Nearest n u (nearest q o)
  nearest_of Ordering.lt c = stay (omega arith) (λ i. absurd (omega arith))
  nearest_of Ordering.gt c = next (omega arith) (λ i. absurd (omega arith))
  nearest_of Ordering.eq c = go (q % 2) refl (omega arith)
    where
      go : (r : ℕ) → q % 2 ≡ r → r < 2 → Nearest n u (q + r)
      go zero e b = subst (Nearest n u) (omega arith) (stay (le_of_eq c) (λ i. e))
      go (suc zero) e b = subst (Nearest n u) (omega arith) (next (omega arith) (λ i. omega arith))
      go (suc (suc r)) e b = absurd (omega arith)

pub nearest_is : (f : Format) (n : ℕ) → (q : ℕ) × (k : ℕ) × (nearest_root f n ≡ units f false q k) × Nearest n (2 ^ k * 2 ^ k) q
unfolding nearest_root
nearest_is f n =
    let w = floor_root (size n) n in
    let k = size w - prec f in
    let q = w / 2 ^ k in
    let i = whole_part n in
    let next : w + 1 ≤ (q + 1) * 2 ^ k = omega (arith, lt-div-mul-add {a = w} (pow_pos k)) in
    let low : q * q * (2 ^ k * 2 ^ k) ≤ n =
    le_trans (le_of_eq (mul-mul-mul_comm q q (2 ^ k) (2 ^ k))) (le_trans (mul-le-mul (div-mul-le_self w (2 ^ k)) (div-mul-le_self w (2 ^ k))) i.0) in
    let high : n < (q + 1) * (q + 1) * (2 ^ k * 2 ^ k) =
    lt_of_lt_of_le i.1 (le_trans (mul-le-mul next next) (le_of_eq (mul-mul-mul_comm (q + 1) (2 ^ k) (q + 1) (2 ^ k)))) in (
      nearest q (compare (4 * n) (mid q k)),
      k,
      refl,
      nearest_of n (2 ^ k * 2 ^ k) q (mul-pos (pow_pos k) (pow_pos k)) low high (compare (4 * n) (mid q k)) (says (4 * n) (mid q k)),
    )
