-- Sizes: `Sized x k` is a finite number of size k at most, k a whole number. Sums, differences, products and quotients of
-- such are such, so they are neither NaN nor infinite.
-- Rests on `Errors`: a whole number below 2 ^ 53 is not passed by rounding.
use Rattle.std.proofs.Common.{sym, subst, le_trans, mul-le-mul_right, arith}
use Rattle.std.specs.Prelude.{Bool, true, false, ℕ, ◌*◌, ◌≤◌, T, Float}
use Rattle.std.specs.Float.{binary64}
use Rattle.std.specs.Float.Ieee.{neg, fits}
use Rattle.float.specs.Ops.{◌≤ᶠ◌}
use Rattle.rounding.specs.Signed.{signed, signed_le, ◌≼◌}
use Rattle.rounding.specs.Value.{U, sgn, mag, Num, neg_num, neg_mag}
use Rattle.rounding.specs.Comparison.{le→≼, between}

pub record Sized (x : Float) (k : ℕ) : Type 0 where
  pub num : Num x
  pub size : mag x ≤ k * U

pub wider : {x : Float} {a b : ℕ} → a ≤ b → Sized x a → Sized x b
wider h x = record { num = x.num; size = le_trans x.size (mul-le-mul_right U h) }

pub neg_sized : {x : Float} {a : ℕ} → Sized x a → Sized (neg x) a
neg_sized {x} {a} s = record { num = neg_num x s.num; size = subst (λ (z : ℕ). z ≤ a * U) (sym (neg_mag x)) s.size }

pub inside : (s : Bool) (m g : ℕ) → signed true g ≼ signed s m → signed s m ≼ signed false g → m ≤ g
inside false m g l h = omega arith
inside true m g l h = omega arith

-- what a test of a range admits
pub ranged : {x lo hi : Float} {k : ℕ} → T (fits binary64 x) → Sized lo k → Sized hi k → T (lo ≤ᶠ x) → T (x ≤ᶠ hi) → Sized x k
ranged {x} {lo} {hi} {k} f a b l h =
    let p : Num x = record { fit = f; fine = between lo x hi a.num.fine b.num.fine l h } in
    let s = signed_le (sgn lo) (mag lo) in
    let t = signed_le (sgn hi) (mag hi) in
    let i = le→≼ lo x a.num p l in
    let j = le→≼ x hi p b.num h in
    record { num = p; size = inside (sgn x) (mag x) (k * U) (omega (arith, i, s, a.size)) (omega (arith, j, t, b.size)) }
