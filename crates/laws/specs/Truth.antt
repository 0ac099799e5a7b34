-- A test's answer as a fact, `T b`, what a test of two tests says, and a flag as a number. The other way is the kit's `is_true` and `is_false`.
-- Assumes nothing.
use Rattle.std.specs.Prelude.{◌≡◌, refl, ◌⊎◌, Bool, true, false, not, ◌&&◌, ◌||◌, ◌≤◌, T}
use Rattle.std.proofs.Common.{sym, subst, inl, inr, true≢false, arith}
use Rattle.std.specs.Bool.{beq}
use mir.Val.{bool_byte}

pub yes : {b : Bool} → b ≡ true → T b
yes h = subst T (sym h) tt

pub no : {b : Bool} → b ≡ false → T (not b)
no h = subst (λ (a : Bool). T (not a)) (sym h) tt

pub refuted : (b : Bool) → (T b → ⊥) → b ≡ false
refuted true h = absurd (h tt)
refuted false h = refl

pub same_answer : (a b : Bool) → T (beq a b) → a ≡ b
same_answer true true t = refl
same_answer true false t = absurd t
same_answer false true t = absurd t
same_answer false false t = refl

pub both_true : (a b : Bool) → a && b ≡ true → (a ≡ true) × (b ≡ true)
both_true true b e = (refl, e)
both_true false b e = absurd (true≢false (sym e))

pub or_split : (a b : Bool) → T (a || b) → T a ⊎ T b
or_split true b t = inl tt
or_split false b t = inr t

pub or_l : (a b : Bool) → T a → T (a || b)
or_l true b t = tt
or_l false b t = absurd t

pub or_r : (a b : Bool) → T b → T (a || b)
or_r true b t = tt
or_r false b t = t

pub nor_l : (a b : Bool) → T (not (a || b)) → T (not a)
nor_l true b t = t
nor_l false b t = tt

pub nor_r : (a b : Bool) → T (not (a || b)) → T (not b)
nor_r true b t = absurd t
nor_r false b t = t

-- ---- a flag as a number
pub flag_le : (b : Bool) → bool_byte b ≤ 1
flag_le true = omega arith
flag_le false = omega arith
