-- The quotas' hypotheses can be met: 0.1, 0.2 and 0.3, whose sum rounds, and an infinite weight beside 1.
-- Rests on computation.
use Rattle.std.specs.Prelude.{◌≡◌, refl, List, [], ◌∷◌, get_or, Float}
use Rattle.std.proofs.Common.{arith, lit≤, lit<}
use Rattle.std.specs.Float.Ieee.{fits, of_bits, neg, add, lt}
use Rattle.float.specs.Ops.{literal, 1ᶠ, ∞}
use Rattle.rounding.specs.Value.{sgn, mag}
use Rattle.rounding.specs.Shares.{Weight, none, more, sum}
use Rattle.glyphs.specs.Apportion.{total, assigned, apportion}
use Rattle.claims.specs.Fair.{Weighed, Fair}
use Rattle.claims.proofs.Fair.{quotas_sum, quotas_fair}
use Rattle.claims.specs.Unshared.{Masses, infinite_weight}
use Rattle.claims.proofs.Unshared.{one_each_sum}
use Rattle.claims.specs.Unshared as Unshared

-- 0.1, 0.2 and 0.3
abbrev 0·1ᶠ : Float
0·1ᶠ = literal 0x3fb9_9999_9999_999a

abbrev 0·2ᶠ : Float
0·2ᶠ = literal 0x3fc9_9999_9999_999a

abbrev 0·3ᶠ : Float
0·3ᶠ = literal 0x3fd3_3333_3333_3333

first : Weight 0·1ᶠ
unfolding of_bits fits sgn
first = record { num = record { fit = tt; fine = tt }; nonneg = omega arith }

second : Weight 0·2ᶠ
unfolding of_bits fits sgn
second = record { num = record { fit = tt; fine = tt }; nonneg = omega arith }

third : Weight 0·3ᶠ
unfolding of_bits fits sgn
third = record { num = record { fit = tt; fine = tt }; nonneg = omega arith }

abbrev tenths : List Float
tenths = 0·1ᶠ ∷ 0·2ᶠ ∷ 0·3ᶠ ∷ []

weighed : Weighed tenths
unfolding total add neg lt of_bits
weighed = record { few = lit≤ tt; each = more first (more second (more third none)); above = tt; fine = tt }

-- 2,000 over them
all_handed_out : assigned (apportion 2000 tenths) ≡ 2000
all_handed_out = quotas_sum 2000 tenths (lit≤ tt) weighed

last_fair : Fair (get_or (apportion 2000 tenths) 2 0) 2000 (mag 0·3ᶠ) (sum tenths)
last_fair = quotas_fair 2000 tenths (lit≤ tt) weighed 2 (lit< tt)

-- 4 over ∞ and 1: two of them
one : Weight 1ᶠ
unfolding of_bits fits sgn
one = record { num = record { fit = tt; fine = tt }; nonneg = omega arith }

masses : Masses (∞ ∷ 1ᶠ ∷ [])
unfolding of_bits
masses = Unshared.more Unshared.infinite (Unshared.more (Unshared.some one) Unshared.none)

short : assigned (apportion 4 (∞ ∷ 1ᶠ ∷ [])) ≡ 2
short = one_each_sum 4 (∞ ∷ 1ᶠ ∷ []) (lit≤ tt) masses (infinite_weight (∞ ∷ 1ᶠ ∷ []) masses 0 (lit< tt) (unfold of_bits in refl))
