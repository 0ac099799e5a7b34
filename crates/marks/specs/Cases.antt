-- Worked cases, as one list: what is asked of the definitions, and what they answer.
-- Proved by computation.
use Rattle.std.specs.Prelude.{◌≡◌, refl, Bool, true, false, List, [], ◌∷◌, map, ℕ, negsuc, Float}
use Rattle.std.specs.Float.Ieee
use Rattle.std.specs.Float.{nan, binary64}
use Rattle.std.specs.Float.Ieee.{to_bits}
use Rattle.laws.specs.Lists.{up_to}
use Rattle.laws.specs.Sort.{insert, sort_by}
use Rattle.float.specs.Ops.{0ᶠ, -0ᶠ, ½ᶠ, 1ᶠ, 2ᶠ, ∞, literal}
use Rattle.float.specs.Order.{max, sqrt}
use Rattle.float.specs.Root.{root_of, nearest_root, floor_root}
use Rattle.float.specs.Whole.{floor}
use Rattle.float.specs.Total.{total_key, total_cmp}
use Rattle.glyphs.specs.Hash.{fnv1a}
use Rattle.glyphs.specs.Halton.{radical_inverse, digits}
use Rattle.glyphs.specs.Apportion.{total, no_weight, share, whole_share, remainder, base, rems, assigned, by_remainder, order, hand_out, apportion}
use Rattle.lattice.specs.declared.context.Lattice.{Lattice}
use Rattle.lattice.specs.Lattice.{rem_euclid2, is_shifted}
use Rattle.marks.specs.Leaves.{inverse_answer, inverse_number, inverse_value}

pub data Answer : Type 0 where
  float : Float → Answer
  number : ℕ → Answer
  quotas : List ℕ → Answer
  shifted : Bool → Answer

pub record Case : Type 0 where
  pub asked : Answer
  pub answer : Answer

infix 90 ◌is◌
abbrev pub ◌is◌ : Answer → Answer → Case
a is b = record { asked = a; answer = b }

abbrev pub 0·25 : Float
0·25 = literal 0x3fd0_0000_0000_0000

abbrev pub 0·375 : Float
0·375 = literal 0x3fd8_0000_0000_0000

-- Uniform, with spacing 1
abbrev pub uniform : Lattice
uniform = record { spacing = 1ᶠ; rectangular = false }

abbrev pub cases : List Case
cases =
    float (sqrt 0·25) is float ½ᶠ
    ∷ float (sqrt -0ᶠ) is float -0ᶠ
    ∷ number (to_bits binary64 (sqrt 2ᶠ)) is number 0x3ff6_a09e_667f_3bcd
    ∷ number (fnv1a []) is number 0xcbf2_9ce4_8422_2325
    ∷ float (inverse_value (inverse_answer 0 2)) is float 0ᶠ
    ∷ float (inverse_value (inverse_answer 6 2)) is float 0·375
    ∷ number (inverse_number (inverse_answer 6 1)) is number 17
    ∷ number (inverse_number (inverse_answer 6 2)) is number 0
    ∷ quotas (apportion 5 (1ᶠ ∷ 1ᶠ ∷ 1ᶠ ∷ [])) is quotas (2 ∷ 2 ∷ 1 ∷ [])
    ∷ quotas (apportion 3 (0ᶠ ∷ 0ᶠ ∷ [])) is quotas (3 ∷ 0 ∷ [])
    ∷ quotas (apportion 4 (∞ ∷ 1ᶠ ∷ [])) is quotas (1 ∷ 1 ∷ [])
    ∷ quotas (apportion 2 (nan ∷ 1ᶠ ∷ [])) is quotas (2 ∷ 0 ∷ [])
    ∷ shifted (is_shifted uniform (negsuc 0)) is shifted true
    ∷ shifted (is_shifted uniform (negsuc 1)) is shifted false
    ∷ []

pub right : map (λ (c : Case). c.asked) cases ≡ map (λ (c : Case). c.answer) cases
unfolding root_of nearest_root floor_root fnv1a radical_inverse digits inverse_answer apportion total no_weight share whole_share remainder base rems assigned
    by_remainder order hand_out rem_euclid2 is_shifted up_to insert sort_by max floor total_key total_cmp Ieee.is_nan Ieee.le Ieee.eq Ieee.to_unsigned
    Ieee.to_bits Ieee.of_bits Ieee.of_fields Ieee.odd Ieee.climb Ieee.span Ieee.size Ieee.units Ieee.round Ieee.neg Ieee.sum Ieee.add Ieee.sub Ieee.mul
    Ieee.div Ieee.lt Ieee.of_int
right = refl
