-- The answers of the leaves: which calls are refused, and the number and value of each answer. Definitions only.
use Rattle.std.specs.Prelude.{Bool, cond, ◌||◌, List, ℕ, ltb, length, Result, Ok, Err, Float}
use Rattle.laws.specs.Any.{any}
use Rattle.laws.specs.Lists.{written}
use Rattle.float.specs.Ops.{◌<ᶠ◌, 0ᶠ}
use Rattle.glyphs.specs.Halton.{radical_inverse}
use Rattle.glyphs.specs.Apportion.{apportion}
use Rattle.marks.specs.declared.leaves.Refusal.{Refusal}
use Rattle.marks.specs.declared.leaves.Refusal.TheVariants.{Base, Shares, Places}

abbrev pub number_of : Refusal → ℕ
number_of Base = 17
number_of Shares = 18
number_of Places = 19

-- ---- radical inverse: number 17 for a base outside 2..65,536, with value 0
unfoldable pub inverse_answer : ℕ → ℕ → Result Float Refusal
inverse_answer index base = cond (ltb base 2 || ltb 65536 base) (Err Base) (Ok (radical_inverse index base))

abbrev pub inverse_number : Result Float Refusal → ℕ
inverse_number (Ok v) = 0
inverse_number (Err refusal) = number_of refusal

abbrev pub inverse_value : Result Float Refusal → Float
inverse_value (Ok v) = v
inverse_value (Err refusal) = 0ᶠ

-- ---- quotas: number 18 for what cannot be shared out, then 19 for too few places
abbrev pub any_below : List Float → Bool
any_below weights = any (λ w. w <ᶠ 0ᶠ) weights

unfoldable pub quotas_answer : ℕ → List Float → ℕ → Result (Unit {0}) Refusal
quotas_answer count weights room =
    cond (ltb 2000 count || ltb 16 (length weights) || any_below weights) (Err Shares) (cond (ltb room (length weights)) (Err Places) (Ok tt))

abbrev pub quotas_number : Result (Unit {0}) Refusal → ℕ
quotas_number (Ok done) = 0
quotas_number (Err refusal) = number_of refusal

-- what the lent places hold at the end: the quotas in front where they are written, else what they held
abbrev pub places_after : Result (Unit {0}) Refusal → List ℕ → List ℕ → List ℕ
places_after (Ok done) quotas places = written quotas places
places_after (Err refusal) quotas places = places

unfoldable pub quotas_after : ℕ → List Float → List ℕ → List ℕ
unfolding quotas_answer
quotas_after count weights places = places_after (quotas_answer count weights (length places)) (apportion count weights) places
