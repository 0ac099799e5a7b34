-- A key byte is a letter or a digit of ASCII.
-- Rests on nothing but the definitions.
use Rattle.std.specs.Prelude.{ℕ, ◌≡◌, refl, Bool, true, false, ◌||◌}
use Rattle.std.specs.Char.{is_ascii_alphanumeric}
use Rattle.format.specs.Numbers.{within}
use Rattle.job.specs.Zones.{letter}

turned : (digit capital small : Bool) → (digit || capital) || small ≡ capital || small || digit
turned true true small = refl
turned true false true = refl
turned true false false = refl
turned false true small = refl
turned false false true = refl
turned false false false = refl

pub letter_is : (b : ℕ) → is_ascii_alphanumeric b ≡ letter b
unfolding letter
letter_is b = turned (within 48 b 57) (within 65 b 90) (within 97 b 122)
