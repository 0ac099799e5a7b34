-- discs.rs, `radical_inverse`. Definitions only.
use Rattle.std.specs.Prelude.{ℕ, zero, suc, ◌/◌, ◌%◌, cond, ◌==◌, Float}
use Rattle.float.specs.Ops.{◌+ᶠ◌, ◌*ᶠ◌, ◌/ᶠ◌, 0ᶠ, 1ᶠ}
use Rattle.float.specs.Whole.{as_f64}

-- the loop while index > 0, on fuel: a turn takes the last digit off
unfoldable pub digits : ℕ → ℕ → ℕ → Float → Float → Float
digits zero base index value weight = value
digits (suc fuel) base index value weight =
    cond (index == 0) value
    (digits fuel base (index / base) (value +ᶠ as_f64 (index % base) *ᶠ weight) (weight /ᶠ as_f64 base))

-- the index itself is fuel enough, since each turn makes it smaller
unfoldable pub radical_inverse : ℕ → ℕ → Float
unfolding digits
radical_inverse index base = digits index base index 0ᶠ (1ᶠ /ᶠ as_f64 base)
