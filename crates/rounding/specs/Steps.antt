-- Where a lattice puts a point: anchor + offset + i * s across and anchor + j * h along, each operation rounded, against the exact places.
-- Rests on `Errors`; whole numbers of steps are exact floats.
use Rattle.std.specs.Prelude.{Bool, true, false, cond, ℕ, ◌*◌, ◌≤◌, ℤ, nat_abs, Float}
use Rattle.std.specs.Float.{binary64}
use Rattle.std.specs.Float.Ieee.{of_int}
use Rattle.float.specs.Ops.{◌+ᶠ◌, ◌*ᶠ◌, ◌/ᶠ◌, 0ᶠ, 2ᶠ}
use Rattle.rounding.specs.Signed.{Exact, nat, ◌⊕◌}
use Rattle.rounding.specs.Value.{U, mag}
use Rattle.rounding.specs.Integers.{int}

-- anchor + offset + i as f64 * s
abbrev pub across : Float → Float → ℤ → Float → Float
across anchor offset i s = anchor +ᶠ offset +ᶠ of_int binary64 i *ᶠ s

-- anchor + j as f64 * row_h
abbrev pub along : Float → ℤ → Float → Float
along anchor j h = anchor +ᶠ of_int binary64 j *ᶠ h

-- s / 2.0 for a shifted row, else 0.0
abbrev pub offset : Bool → Float → Float
offset odd s = cond odd (s /ᶠ 2ᶠ) 0ᶠ

-- i steps of h are 131,072 at most
abbrev pub Reach : ℤ → Float → Type 0
Reach i h = nat_abs i * mag h ≤ 131072 * U

-- ---- the offset: half a spacing, or nothing
abbrev pub halves : Bool → ℕ
halves true = 1
halves false = 0

-- ---- across: three roundings, and the offset's. In half steps, 2 * i and one more in a shifted row
abbrev pub half_steps : Bool → ℤ → Exact
half_steps odd i = int i ⊕ int i ⊕ nat (halves odd)
