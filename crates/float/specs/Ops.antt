-- Rust's operators on `f64`, for definitions: each rounds once, by the kit's account of IEEE 754. Definitions only.
use Rattle.std.specs.Prelude.{ℕ, Bool, from_bits, Float}
use Rattle.std.specs.Float.{binary64}
use Rattle.std.specs.Float.Ieee.{add, sub, mul, div, neg, lt, le, eq}

infixl 60 ◌+ᶠ◌
infixl 60 ◌-ᶠ◌
infixl 70 ◌*ᶠ◌
infixl 70 ◌/ᶠ◌
infix 40 ◌<ᶠ◌
infix 40 ◌≤ᶠ◌
infix 40 ◌>ᶠ◌
infix 40 ◌≥ᶠ◌
infix 40 ◌==ᶠ◌
abbrev pub ◌+ᶠ◌ : Float → Float → Float
x +ᶠ y = add binary64 x y

abbrev pub ◌-ᶠ◌ : Float → Float → Float
x -ᶠ y = sub binary64 x y

abbrev pub ◌*ᶠ◌ : Float → Float → Float
x *ᶠ y = mul binary64 x y

abbrev pub ◌/ᶠ◌ : Float → Float → Float
x /ᶠ y = div binary64 x y

abbrev pub ◌<ᶠ◌ : Float → Float → Bool
x <ᶠ y = lt x y

abbrev pub ◌≤ᶠ◌ : Float → Float → Bool
x ≤ᶠ y = le x y

abbrev pub ◌>ᶠ◌ : Float → Float → Bool
x >ᶠ y = lt y x

abbrev pub ◌≥ᶠ◌ : Float → Float → Bool
x ≥ᶠ y = le y x

abbrev pub ◌==ᶠ◌ : Float → Float → Bool
x ==ᶠ y = eq x y

-- a literal by its bit pattern: 0.0, -0.0, 0.5, 1.0, 2.0, f64::INFINITY and f64::EPSILON
abbrev pub literal : ℕ → Float
literal b = from_bits binary64 b

abbrev pub 0ᶠ : Float
0ᶠ = literal 0

abbrev pub -0ᶠ : Float
-0ᶠ = neg 0ᶠ

abbrev pub ½ᶠ : Float
½ᶠ = literal 0x3fe0_0000_0000_0000

abbrev pub 1ᶠ : Float
1ᶠ = literal 0x3ff0_0000_0000_0000

abbrev pub 2ᶠ : Float
2ᶠ = literal 0x4000_0000_0000_0000

abbrev pub ∞ : Float
∞ = literal 0x7ff0_0000_0000_0000

abbrev pub ε : Float
ε = literal 0x3cb0_0000_0000_0000
