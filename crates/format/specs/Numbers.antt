-- The items that jobs and sheets are made of: big-endian numbers, read and written. Definitions only.
-- An item is whole (6) before its value is judged.
use Rattle.std.specs.Prelude.{ℕ, zero, suc, ◌+◌, ◌-◌, ◌*◌, ◌/◌, ◌%◌, Bool, true, ◌&&◌, cond, List, [], ◌∷◌, ◌++◌, length, get_or, ltb, leb, Float}
use Rattle.std.specs.Float.{binary64}
use Rattle.std.specs.Float.Ieee.{neg, to_bits, of_bits}
use Rattle.float.specs.Ops.{◌/ᶠ◌, literal}
use Rattle.float.specs.Whole.{as_f64}
use Rattle.glyphs.specs.declared.rect.Point.{Point}
use Rattle.format.specs.Rows.{◌unless◌, ◌or_else◌, faults}

-- ---- read

-- the number that the n bytes from `at` on stand for
unfoldable pub uint : ℕ → List ℕ → ℕ → ℕ
uint zero s at = 0
uint (suc n) s at = uint n s at * 256 + get_or s (at + n) 0

abbrev pub u8 : List ℕ → ℕ → ℕ
u8 s at = uint 1 s at

abbrev pub u16 : List ℕ → ℕ → ℕ
u16 s at = uint 2 s at

abbrev pub u32 : List ℕ → ℕ → ℕ
u32 s at = uint 4 s at

abbrev pub u64 : List ℕ → ℕ → ℕ
u64 s at = uint 8 s at

-- ---- written

-- the n bytes of v
unfoldable pub bytes : ℕ → ℕ → List ℕ
bytes zero v = []
bytes (suc n) v = bytes n (v / 256) ++ v % 256 ∷ []

-- ---- a float as its 64 bits

unfoldable pub float_at : List ℕ → ℕ → Float
float_at s at = of_bits binary64 (u64 s at)

unfoldable pub float_bytes : Float → List ℕ
float_bytes x = bytes 8 (to_bits binary64 x)

-- ---- judged

abbrev pub whole : List ℕ → ℕ → ℕ → Bool
whole s at n = leb (at + n) (length s)

abbrev pub within : ℕ → ℕ → ℕ → Bool
within least v most = leb least v && leb v most

-- the number of n bytes at `at`: whole, and in least..most, else refused with `number`
unfoldable pub item : ℕ → List ℕ → ℕ → ℕ → ℕ → ℕ → ℕ
item n s at least most number = 6 unless whole s at n or_else number unless within least (uint n s at) most

abbrev pub u8_in : List ℕ → ℕ → ℕ → ℕ → ℕ → ℕ
u8_in = item 1

abbrev pub u16_in : List ℕ → ℕ → ℕ → ℕ → ℕ → ℕ
u16_in = item 2

abbrev pub u32_in : List ℕ → ℕ → ℕ → ℕ → ℕ → ℕ
u32_in = item 4

-- ---- counted in 1/1024

unfoldable pub share : ℕ → Float
share n = as_f64 n /ᶠ literal 0x4090_0000_0000_0000

-- ---- coordinates: an i32, as its 32 bits u

-- it lies in -1,048,576..1,048,576
unfoldable pub in_range : ℕ → Bool
in_range u = cond (leb u 1048576) true (leb 4293918720 u)

unfoldable pub coord_of : ℕ → Float
coord_of u = cond (ltb u 2147483648) (share u) (neg (share (4294967296 - u)))

-- the coordinate at `at`: whole, and in its range, else refused with `number`
unfoldable pub coord_in : List ℕ → ℕ → ℕ → ℕ
coord_in s number at = 6 unless whole s at 4 or_else number unless in_range (u32 s at)

unfoldable pub coord_at : List ℕ → ℕ → Float
coord_at s at = coord_of (u32 s at)

abbrev pub next_coord : ℕ → ℕ
next_coord at = at + 4

-- ---- points: two coordinates, x and y; the first fault of the two wins

unfoldable pub point_in : List ℕ → ℕ → ℕ → ℕ
point_in s number at = faults (coord_in s number) next_coord 2 at

unfoldable pub point_at : List ℕ → ℕ → Point
point_at s at = record { x = coord_at s at; y = coord_at s (at + 4) }

abbrev pub next_point : ℕ → ℕ
next_point at = at + 8
