-- The job's zones: what is refused, what stands there, and where it ends. Definitions only.
use Rattle.std.specs.Prelude.{ℕ, ◌+◌, Bool, true, false, cond, ◌||◌, List, [], ◌∷◌, take, drop, ltb, leb}
use Rattle.glyphs.specs.declared.rect.Point.{Point}
use Rattle.format.specs.Rows.{◌unless◌, ◌or_else◌, faults, past, each, flat}
use Rattle.format.specs.Numbers.{u8, u16, u8_in, u16_in, whole, within}
use Rattle.format.specs.Pieces.{piece, piece_fault, piece_end, piece_points, ring_sizes}
use Rattle.discs.specs.Region.{Zone}
use Rattle.discs.specs.declared.rows.Row.{Row}

-- ---- a key: key length u8 1..32, key bytes A-Z, a-z, 0-9; above the last key in byte order

unfoldable pub letter : ℕ → Bool
letter b = within 65 b 90 || within 97 b 122 || within 48 b 57

unfoldable pub letter_fault : List ℕ → ℕ → ℕ
letter_fault s at = 6 unless whole s at 1 or_else 10 unless letter (u8 s at)

abbrev pub next_byte : ℕ → ℕ
next_byte at = at + 1

-- x comes after y; a proper prefix comes before
unfoldable pub above : List ℕ → List ℕ → Bool
above [] y = false
above (a ∷ x) [] = true
above (a ∷ x) (b ∷ y) = cond (ltb b a) true (cond (ltb a b) false (above x y))

-- the key of the zone at `at`
unfoldable pub key_at : List ℕ → ℕ → List ℕ
key_at s at = take (u8 s at) (drop (at + 1) s)

unfoldable pub key_fault : List ℕ → ℕ → List ℕ → ℕ
key_fault s at last =
    u8_in s at 1 32 9
    or_else faults (letter_fault s) next_byte (u8 s at) (at + 1)
    or_else 11 unless above (key_at s at) last

-- ---- mark count u16 0..2,000, with the running total; piece count u8 0..16

unfoldable pub counts_fault : List ℕ → ℕ → ℕ → ℕ
counts_fault s at marks =
    u16_in s at 0 2000 9
    or_else 12 unless leb (marks + u16 s at) 2000
    or_else u8_in s (at + 2) 0 16 9

-- ---- a zone: key, counts, pieces

-- where its mark count stands
unfoldable pub count_at : List ℕ → ℕ → ℕ
count_at s at = at + 1 + u8 s at

abbrev pub marks_at : List ℕ → ℕ → ℕ
marks_at s at = u16 s (count_at s at)

abbrev pub pieces_at : List ℕ → ℕ → ℕ
pieces_at s at = u8 s (count_at s at + 2)

unfoldable pub zone_end : List ℕ → ℕ → ℕ
zone_end s at = past (piece_end s) (pieces_at s at) (count_at s at + 3)

unfoldable pub zone : List ℕ → ℕ → Zone
zone s at =
    record {
      key = key_at s at;
      count = marks_at s at;
      pieces = each (piece s) (piece_end s) (pieces_at s at) (count_at s at + 3);
    }

-- where a zone stands, the key before it (none before the first), and the marks so far
pub record Place : Type 0 where
  pub at : ℕ
  pub last : List ℕ
  pub marks : ℕ

-- the first zone's, at `at`
abbrev pub first_place : ℕ → Place
first_place at = record { at = at; last = []; marks = 0 }

-- its key and its counts
unfoldable pub opening_fault : List ℕ → Place → ℕ
opening_fault s z = key_fault s z.at z.last or_else counts_fault s (count_at s z.at) z.marks

unfoldable pub zone_fault : List ℕ → Place → ℕ
zone_fault s z =
    opening_fault s z
    or_else faults (piece_fault s) (piece_end s) (pieces_at s z.at) (count_at s z.at + 3)

unfoldable pub zone_next : List ℕ → Place → Place
zone_next s z = record { at = zone_end s z.at; last = key_at s z.at; marks = z.marks + marks_at s z.at }

-- ---- what the reader puts into flat slices of a zone

-- the points of its pieces, end to end, the number of vertices of each ring, the number of rings of each piece
unfoldable pub zone_points : List ℕ → ℕ → List Point
zone_points s at = flat (piece_points s) (piece_end s) (pieces_at s at) (count_at s at + 3)

unfoldable pub zone_sizes : List ℕ → ℕ → List ℕ
zone_sizes s at = flat (ring_sizes s) (piece_end s) (pieces_at s at) (count_at s at + 3)

unfoldable pub zone_rings : List ℕ → ℕ → List ℕ
zone_rings s at = each (u8 s) (piece_end s) (pieces_at s at) (count_at s at + 3)

-- where its key starts, how long that is, its mark count, its piece count
unfoldable pub row_at : List ℕ → ℕ → Row
row_at s at = record { key = at + 1; len = u8 s at; count = marks_at s at; pieces = pieces_at s at }
