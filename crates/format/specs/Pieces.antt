-- The job's rings and pieces: what is refused, what stands there, and where it ends. Definitions only.
-- What stands at a place is defined on any bytes; it is the job's where no fault is found.
use Rattle.std.specs.Prelude.{ℕ, ◌+◌, ◌*◌, List}
use Rattle.glyphs.specs.declared.rect.Point.{Point}
use Rattle.glyphs.specs.Points.{Ring}
use Rattle.regions.specs.Ring.{Piece}
use Rattle.format.specs.Rows.{◌or_else◌, faults, past, each, flat}
use Rattle.format.specs.Numbers.{u8, u16, u8_in, u16_in, coord_in, next_coord, point_at, next_point}

-- ---- a ring: vertex count u16 0..256, vertices as i32 pairs

unfoldable pub ring_fault : List ℕ → ℕ → ℕ
ring_fault s at =
    u16_in s at 0 256 9
    or_else faults (coord_in s 13) next_coord (2 * u16 s at) (at + 2)

unfoldable pub ring_end : List ℕ → ℕ → ℕ
ring_end s at = at + 2 + 8 * u16 s at

unfoldable pub ring : List ℕ → ℕ → Ring
ring s at = each (point_at s) next_point (u16 s at) (at + 2)

-- ---- a piece: ring count u8 1..9, rings

unfoldable pub piece_fault : List ℕ → ℕ → ℕ
piece_fault s at =
    u8_in s at 1 9 9
    or_else faults (ring_fault s) (ring_end s) (u8 s at) (at + 1)

unfoldable pub piece_end : List ℕ → ℕ → ℕ
piece_end s at = past (ring_end s) (u8 s at) (at + 1)

unfoldable pub piece : List ℕ → ℕ → Piece
piece s at = each (ring s) (ring_end s) (u8 s at) (at + 1)

-- the points of its rings, end to end, and the number of vertices of each
unfoldable pub piece_points : List ℕ → ℕ → List Point
piece_points s at = flat (ring s) (ring_end s) (u8 s at) (at + 1)

unfoldable pub ring_sizes : List ℕ → ℕ → List ℕ
ring_sizes s at = each (u16 s) (ring_end s) (u8 s at) (at + 1)
