-- A walk along the two halves of a ring, side by side: which vertex comes next, and an edge by its ends.
-- Rests on nothing but the definitions.
use Rattle.std.specs.Prelude.{ℕ, ◌+◌, ◌/◌, ◌<◌, ◌≡◌, Bool, Float}
use Rattle.std.proofs.Common.{arith, lt-ltb}
use Rattle.glyphs.specs.declared.rect.Point.{Point}
use Rattle.glyphs.specs.Points.{Ring, vertex_at, x_at, y_at}
use Rattle.regions.specs.Ring.{next}
use Rattle.regions.specs.Inside.{intersect}
use Rattle.regions.specs.Clearance.{edge_square, square_at}

-- whether the edge i, which runs from the vertex i to the next, is crossed
abbrev pub crosses_at : Float → Float → Ring → ℕ → ℕ → Bool
crosses_at x y v n i = intersect x y (x_at v (next n i)) (y_at v (next n i)) (x_at v i) (y_at v i)

pub next_is : (n i : ℕ) → i + 1 < n → next n i ≡ i + 1
unfolding next
next_is n i h = rw (lt-ltb (i + 1) n h)

-- the edges i of both halves
pub in_first : (n i : ℕ) → i < n / 2 → i + 1 < n
in_first n i h = omega arith

pub in_second : (n i : ℕ) → i < n / 2 → n / 2 + i < n
in_second n i h = omega arith

module _ (px py : Float) (ring : Ring) (n i : ℕ) (a b : Point) (p : a ≡ vertex_at ring i) (q : b ≡ vertex_at ring (next n i)) where
  pub its_square : edge_square px py a.x a.y b.x b.y ≡ square_at px py ring n i
  its_square = rw (p, q)

  pub its_crossing : intersect px py b.x b.y a.x a.y ≡ crosses_at px py ring n i
  its_crossing = rw (p, q)
