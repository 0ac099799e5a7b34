-- What is known of rings and pieces without fault.
-- Rests on the laws of runs, and on coordinates being exact.
use Rattle.std.specs.Prelude.{ℕ, zero, suc, ◌+◌, ◌*◌, ◌≤◌, ◌≡◌, List, [], ◌∷◌, length}
use Rattle.std.proofs.Common.{arith}
use Rattle.glyphs.specs.declared.rect.Point.{Point}
use Rattle.glyphs.specs.Points.{Ring, vertices}
use Rattle.regions.specs.Ring.{Piece}
use Rattle.format.specs.Rows.{faults, each}
use Rattle.format.specs.Numbers.{u8, u16, u32, in_range, coord_in, coord_at, next_coord, point_in, point_at, next_point}
use Rattle.format.specs.Pieces.{ring_fault, ring_end, ring, piece_fault, piece}
use Rattle.format.specs.RowLaws.{both, passed}
use Rattle.format.specs.NumberLaws.{item_passed, faults_points}
use Rattle.format.specs.PieceLaws.{ring_vertices, length_piece}
use Rattle.format.specs.Exact.{Coordinate, coordinate}

abbrev pub All : {A : Type 0} → (A → Type 0) → List A → Type 0
All P [] = Unit {0}
All P (x ∷ xs) = P x × All P xs

-- things without fault, one after the other
pub all_each :
    {S A : Type 0} (P : A → Type 0) (fault : S → ℕ) (next : S → S) (view : S → A) → ((z : S) → fault z ≡ 0 → P (view z))
    → (n : ℕ) (at : S) → faults fault next n at ≡ 0 → All P (each view next n at)
unfolding faults each
all_each P fault next view h zero at e = tt
all_each P fault next view h (suc n) at e =
    let p = both (fault at) (faults fault next n (next at)) e in
    (h at p.0, all_each P fault next view h n (next at) p.1)

-- ---- coordinates

coord_known : (s : List ℕ) (number : ℕ) → 1 ≤ number → (at : ℕ) → coord_in s number at ≡ 0 → Coordinate (coord_at s at)
unfolding coord_in coord_at
coord_known s number h at e = coordinate (u32 s at) (passed number (in_range (u32 s at)) h (both _ _ e).1)

pub coords_known :
    (s : List ℕ) (number n at : ℕ) → 1 ≤ number → faults (coord_in s number) next_coord n at ≡ 0
    → All Coordinate (each (coord_at s) next_coord n at)
coords_known s number n at h e = all_each Coordinate (coord_in s number) next_coord (coord_at s) (coord_known s number h) n at e

-- ---- points

pub record PointKnown (p : Point) : Type 0 where
  pub x : Coordinate p.x
  pub y : Coordinate p.y

point_known : (s : List ℕ) (number : ℕ) → 1 ≤ number → (at : ℕ) → point_in s number at ≡ 0 → PointKnown (point_at s at)
unfolding point_in point_at faults
point_known s number h at e =
    let p = both _ _ e in
    record { x = coord_known s number h at p.0; y = coord_known s number h (at + 4) (both _ _ p.1).0 }

pub points_known :
    (s : List ℕ) (number n at : ℕ) → 1 ≤ number → faults (coord_in s number) next_coord (2 * n) at ≡ 0
    → All PointKnown (each (point_at s) next_point n at)
points_known s number n at h e =
    all_each PointKnown (point_in s number) next_point (point_at s) (point_known s number h) n at (rw faults_points at e)

-- ---- rings and pieces

pub record RingKnown (r : Ring) : Type 0 where
  pub few : vertices r ≤ 256
  pub points : All PointKnown r

pub ring_known : (s : List ℕ) (at : ℕ) → ring_fault s at ≡ 0 → RingKnown (ring s at)
unfolding ring_fault
ring_known s at e =
    let p = both _ _ e in
    record {
      few = omega (arith, (item_passed 2 s at 0 256 9 (omega arith) p.0).to, ring_vertices s at);
      points = unfold ring in points_known s 13 (u16 s at) (at + 2) (omega arith) p.1;
    }

pub record PieceKnown (p : Piece) : Type 0 where
  pub some : 1 ≤ length p
  pub few : length p ≤ 9
  pub rings : All RingKnown p

pub piece_known : (s : List ℕ) (at : ℕ) → piece_fault s at ≡ 0 → PieceKnown (piece s at)
unfolding piece_fault
piece_known s at e =
    let p = both _ _ e in
    let i = item_passed 1 s at 1 9 9 (omega arith) p.0 in
    let l = length_piece s at in
    record {
      some = omega (arith, i.from);
      few = omega (arith, i.to);
      rings = unfold piece in all_each RingKnown (ring_fault s) (ring_end s) (ring s) (ring_known s) (u8 s at) (at + 1) p.1;
    }
