-- Laws of rings and pieces.
-- Rests on the laws of rows and items.
use Rattle.std.specs.Prelude.{ℕ, zero, suc, ◌+◌, ◌*◌, ◌≤◌, ◌≡◌, length}
use Rattle.std.proofs.Common.{sym, arith, length-append}
use mathlib.Core.List.{List, map, flatten}
use Rattle.glyphs.specs.Points.{vertices}
use Rattle.format.specs.Rows.{faults, flat}
use Rattle.format.specs.Numbers.{u8, u16, point_at, next_point}
use Rattle.format.specs.Pieces.{ring, ring_fault, ring_end, piece, piece_fault, piece_end, piece_points, ring_sizes}
use Rattle.format.specs.RowLaws.{both, past_within, length_each, each_map, flat_flatten}
use Rattle.format.specs.NumberLaws.{item_passed, coords_inside}

-- ---- what has no fault is whole

pub ring_inside : (s : List ℕ) (at : ℕ) → ring_fault s at ≡ 0 → ring_end s at ≤ length s
unfolding ring_fault ring_end
ring_inside s at e =
    let p = both _ _ e in
    omega (arith, coords_inside s 13 (2 * u16 s at) (at + 2) (item_passed 2 s at 0 256 9 (omega arith) p.0).inside p.1)

pub piece_inside : (s : List ℕ) (at : ℕ) → piece_fault s at ≡ 0 → piece_end s at ≤ length s
unfolding piece_fault piece_end
piece_inside s at e =
    let p = both _ _ e in
    let first = (item_passed 1 s at 1 9 9 (omega arith) p.0).inside in
    past_within (ring_fault s) (ring_end s) (length s) (ring_inside s) (u8 s at) (at + 1) first p.1

-- ---- what stands in the flat slices

pub ring_vertices : (s : List ℕ) (at : ℕ) → u16 s at ≡ vertices (ring s at)
unfolding ring
ring_vertices s at = sym (length_each next_point (point_at s) (u16 s at) (at + 2))

pub points_flat : (s : List ℕ) (at : ℕ) → piece_points s at ≡ flatten (piece s at)
unfolding piece_points piece
points_flat s at = flat_flatten (ring_end s) (ring s) (u8 s at) (at + 1)

pub sizes_map : (s : List ℕ) (at : ℕ) → ring_sizes s at ≡ map vertices (piece s at)
unfolding ring_sizes piece
sizes_map s at = each_map (ring_end s) (ring s) vertices (u16 s) (ring_vertices s) (u8 s at) (at + 1)

pub length_piece : (s : List ℕ) (at : ℕ) → u8 s at ≡ length (piece s at)
unfolding piece
length_piece s at = sym (length_each (ring_end s) (ring s) (u8 s at) (at + 1))

-- ---- how many rings

pub length_sizes : (s : List ℕ) (at : ℕ) → length (ring_sizes s at) ≡ u8 s at
unfolding ring_sizes
length_sizes s at = length_each (ring_end s) (u16 s) (u8 s at) (at + 1)

-- a piece without fault has at most 9 rings
pub few_rings_lem : (s : List ℕ) (at : ℕ) → piece_fault s at ≡ 0 → length (ring_sizes s at) ≤ 9
unfolding piece_fault
few_rings_lem s at e = omega (arith, length_sizes s at, (item_passed 1 s at 1 9 9 (omega arith) (both _ _ e).0).to)

pub few_rings_each : (s : List ℕ) (n at : ℕ) → faults (piece_fault s) (piece_end s) n at ≡ 0 → length (flat (ring_sizes s) (piece_end s) n at) ≤ 9 * n
unfolding faults flat
few_rings_each s zero at e = omega arith
few_rings_each s (suc n) at e =
    let p = both _ _ e in
    simp length-append (omega (arith, few_rings_lem s at p.0, few_rings_each s n (piece_end s at) p.1))
