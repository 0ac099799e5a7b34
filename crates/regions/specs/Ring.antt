-- A ring is the list of its vertices; a piece is the list of its rings, the outer ring first.
-- A piece comes as the sizes of its rings and their vertices, ring after ring. The laws take it apart for loops.
use Rattle.std.specs.Prelude.{ℕ, zero, suc, ◌+◌, ◌-◌, ◌<◌, ◌≤◌, ◌≡◌, refl, cond, List, [], ◌∷◌, ltb, length, get_or, take, drop}
use Rattle.std.proofs.Common.{arith, add-one, zero-add, length-take, length-drop, drop_of_length-le, drop-cons}
use Rattle.glyphs.specs.declared.rect.Point.{Point}
use Rattle.glyphs.specs.Points.{Ring, vertices}

abbrev pub Piece : Type 0
Piece = List Ring

-- (i + 1) % n, for an i below n
unfoldable pub next : ℕ → ℕ → ℕ
next n i = cond (ltb (i + 1) n) (i + 1) 0

-- the index before i, and n - 1 before 0
unfoldable pub prev : ℕ → ℕ → ℕ
prev n zero = n - 1
prev n (suc i) = i

-- the n vertices from the vertex a on
unfoldable pub part : List Point → ℕ → ℕ → Ring
part points a n = take n (drop a points)

-- the rings of the given sizes, the first of which starts at the vertex a
unfoldable pub rings_from : ℕ → List ℕ → List Point → Piece
rings_from a [] points = []
rings_from a (n ∷ sizes) points = part points a n ∷ rings_from (a + n) sizes points

abbrev pub piece_of : List ℕ → List Point → Piece
piece_of sizes points = rings_from 0 sizes points

-- how many vertices the rings have
unfoldable pub sum : List ℕ → ℕ
sum [] = 0
sum (n ∷ sizes) = n + sum sizes

-- piece.outer and piece.holes
unfoldable pub outer : Piece → Ring
outer [] = []
outer (ring ∷ rings) = ring

unfoldable pub holes : Piece → List Ring
holes [] = []
holes (ring ∷ rings) = rings

-- ---- laws

pub rings_step :
    (a : ℕ) (sizes : List ℕ) (points : List Point) (k : ℕ) → k < length sizes
    → rings_from a (drop k sizes) points
    ≡ part points a (get_or sizes k 0) ∷ rings_from (a + get_or sizes k 0) (drop (k + 1) sizes) points
unfolding rings_from
rings_step a sizes points k h = rw (add-one, drop-cons sizes k 0)

pub rings_end : (a : ℕ) (sizes : List ℕ) (points : List Point) (k : ℕ) → length sizes ≤ k → rings_from a (drop k sizes) points ≡ []
unfolding rings_from
rings_end a sizes points k h = rw drop_of_length-le

pub sum_step : (sizes : List ℕ) (k : ℕ) → k < length sizes → sum (drop k sizes) ≡ get_or sizes k 0 + sum (drop (k + 1) sizes)
unfolding sum
sum_step sizes k h = rw (add-one, drop-cons sizes k 0)

pub first_ring :
    (sizes : List ℕ) (points : List Point) → 0 < length sizes
    → piece_of sizes points ≡ part points 0 (get_or sizes 0 0) ∷ rings_from (get_or sizes 0 0) (drop 1 sizes) points
unfolding rings_from
first_ring [] points h = absurd (omega arith)
first_ring (n ∷ sizes) points h = rw zero-add

pub first_sum : (sizes : List ℕ) → 0 < length sizes → sum sizes ≡ get_or sizes 0 0 + sum (drop 1 sizes)
unfolding sum
first_sum [] h = absurd (omega arith)
first_sum (n ∷ sizes) h = refl

pub outer_is : (sizes : List ℕ) (points : List Point) → 0 < length sizes → outer (piece_of sizes points) ≡ part points 0 (get_or sizes 0 0)
unfolding outer
outer_is sizes points h = rw (first_ring sizes points h)

-- the outer ring has as many vertices as its size says
pub outer_vertices :
    (sizes : List ℕ) (points : List Point) → 0 < length sizes → sum sizes ≤ length points
    → vertices (outer (piece_of sizes points)) ≡ get_or sizes 0 0
unfolding part
outer_vertices sizes points h r =
    let s = first_sum sizes h in
    rw (outer_is sizes points h) (simp (length-take, length-drop) (omega arith))
