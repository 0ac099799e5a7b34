-- A piece's rings, and those that are still to come of a walk over them, as the lists that the reference speaks of.
-- Taking the first ring off leaves the others. Rests on the laws of Ring.
use Rattle.std.specs.Prelude.{◌≡◌, ℕ, ◌+◌, ◌<◌, ◌≤◌, refl, List, [], ◌∷◌, length, get_or, take, drop}
use Rattle.std.proofs.Common.{ap, ◌∙◌, arith, length-drop}
use Rattle.std.proofs.lemmas.List.{drop-drop}
use Rattle.glyphs.specs.declared.rect.Point.{Point}
use Rattle.regions.specs.declared.piece.RegionPiece.{RegionPiece}
use Rattle.regions.specs.declared.piece.Rings.{Rings}
use Rattle.regions.specs.Ring.{Piece, rings_from, piece_of, part, sum, outer, first_ring, rings_end}

abbrev pub rings_of : RegionPiece → Piece
rings_of piece = piece_of piece.sizes.now piece.points.now

abbrev pub rings_left : Rings → Piece
rings_left rings = piece_of rings.sizes.now rings.points.now

-- ---- laws

-- rings that start later are those of what is left
pub rings_shift : (a b : ℕ) (sizes : List ℕ) (points : List Point) → rings_from (a + b) sizes points ≡ rings_from a sizes (drop b points)
unfolding rings_from part
rings_shift a b [] points = refl
rings_shift a b (n ∷ sizes) points =
    let e : b + a ≡ a + b = omega arith in
    let s : a + b + n ≡ a + n + b = omega arith in
    rw (drop-drop a b points, e, s, rings_shift (a + n) b sizes points) refl

-- the first ring, and the others
pub rings_cons : (n : ℕ) (sizes : List ℕ) (points : List Point) → piece_of (n ∷ sizes) points ≡ take n points ∷ piece_of sizes (drop n points)
unfolding rings_from part
rings_cons n sizes points = ap (λ (rings : Piece). take n points ∷ rings) (rings_shift 0 n sizes points)

pub rings_none : (sizes : List ℕ) (points : List Point) → length sizes ≡ 0 → piece_of sizes points ≡ []
unfolding rings_from
rings_none [] points h = refl
rings_none (n ∷ sizes) points h = absurd (omega arith)

-- where a list of sizes is taken apart, what is left of the points has room for the others
module _ (all : List ℕ) (n : ℕ) (sizes : List ℕ) (points : List Point) (e : all ≡ n ∷ sizes) where
  total : sum all ≡ n + sum sizes
  unfolding sum
  total = rw e refl

  pub first_fits : sum all ≤ length points → n ≤ length points
  first_fits h = omega (arith, total)

  pub others_fit : sum all ≤ length points → sum sizes ≤ length (drop n points)
  others_fit h = rw length-drop (omega (arith, total))

  pub takes_first : piece_of all points ≡ take n points ∷ piece_of sizes (drop n points)
  takes_first = rw e (rings_cons n sizes points)

  pub one_fewer : length (piece_of sizes (drop n points)) < length (piece_of all points)
  one_fewer = rw takes_first (omega arith)

-- a piece of one ring is its outer ring
pub alone : (sizes : List ℕ) (points : List Point) → length sizes ≡ 1 → piece_of sizes points ≡ outer (piece_of sizes points) ∷ []
unfolding outer
alone sizes points h =
    let ring = part points 0 (get_or sizes 0 0) in
    let last = rings_end (get_or sizes 0 0) sizes points 1 (omega arith) in
    let e : piece_of sizes points ≡ ring ∷ [] = first_ring sizes points (omega arith) ∙ ap (λ (others : Piece). ring ∷ others) last in
    rw e
