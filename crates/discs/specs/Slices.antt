-- The pieces still to come of a walk over them, as the list that the reference speaks of. Taking the first piece off leaves the others.
-- Rests on the definition of pieces that lie in slices.
use Rattle.std.specs.Prelude.{◌≡◌, ℕ, ◌<◌, refl, List, [], ◌∷◌, length, take, drop}
use Rattle.std.proofs.Common.{arith, length-take-le}
use Rattle.glyphs.specs.declared.rect.Point.{Point}
use Rattle.regions.specs.Ring.{Piece, piece_of, sum}
use Rattle.discs.specs.Pieces.{pieces_of, Lies, Laid}
use Rattle.discs.specs.declared.pieces.Pieces.{Pieces}

abbrev pub pieces_left : Pieces → List Piece
pieces_left pieces = pieces_of pieces.rings.now pieces.sizes.now pieces.points.now

-- ---- laws

pub no_pieces : (rings sizes : List ℕ) (points : List Point) → length rings ≡ 0 → pieces_of rings sizes points ≡ []
unfolding pieces_of
no_pieces [] sizes points h = refl
no_pieces (n ∷ rings) sizes points h = absurd (omega arith)

-- where the list of the pieces' rings is taken apart
module _ (all : List ℕ) (n : ℕ) (later sizes : List ℕ) (points : List Point) (e : all ≡ n ∷ later) where
  pub first_lies : Laid all sizes points → Lies n sizes points
  unfolding Laid
  first_lies laid = (rw e at laid).0

  pub others_laid : Laid all sizes points → Laid later (drop n sizes) (drop (sum (take n sizes)) points)
  unfolding Laid
  others_laid laid = (rw e at laid).1

  pub first_piece : pieces_of all sizes points ≡ piece_of (take n sizes) points ∷ pieces_of later (drop n sizes) (drop (sum (take n sizes)) points)
  unfolding pieces_of
  first_piece = rw e

pub has_ring : (n : ℕ) (sizes : List ℕ) (points : List Point) → Lies n sizes points → 0 < length (take n sizes)
has_ring n sizes points l = omega (arith, length-take-le n sizes l.sized, l.some)
