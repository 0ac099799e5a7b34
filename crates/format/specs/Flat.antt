-- A piece that stands flat in two slices, its ring sizes and its points, is that piece.
-- Rests on the kit's laws of lists.
use Rattle.std.specs.Prelude.{ℕ, ◌+◌, ◌≡◌, refl, length, drop}
use Rattle.std.proofs.Common.{◌∙◌, arith, length-append}
use mathlib.Core.List.{List, [], ◌∷◌, ◌++◌, append_assoc, map, flatten}
use Rattle.std.proofs.Math.Seq.{take-append_seam}
use Rattle.glyphs.specs.declared.rect.Point.{Point}
use Rattle.glyphs.specs.Points.{vertices}
use Rattle.regions.specs.Ring.{Piece, part, rings_from, piece_of, sum}
use Rattle.format.specs.RowLaws.{behind}

rings_back : (piece : Piece) (points rest : List Point) (a : ℕ) → drop a points ≡ flatten piece ++ rest → rings_from a (map vertices piece) points ≡ piece
unfolding rings_from part flatten
rings_back [] points rest a e = refl
rings_back (r ∷ rs) points rest a e =
    let f : drop a points ≡ r ++ (flatten rs ++ rest) = e ∙ append_assoc r (flatten rs) rest in
    let h = behind points a r (flatten rs ++ rest) f in
    rw (rings_back rs points rest (a + length r) h, f, take-append_seam r (flatten rs ++ rest))

-- its sizes, and points that begin with its own
pub piece_back : (piece : Piece) (rest : List Point) → piece_of (map vertices piece) (flatten piece ++ rest) ≡ piece
piece_back piece rest = rings_back piece (flatten piece ++ rest) rest 0 refl

pub vertices_sum : (piece : Piece) → sum (map vertices piece) ≡ length (flatten piece)
unfolding sum flatten
vertices_sum [] = refl
vertices_sum (r ∷ rs) = simp length-append (omega (arith, vertices_sum rs))
