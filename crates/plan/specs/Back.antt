-- Pieces that stand flat and end to end in slices are those pieces.
-- Rests on one flat piece being that piece, and on the kit's laws of lists.
use Rattle.std.specs.Prelude.{ℕ, ◌+◌, ◌≡◌, length, take, drop}
use Rattle.std.proofs.Math.Path.{refl}
use Rattle.std.proofs.Common.{sym, ap, arith, length-append}
use mathlib.Core.List.{List, [], ◌∷◌, ◌++◌, append_assoc, map, flatten, flat_map}
use Rattle.std.proofs.lemmas.List.{length-map}
use Rattle.std.proofs.Math.Seq.{take-append_seam, drop-append_seam}
use Rattle.glyphs.specs.Points.{vertices}
use Rattle.glyphs.specs.declared.rect.Point.{Point}
use Rattle.regions.specs.Ring.{Piece, sum}
use Rattle.format.specs.Known.{All, PieceKnown}
use Rattle.format.specs.Flat.{piece_back, vertices_sum}
use Rattle.discs.specs.Pieces.{pieces_of, Laid}

-- the sizes of the rings, and the points, of pieces
abbrev pub sizes_in : List Piece → List ℕ
sizes_in pieces = flat_map (map vertices) pieces

abbrev pub points_in : List Piece → List Point
points_in pieces = flat_map flatten pieces

pub front : {A : Type 0} (xs ys : List A) (n : ℕ) → length xs ≡ n → take n (xs ++ ys) ≡ xs
front xs ys n e = rw (← e) (take-append_seam xs ys)

pub back : {A : Type 0} (xs ys : List A) (n : ℕ) → length xs ≡ n → drop n (xs ++ ys) ≡ ys
back xs ys n e = rw (← e) (drop-append_seam xs ys)

pub sum_append : (xs ys : List ℕ) → sum (xs ++ ys) ≡ sum xs + sum ys
unfolding sum
sum_append [] ys = omega arith
sum_append (x ∷ xs) ys = omega (arith, sum_append xs ys)

rings_in : (piece : Piece) → length (map vertices piece) ≡ length piece
rings_in piece = length-map piece vertices

pub sizes_count : (pieces : List Piece) → length (sizes_in pieces) ≡ sum (map length pieces)
unfolding flat_map sum
sizes_count [] = refl
sizes_count (piece ∷ pieces) = simp length-append (omega (arith, rings_in piece, sizes_count pieces))

pub points_count : (pieces : List Piece) → sum (sizes_in pieces) ≡ length (points_in pieces)
unfolding flat_map
points_count [] = unfold sum in refl
points_count (piece ∷ pieces) =
    simp length-append (omega (arith, sum_append (map vertices piece) (sizes_in pieces), vertices_sum piece, points_count pieces))

module _ (piece : Piece) (pieces : List Piece) (rs : List ℕ) (rp : List Point) where
  sizes_first : take (length piece) (sizes_in (piece ∷ pieces) ++ rs) ≡ map vertices piece
  unfolding flat_map
  sizes_first = rw append_assoc (front (map vertices piece) (sizes_in pieces ++ rs) (length piece) (rings_in piece))

  sizes_rest : drop (length piece) (sizes_in (piece ∷ pieces) ++ rs) ≡ sizes_in pieces ++ rs
  unfolding flat_map
  sizes_rest = rw append_assoc (back (map vertices piece) (sizes_in pieces ++ rs) (length piece) (rings_in piece))

  points_first : points_in (piece ∷ pieces) ++ rp ≡ flatten piece ++ (points_in pieces ++ rp)
  unfolding flat_map
  points_first = append_assoc (flatten piece) (points_in pieces) rp

  points_rest : drop (sum (map vertices piece)) (points_in (piece ∷ pieces) ++ rp) ≡ points_in pieces ++ rp
  points_rest = rw points_first (back (flatten piece) (points_in pieces ++ rp) (sum (map vertices piece)) (sym (vertices_sum piece)))

pub pieces_back :
    (pieces : List Piece) (rs : List ℕ) (rp : List Point) → pieces_of (map length pieces) (sizes_in pieces ++ rs) (points_in pieces ++ rp) ≡ pieces
unfolding pieces_of
pieces_back [] rs rp = refl
pieces_back (piece ∷ pieces) rs rp =
    rw (
      sizes_first piece pieces rs rp,
      sizes_rest piece pieces rs rp,
      points_rest piece pieces rs rp,
      pieces_back pieces rs rp,
      points_first piece pieces rs rp,
    )
    (ap (λ (p : Piece). p ∷ pieces) (piece_back piece (points_in pieces ++ rp)))

pub laid_back :
    (pieces : List Piece) (rs : List ℕ) (rp : List Point) → All PieceKnown pieces → Laid (map length pieces) (sizes_in pieces ++ rs) (points_in pieces ++ rp)
unfolding Laid flat_map
laid_back [] rs rp k = tt
laid_back (piece ∷ pieces) rs rp k =
    let f = sizes_first piece pieces rs rp in (
      record {
        some = k.0.some;
        sized = simp length-append (omega (arith, rings_in piece));
        within = rw (f, points_first piece pieces rs rp) (simp length-append (omega (arith, vertices_sum piece)));
      },
      rw (f, sizes_rest piece pieces rs rp, points_rest piece pieces rs rp) (laid_back pieces rs rp k.1),
    )
