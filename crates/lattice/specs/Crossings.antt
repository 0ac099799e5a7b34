-- regions.rs, `point_in_polygon` at one height: where the height crosses each ring.
-- A point of that height is inside a ring where it is left of an odd number of crossings.
-- Rests on the definitions of the inside test.
use Rattle.std.specs.Prelude.{◌≡◌, ℕ, zero, suc, ◌+◌, ◌-◌, ◌<◌, ◌≤◌, Bool, true, false, cond, not, ◌&&◌}
use Rattle.std.specs.Prelude.{List, [], ◌∷◌, ◌++◌, length, take, drop, nat_lt, slice_index, slice_range, slice_set, refl, Float}
use Rattle.std.proofs.Common.{sym, ap, ◌∙◌, arith, add-one, zero-add, lt-ltb, le-ltb, length-append, drop_at, length-take-le}
use Rattle.std.specs.Bool.{beq}
use mathlib.Core.List.{foldl, append_assoc, append-nil}
use Rattle.std.proofs.Math.Nat.{add-sub_cancel_left}
use Rattle.std.proofs.Math.Seq.{take_all, take-suc-set, take-append_seam}
use Rattle.float.specs.Ops.{◌+ᶠ◌, ◌-ᶠ◌, ◌*ᶠ◌, ◌/ᶠ◌, ◌<ᶠ◌, ◌>ᶠ◌, ε}
use Rattle.glyphs.specs.declared.rect.Point.{Point}
use Rattle.glyphs.specs.Points.{Ring, vertices, x_at, y_at}
use Rattle.regions.specs.declared.piece.RegionPiece.{RegionPiece}
use Rattle.regions.specs.Pieces.{rings_of}
use Rattle.regions.specs.Ring.{prev, outer, holes, part, rings_from, first_ring}
use Rattle.regions.specs.Inside.{intersect, flip, inside_after, point_in_polygon}
use Rattle.regions.specs.Clearance.{in_any, within}

-- where the height y crosses the edge between the vertices i and j
unfoldable pub crossing : Float → Float → Float → Float → Float → Float
crossing y xi yi xj yj = (xj -ᶠ xi) *ᶠ (y -ᶠ yi) /ᶠ (yj -ᶠ yi +ᶠ ε) +ᶠ xi

-- the crossing, where one end of the edge is above the height and the other not
unfoldable pub crossing_if : Float → Float → Float → Float → Float → List Float
crossing_if y xi yi xj yj = cond (beq (yi >ᶠ y) (yj >ᶠ y)) [] (crossing y xi yi xj yj ∷ [])

abbrev pub edge_crossing : Float → Ring → ℕ → ℕ → List Float
edge_crossing y v i j = crossing_if y (x_at v i) (y_at v i) (x_at v j) (y_at v j)

-- the crossings of the first i edges
unfoldable pub crossings_after : Float → Ring → ℕ → ℕ → List Float
crossings_after y v n zero = []
crossings_after y v n (suc i) = crossings_after y v n i ++ edge_crossing y v i (prev n i)

-- a ring of fewer than three vertices has none
unfoldable pub crossings_of : Float → Ring → List Float
crossings_of y v = cond (nat_lt (vertices v) 3) [] (crossings_after y v (vertices v) (vertices v))

-- those of all rings, ring after ring
unfoldable pub crossings_of_all : Float → List Ring → List Float
crossings_of_all y [] = []
crossings_of_all y (ring ∷ rings) = crossings_of y ring ++ crossings_of_all y rings

-- how many there are up to the end of each ring, with c before the first
unfoldable pub ends_of : Float → ℕ → List Ring → List ℕ
ends_of y c [] = []
ends_of y c (ring ∷ rings) = let e = c + length (crossings_of y ring) in e ∷ ends_of y e rings

-- whether x is left of an odd number of crossings
abbrev pub turn : Float → Bool → Float → Bool
turn x inside c = flip (x <ᶠ c) inside

unfoldable pub odd : Float → List Float → Bool
odd x crossings = foldl (turn x) false crossings

-- whether it is so for one of the rings whose ends are given
unfoldable pub odd_any : Float → List Float → ℕ → List ℕ → Bool
odd_any x crossings from [] = false
odd_any x crossings from (to ∷ ends) = cond (odd x (slice_range crossings from to)) true (odd_any x crossings to ends)

-- in_outer && !in_any_hole
unfoldable pub inside_level : Float → List Float → List ℕ → Bool
inside_level x crossings ends =
    odd x (take (slice_index ends 0) crossings) && not (odd_any x crossings (slice_index ends 0) (drop 1 ends))

-- ends that ascend, from `from` to `most` at most
abbrev pub Ascend : ℕ → ℕ → List ℕ → Type 0
Ascend most from [] = from ≤ most
Ascend most from (to ∷ ends) = (from ≤ to) × Ascend most to ends

-- the ends of some rings, each within the crossings
pub record Ends (crossings : List Float) (ends : List ℕ) : Type 0 where
  pub some : 0 < length ends
  pub ascend : Ascend (length crossings) 0 ends

-- what is found of a height serves each point of it
pub record Crossed (y : Float) (piece : RegionPiece) (crossings : List Float) (ends : List ℕ) : Type 0 where
  pub ends_are : Ends crossings ends
  pub each : length ends ≡ length piece.sizes.now
  pub inside : (x : Float) → inside_level x crossings ends ≡ within x y (rings_of piece)

-- ---- one ring

-- inside != (x < c)
pub turn_is : (x : Float) (inside : Bool) (c : Float) → not (beq inside (x <ᶠ c)) ≡ turn x inside c
unfolding flip
turn_is x inside c = go inside (x <ᶠ c)
  where
    go : (a b : Bool) → not (beq a b) ≡ cond b (not a) a
    go true true = refl
    go true false = refl
    go false true = refl
    go false false = refl

fold_append : (x : Float) (b : Bool) (l m : List Float) → foldl (turn x) b (l ++ m) ≡ foldl (turn x) (foldl (turn x) b l) m
fold_append x b [] m = refl
fold_append x b (c ∷ l) m = fold_append x (turn x b c) l m

-- a turn of the inside test
one_turn : (x y xi yi xj yj : Float) (b : Bool) → foldl (turn x) b (crossing_if y xi yi xj yj) ≡ flip (intersect x y xi yi xj yj) b
unfolding crossing_if crossing intersect flip
one_turn x y xi yi xj yj b = go (beq (yi >ᶠ y) (yj >ᶠ y))
  where
    go :
        (t : Bool)
        → foldl (turn x) b (cond t [] (((xj -ᶠ xi) *ᶠ (y -ᶠ yi) /ᶠ (yj -ᶠ yi +ᶠ ε) +ᶠ xi) ∷ []))
        ≡ cond (not t && x <ᶠ (xj -ᶠ xi) *ᶠ (y -ᶠ yi) /ᶠ (yj -ᶠ yi +ᶠ ε) +ᶠ xi) (not b) b
    go true = refl
    go false = refl

after_odd : (x y : Float) (v : Ring) (n i : ℕ) → odd x (crossings_after y v n i) ≡ inside_after x y v n i
unfolding odd crossings_after inside_after
after_odd x y v n zero = refl
after_odd x y v n (suc i) =
    fold_append x false (crossings_after y v n i) (edge_crossing y v i (prev n i))
    ∙ rw (after_odd x y v n i) (one_turn x y (x_at v i) (y_at v i) (x_at v (prev n i)) (y_at v (prev n i)) (inside_after x y v n i))

-- inside a ring where the crossings to the right are odd
pub ring_odd : (x y : Float) (v : Ring) → odd x (crossings_of y v) ≡ point_in_polygon x y v
unfolding crossings_of point_in_polygon odd
ring_odd x y v = go (nat_lt (vertices v) 3)
  where
    go :
        (t : Bool)
        → odd x (cond t [] (crossings_after y v (vertices v) (vertices v))) ≡ cond t false (inside_after x y v (vertices v) (vertices v))
    go true = refl
    go false = after_odd x y v (vertices v) (vertices v)

-- ---- the crossings written one after another

module _ (y xi yi xj yj : Float) (l : List Float) (c : ℕ) where
  pub put_none : beq (yi >ᶠ y) (yj >ᶠ y) ≡ true → take c l ≡ take c l ++ crossing_if y xi yi xj yj
  unfolding crossing_if
  put_none e = rw e (sym (append-nil (take c l)))

  pub put_one :
      (v : Float) → beq (yi >ᶠ y) (yj >ᶠ y) ≡ false → c < length l → v ≡ crossing y xi yi xj yj
      → take (c + 1) (slice_set l c v) ≡ take c l ++ crossing_if y xi yi xj yj
  unfolding crossing_if
  put_one v e h g = rw (add-one, e, take-suc-set l c v h, g)

-- a turn of the loop over a ring's edges
pub ring_next :
    (y : Float) (v : Ring) (n i : ℕ) (pre l m : List Float) → l ≡ pre ++ crossings_after y v n i → m ≡ l ++ edge_crossing y v i (prev n i)
    → m ≡ pre ++ crossings_after y v n (i + 1)
unfolding crossings_after
ring_next y v n i pre l m e g =
    g ∙ rw (add-one i, e) (append_assoc pre (crossings_after y v n i) (edge_crossing y v i (prev n i)))

pub ring_start : (y : Float) (v : Ring) (n : ℕ) (pre : List Float) → pre ≡ pre ++ crossings_after y v n 0
unfolding crossings_after
ring_start y v n pre = sym (append-nil pre)

pub ring_few : (y : Float) (v : Ring) (pre : List Float) → vertices v < 3 → pre ≡ pre ++ crossings_of y v
unfolding crossings_of
ring_few y v pre h = rw (lt-ltb (vertices v) 3 h) (sym (append-nil pre))

pub ring_whole : (y : Float) (v : Ring) → 3 ≤ vertices v → crossings_after y v (vertices v) (vertices v) ≡ crossings_of y v
unfolding crossings_of
ring_whole y v h = rw (le-ltb (vertices v) 3 h)

-- ---- all rings

middle : (pre cs rest : List Float) (from : ℕ) → length pre ≡ from → take (from + length cs - from) (drop from (pre ++ (cs ++ rest))) ≡ cs
middle pre cs rest from e = rw (add-sub_cancel_left, drop_at pre (cs ++ rest) from e) (take-append_seam cs rest)

holes_odd :
    (x y : Float) (rings : List Ring) (pre rest : List Float) (from : ℕ) → length pre ≡ from
    → odd_any x (pre ++ (crossings_of_all y rings ++ rest)) from (ends_of y from rings) ≡ in_any x y rings
unfolding odd_any ends_of in_any crossings_of_all
holes_odd x y [] pre rest from e = refl
holes_odd x y (ring ∷ rings) pre rest from e =
    let cs = crossings_of y ring in
    let all = crossings_of_all y rings in
    let n : length (pre ++ cs) ≡ from + length cs = simp length-append (omega arith) in
    let assoc : pre ++ ((cs ++ all) ++ rest) ≡ pre ++ (cs ++ (all ++ rest)) = rw (append_assoc cs all rest) in
    let first : odd x (take (from + length cs - from) (drop from (pre ++ ((cs ++ all) ++ rest)))) ≡ point_in_polygon x y ring =
    rw (assoc, middle pre cs (all ++ rest) from e) (ring_odd x y ring) in
    let further : odd_any x (pre ++ ((cs ++ all) ++ rest)) (from + length cs) (ends_of y (from + length cs) rings) ≡ in_any x y rings =
    rw (assoc, ← append_assoc pre cs (all ++ rest)) (holes_odd x y rings (pre ++ cs) rest (from + length cs) n) in
    rw (first, further)

piece_odd :
    (x y : Float) (ring : Ring) (rings : List Ring) (rest : List Float) (n : ℕ) (ends : List ℕ) → take n ends ≡ ends_of y 0 (ring ∷ rings)
    → inside_level x (crossings_of_all y (ring ∷ rings) ++ rest) (take n ends) ≡ within x y (ring ∷ rings)
unfolding inside_level within outer holes ends_of crossings_of_all
piece_odd x y ring rings rest n ends e =
    let cs = crossings_of y ring in
    let all = crossings_of_all y rings in
    let z : 0 + length cs ≡ length cs = zero-add (length cs) in
    let first : odd x (take (length cs) ((cs ++ all) ++ rest)) ≡ point_in_polygon x y ring =
    rw (append_assoc cs all rest, take-append_seam cs (all ++ rest)) (ring_odd x y ring) in
    let further : odd_any x ((cs ++ all) ++ rest) (length cs) (ends_of y (length cs) rings) ≡ in_any x y rings =
    rw (append_assoc cs all rest) (holes_odd x y rings cs rest (length cs) refl) in
    rw (e, z, first, further)

ends_ascend : (y : Float) (rings : List Ring) (from most : ℕ) → from + length (crossings_of_all y rings) ≤ most → Ascend most from (ends_of y from rings)
unfolding ends_of crossings_of_all
ends_ascend y [] from most h = omega arith
ends_ascend y (ring ∷ rings) from most h =
    let n = length-append (crossings_of y ring) (crossings_of_all y rings) in
    (omega arith, ends_ascend y rings (from + length (crossings_of y ring)) most (omega arith))

-- a piece has as many rings as sizes, and there is an end for each
pub length_rings : (a : ℕ) (sizes : List ℕ) (points : List Point) → length (rings_from a sizes points) ≡ length sizes
unfolding rings_from
length_rings a [] points = refl
length_rings a (n ∷ sizes) points = ap suc (length_rings (a + n) sizes points)

length_ends : (y : Float) (c : ℕ) (rings : List Ring) → length (ends_of y c rings) ≡ length rings
unfolding ends_of
length_ends y c [] = refl
length_ends y c (ring ∷ rings) = ap suc (length_ends y (c + length (crossings_of y ring)) rings)

-- what is found after the last ring
ends_some : (y : Float) (ring : Ring) (rings : List Ring) → 0 < length (ends_of y 0 (ring ∷ rings))
unfolding ends_of
ends_some y ring rings = omega arith

crossed_all :
    (y : Float) (piece : RegionPiece) (ring : Ring) (rings : List Ring) → ring ∷ rings ≡ rings_of piece
    → Crossed y piece (crossings_of_all y (ring ∷ rings)) (ends_of y 0 (ring ∷ rings))
crossed_all y piece ring rings e =
    let all = crossings_of_all y (ring ∷ rings) in
    let ends = ends_of y 0 (ring ∷ rings) in
    let whole : take (length ends) ends ≡ ends = take_all (length ends) ends (omega arith) in
    record {
      ends_are = record { some = ends_some y ring rings; ascend = ends_ascend y (ring ∷ rings) 0 (length all) (omega arith) };
      each = length_ends y 0 (ring ∷ rings) ∙ ap length e ∙ length_rings 0 piece.sizes.now piece.points.now;
      inside = λ (x : Float).
          ap (λ (l : List Float). inside_level x l ends) (sym (append-nil all))
          ∙ ap (inside_level x (all ++ [])) (sym whole)
          ∙ piece_odd x y ring rings [] (length ends) ends whole
          ∙ ap (within x y) e;
    }

pub crossed :
    (y : Float) (piece : RegionPiece) (crossings : List Float) (ends : List ℕ) → crossings_of_all y (rings_of piece) ≡ crossings
    → ends_of y 0 (rings_of piece) ≡ ends → Crossed y piece crossings ends
crossed y piece crossings ends e f =
    let sizes = piece.sizes.now in
    let points = piece.points.now in
    let p = first_ring sizes points piece.outer_ring in
    rw (sym e ∙ ap (crossings_of_all y) p, sym f ∙ ap (ends_of y 0) p)
    (crossed_all y piece (part points 0 (slice_index sizes 0)) (rings_from (slice_index sizes 0) (drop 1 sizes) points) (sym p))

-- how many there are then
pub counted :
    (l m cs : List Float) (c r : ℕ) → take r m ≡ take c l ++ cs → c ≤ length l → r ≤ length m → r ≡ c + length cs
counted l m cs c r e h g =
    sym (length-take-le r m g) ∙ ap length e ∙ length-append (take c l) cs ∙ ap (λ (k : ℕ). k + length cs) (length-take-le c l h)

-- a turn of the loop over the rings
module _ (y : Float) (ring : Ring) (rings : List Ring) where
  pub rings_next :
      (all before after : List Float) → all ≡ before ++ crossings_of_all y (ring ∷ rings) → after ≡ before ++ crossings_of y ring
      → all ≡ after ++ crossings_of_all y rings
  unfolding crossings_of_all
  rings_next all before after e f = e ∙ rw f (sym (append_assoc before _ _))

  pub ends_next :
      (all ends : List ℕ) (c e k : ℕ) → k < length ends → all ≡ take k ends ++ ends_of y c (ring ∷ rings) → e ≡ c + length (crossings_of y ring)
      → all ≡ take (k + 1) (slice_set ends k e) ++ ends_of y e rings
  unfolding ends_of
  ends_next all ends c e k l f g = f ∙ rw (← g) (rw (add-one, take-suc-set ends k e l) (sym (append_assoc (take k ends) (e ∷ []) _)))

-- after the last
pub rings_done : (y : Float) (rings : List Ring) (l : List Float) → rings ≡ [] → l ++ crossings_of_all y rings ≡ l
unfolding crossings_of_all
rings_done y rings l h = rw h (append-nil l)

pub ends_done : (y : Float) (c : ℕ) (rings : List Ring) (l : List ℕ) → rings ≡ [] → l ++ ends_of y c rings ≡ l
unfolding ends_of
ends_done y c rings l h = rw h (append-nil l)
