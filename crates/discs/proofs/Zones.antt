-- A turn of the walks over a job's zones, and what is known of a zone where it stands.
-- Rests on the kit's laws of lists.
use Rattle.std.proofs.Common.{
  ◌≡◌,
  ℕ,
  suc,
  ◌+◌,
  ◌-◌,
  ◌≤◌,
  Bool,
  true,
  false,
  cond,
  ◌&&◌,
  List,
  [],
  ◌∷◌,
  ◌++◌,
  length,
  take,
  drop,
  refl,
  ap,
  ◌∙◌,
  arith,
  length-drop,
  length-take,
  take-add,
}
use mathlib.Core.List.{foldl}
use lib.Ieee.{Float}
use Rattle.laws.specs.Any.{all}
use Rattle.regions.specs.Ring.{sum}
use Rattle.deepest.specs.declared.search.Deepest.{Deepest}
use Rattle.discs.specs.Pieces.{pieces_of, Laid}
use Rattle.discs.specs.PlaceGlyphs.{is_left_in}
use Rattle.discs.specs.Floor.{row_is_left_in, cut, Handed, handed_at, handed_from, handed_work, lowered_by, holds_all, Steps}
use Rattle.discs.specs.Walk.{lowering, holding}
use Rattle.glyphs.specs.declared.rect.Point.{Point}
use Rattle.glyphs.specs.declared.rect.Rectangle.{Rectangle}
use Rattle.relax.specs.declared.Spreading.{Spreading}
use Rattle.lattice.specs.declared.context.PackCtx.{PackCtx}
use Rattle.discs.specs.declared.options.GlyphOptions.{GlyphOptions}
use Rattle.discs.specs.declared.rows.Offsets.{Offsets}
use Rattle.discs.specs.declared.rows.Row.{Row}
use Rattle.discs.specs.declared.rows.ZoneAt.{ZoneAt}

-- ---- one zone

pub length_cut : {A : Type 0} (a n : ℕ) (l : List A) → a + n ≤ length l → length (cut a n l) ≡ n
length_cut a n l h = simp (length-take, length-drop) (omega arith)

-- parts of slices, as the code cuts them
pub part_is : {A : Type 0} (a n : ℕ) (l : List A) → take (a + n - a) (drop a l) ≡ cut a n l
part_is a n l =
    let e : a + n - a ≡ n = omega arith in
    rw e

length_pieces : (rings sizes : List ℕ) (points : List Point) → length (pieces_of rings sizes points) ≡ length rings
unfolding pieces_of
length_pieces [] sizes points = refl
length_pieces (n ∷ rings) sizes points = ap suc (length_pieces rings (drop n sizes) (drop (sum (take n sizes)) points))

sum_append : (xs ys : List ℕ) → sum (xs ++ ys) ≡ sum xs + sum ys
unfolding sum
sum_append [] ys = omega arith
sum_append (x ∷ xs) ys = omega (arith, sum_append xs ys)

-- the rings lie within the sizes, and their vertices within the points
pub laid_rings : (rings sizes : List ℕ) (points : List Point) → Laid rings sizes points → sum rings ≤ length sizes
unfolding Laid sum
laid_rings [] sizes points l = omega arith
laid_rings (n ∷ rings) sizes points l =
    omega (arith, l.0.sized, length-drop n sizes, laid_rings rings (drop n sizes) (drop (sum (take n sizes)) points) l.1)

pub laid_points : (rings sizes : List ℕ) (points : List Point) → Laid rings sizes points → sum (take (sum rings) sizes) ≤ length points
unfolding Laid sum
laid_points [] sizes points l = omega arith
laid_points (n ∷ rings) sizes points l =
    let v = sum (take n sizes) in
    rw (take-add n (sum rings) sizes, sum_append)
    (omega (arith, l.0.within, length-drop v points, laid_points rings (drop n sizes) (drop v points) l.1))

module _ (s rings sizes : List ℕ) (points : List Point) (quotas : List ℕ) (deepest : List Deepest) where
  pub left_in :
      (row : Row) (at : Offsets) → at.piece + row.pieces ≤ length rings
      → is_left_in (handed_at s rings sizes points quotas deepest row at).zone ≡ row_is_left_in row
  unfolding is_left_in handed_at row_is_left_in
  left_in row at h = rw (length_pieces, length_cut at.piece row.pieces rings h)

-- ---- all zones

module _ (s rings sizes : List ℕ) (points : List Point) (quotas : List ℕ) (deepest : List Deepest) where
  -- the zone of a row, and the zones of these rows
  abbrev here : ZoneAt → Handed
  here zone = handed_at s rings sizes points quotas deepest zone.row zone.at

  abbrev from : List Row → Offsets → List Handed
  from rows at = handed_from s rings sizes points quotas deepest rows at

  pub handed_end : (rows : List Row) (at : Offsets) → rows ≡ [] → handed_work (from rows at) ≡ []
  unfolding handed_from handed_work
  handed_end rows at h = rw h

  module _ {rows rest : List Row} {at next : Offsets} {zone : ZoneAt} (h : Steps rings sizes rows at zone rest next) where
    handed_turn : from rows at ≡ here zone ∷ from rest next
    unfolding handed_from
    handed_turn = rw (h.first, h.here, h.past)

    pub ceiling_turn :
        {lower : Float} (gap r-hi : Float) → lower ≡ lowering gap r-hi (here zone)
        → foldl (lowered_by gap) r-hi (handed_work (from rows at)) ≡ foldl (lowered_by gap) lower (handed_work (from rest next))
    ceiling_turn gap r-hi l = rw (handed_turn, l) (fold_work gap r-hi (here zone) _)
      where
        go : (gap r-hi : Float) (b : Bool) (x : Handed) (xs : List Handed)
            → foldl (lowered_by gap) r-hi (cond b (x ∷ xs) xs) ≡ foldl (lowered_by gap) (cond b (lowered_by gap r-hi x) r-hi) xs
        go gap r-hi true x xs = refl
        go gap r-hi false x xs = refl

        fold_work : (gap r-hi : Float) (x : Handed) (xs : List Handed)
            → foldl (lowered_by gap) r-hi (handed_work (x ∷ xs)) ≡ foldl (lowered_by gap) (lowering gap r-hi x) (handed_work xs)
        fold_work gap r-hi x xs = unfold handed_work lowering in go gap r-hi (is_left_in x.zone) x (handed_work xs)

    all_cond : (p : Handed → Bool) (b : Bool) (x : Handed) (xs : List Handed) → all p (cond b (x ∷ xs) xs) ≡ cond b (p x) true && all p xs
    unfolding all
    all_cond p true x xs = refl
    all_cond p false x xs = refl

    pub trial_turn :
        {holds : Bool} (numbers : Spreading) (options : GlyphOptions) (ctx : PackCtx) (obstacles : List Rectangle)
        → holds ≡ holding numbers options ctx obstacles (here zone)
        → all (holds_all numbers options ctx obstacles) (handed_work (from rows at))
        ≡ holds && all (holds_all numbers options ctx obstacles) (handed_work (from rest next))
    trial_turn numbers options ctx obstacles l =
        rw (handed_turn, l) (all_work (holds_all numbers options ctx obstacles) (here zone) _ ∙ unfold holding in refl)
      where
        all_work :
            (p : Handed → Bool) (x : Handed) (xs : List Handed)
            → all p (handed_work (x ∷ xs)) ≡ cond (is_left_in x.zone) (p x) true && all p (handed_work xs)
        all_work p x xs = unfold handed_work in all_cond p (is_left_in x.zone) x (handed_work xs)
