-- One turn of a walk over pieces: the piece at hand, its rings within the slice, and those behind it.
-- Rests on the kit's laws of lists.
use Rattle.std.specs.Prelude.{ℕ, suc, ◌+◌, ◌-◌, ◌<◌, ◌≤◌, ◌≡◌, refl, Bool, true, false, length, get_or, take, drop, set, Float}
use Rattle.std.specs.Prelude.{Result, Ok, Err, IsErr, is_ok}
use Rattle.std.proofs.Common.{ap, ◌∙◌, arith, take_all}
use mathlib.Core.List.{List, [], ◌∷◌}
use mathlib.Core.Logic.{◌⊎◌, inl, inr}
use Rattle.std.proofs.Math.Numerals.{add-one}
use Rattle.std.proofs.Math.ListN.{length-drop}
use Rattle.std.proofs.Math.Seq.{drop-cons}
use Rattle.std.proofs.lemmas.List.Edits.{sets}
use Rattle.laws.specs.Any.{all}
use Rattle.glyphs.specs.declared.rect.Point.{Point}
use Rattle.regions.specs.Ring.{Piece, sum}
use Rattle.regions.specs.Area.{piece_area}
use Rattle.deepest.specs.declared.search.Deepest.{Deepest}
use Rattle.deepest.specs.declared.waiting.NoRoom.{NoRoom}
use Rattle.discs.specs.declared.options.GlyphOptions.{GlyphOptions}
use Rattle.discs.specs.Region.{areas}
use Rattle.discs.specs.Pieces.{pieces_of, Laid}
use Rattle.discs.specs.Searches.{had_room}
use Rattle.plan.specs.Found.{found_for, found_in}

pub never : false ≡ true → ⊥
never e = let z : ◌≡◌ {A = ℕ} 0 1 = cc in omega arith

-- a search without room
pub no_room : (r : Result Unit NoRoom) → IsErr r → is_ok r ≡ false
no_room (Ok done) h = absurd (never h)
no_room (Err none) h = refl

-- the part of a slice from a place on
pub rest_is : {A : Type 0} (l : List A) (a : ℕ) → take (length l - a) (drop a l) ≡ drop a l
rest_is l a = take_all (length l - a) (drop a l) (simp length-drop (omega arith))

pub length_pieces : (rings sizes : List ℕ) (points : List Point) → length (pieces_of rings sizes points) ≡ length rings
unfolding pieces_of
length_pieces [] sizes points = refl
length_pieces (n ∷ rings) sizes points = ap suc (length_pieces rings (drop n sizes) (drop (sum (take n sizes)) points))

-- the rings of the piece k, of pieces that lie in slices from a on
pub ring_inside :
    (rings sizes : List ℕ) (points : List Point) (k a : ℕ) → k < length rings → a ≤ length sizes → Laid (drop k rings) (drop a sizes) points
    → a + get_or rings k 0 ≤ length sizes
unfolding Laid
ring_inside rings sizes points k a h i l =
    let lies = (rw (drop-cons rings k 0 h) at l).0 in
    omega (arith, lies.sized, length-drop a sizes)

pub none_left : {A : Type 0} (xs : List A) → length xs ≡ 0 → xs ≡ []
none_left [] h = refl
none_left (x ∷ xs) h = absurd (omega arith)

-- a walk over two at once ends where either does
pub either_ends : {X U V : Type 0} {P : U → Type 0} {Q : V → Type 0} → ((u : U) → P u → X) → ((v : V) → Q v → X) → ((u : U) × P u) ⊎ ((v : V) × Q v) → X
either_ends f g (inl u) = f u.0 u.1
either_ends f g (inr v) = g v.0 v.1

pub areas_end : (ps : List Piece) (out : List Float) (k : ℕ) → ps ≡ [] → sets out k (areas ps) ≡ out
areas_end ps out k e = rw e

-- of the pieces ps, the first and the others
module _ (ps ps' : List Piece) (piece : Piece) (ep : ps ≡ piece ∷ ps') where
  pub areas_turn :
      {x : List Float} (out : List Float) (j k k' : ℕ) (v : Float) → v ≡ piece_area piece → j ≡ k → k' ≡ k + 1 → x ≡ sets out k (areas ps)
      → x ≡ sets (set out j v) k' (areas ps')
  areas_turn out j k k' v h i n e = e ∙ rw (ep, ← h, i, n, add-one k)

  -- the same of the searches, with the quotas
  module _
      (options : GlyphOptions) (left_in : Bool) (qs qs' : List ℕ) (quota : ℕ) (eq : qs ≡ quota ∷ qs') (found : Deepest)
      (f : found ≡ found_for options left_in piece quota) where
    found_turn : found_in options left_in ps qs ≡ found ∷ found_in options left_in ps' qs'
    unfolding found_in
    found_turn = rw (ep, eq, f)

    pub fits_turn : {x : Bool} → had_room found ≡ true → x ≡ all had_room (found_in options left_in ps qs) → x ≡ all had_room (found_in options left_in ps' qs')
    unfolding all
    fits_turn h e = e ∙ rw (found_turn, h)

    pub fits_stop : {x : Bool} → had_room found ≡ false → x ≡ all had_room (found_in options left_in ps qs) → x ≡ false
    unfolding all
    fits_stop h e = e ∙ rw (found_turn, h)

    pub put_turn :
        {x : List Deepest} (deepest : List Deepest) (j k k' : ℕ) → j ≡ k → k' ≡ k + 1 → x ≡ sets deepest k (found_in options left_in ps qs)
        → x ≡ sets (set deepest j found) k' (found_in options left_in ps' qs')
    put_turn deepest j k k' i n e = e ∙ rw (found_turn, i, n, add-one k)

-- no piece is left, or no quota
module _ (options : GlyphOptions) (left_in : Bool) where
  pub no_piece : (ps : List Piece) (qs : List ℕ) → ps ≡ [] → found_in options left_in ps qs ≡ []
  unfolding found_in
  no_piece ps qs e = rw e

  pub no_quota : (ps : List Piece) (qs : List ℕ) → qs ≡ [] → found_in options left_in ps qs ≡ []
  unfolding found_in
  no_quota [] qs e = refl
  no_quota (piece ∷ ps) qs e = rw e

pub fits_end : {x : Bool} (founds : List Deepest) → founds ≡ [] → x ≡ all had_room founds → x ≡ true
unfolding all
fits_end founds e h = h ∙ rw e

pub put_end : {x : List Deepest} (founds deepest : List Deepest) (k : ℕ) → founds ≡ [] → x ≡ sets deepest k founds → x ≡ deepest
put_end founds deepest k e h = h ∙ rw e
