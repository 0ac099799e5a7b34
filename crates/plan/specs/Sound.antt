-- A deepest point that was found with room has a clearance above 0.
-- Rests on the definition of the search.
use Prim.Native.Nat.{ℕ, zero, suc, ◌+◌}
use Rattle.std.specs.Prelude.{◌≡◌, Bool, true, false, cond, ◌||◌, length, ltb, Float}
use Rattle.std.proofs.Math.Path.{refl}
use Rattle.std.specs.Float.Ieee
use mathlib.Core.List.{List, [], ◌∷◌}
use Rattle.laws.specs.Any.{all}
use Rattle.laws.specs.Truth.{both_true}
use Rattle.float.specs.Ops.{◌-ᶠ◌, ◌/ᶠ◌, ◌>ᶠ◌, ◌≤ᶠ◌, 0ᶠ, 2ᶠ}
use Rattle.float.specs.Order.{min}
use Rattle.glyphs.specs.Points.{vertices}
use Rattle.glyphs.specs.Bounds.{extents_of}
use Rattle.glyphs.specs.declared.bounds.Extents.{Extents}
use Rattle.regions.specs.Ring.{Piece, outer}
use Rattle.deepest.specs.Order.{halves_from}
use Rattle.deepest.specs.Deepest.{Grid, waiting, over, heft, sum_over, better_of, answer_of, first_corner, splits_at, grid_from, enter_four, turns, finish}
use Rattle.deepest.specs.Deepest.{centre_of, search_in, deepest_point, deeper_of, poi_with_holes}
use Rattle.deepest.specs.declared.queue.Cell.{Cell}
use Rattle.deepest.specs.declared.search.Best.{Best}
use Rattle.deepest.specs.declared.search.Deepest.{Deepest}
use Rattle.deepest.specs.declared.search.Deepest.TheVariants.{Found, Nothing, Full}
use Rattle.discs.specs.Pieces.{deepest_from, deepests_of}
use Rattle.discs.specs.Region.{deepest_of}
use Rattle.discs.specs.Searches.{is_searched, searched, searches_in, had_room}
use Rattle.discs.specs.declared.options.GlyphOptions.{GlyphOptions}
use Rattle.plan.specs.Walk.{never}

-- it has room and a clearance above 0, or is none
unfoldable pub sound : Deepest → Bool
sound Full = false
sound Nothing = true
sound (Found x y clearance) = clearance >ᶠ 0ᶠ

abbrev pub Sound : Deepest → Type 0
Sound d = had_room d ≡ true → sound d ≡ true

sound_full : Sound Full
unfolding had_room
sound_full h = absurd (never h)

pub sound_nothing : Sound Nothing
unfolding sound
sound_nothing h = refl

pub sound_cond : (b : Bool) (x y : Deepest) → Sound x → Sound y → Sound (cond b x y)
sound_cond true x y p q = p
sound_cond false x y p q = q

found_sound : (x y clearance : Float) (b : Bool) → clearance >ᶠ 0ᶠ ≡ b → Sound (cond b (Found x y clearance) Nothing)
unfolding sound
found_sound x y clearance true e h = e
found_sound x y clearance false e h = refl

answer_sound : (best : Best) → Sound (answer_of best)
unfolding answer_of
answer_sound best = found_sound best.x best.y best.d (best.d >ᶠ 0ᶠ) refl

module _ (piece : Piece) (halves : List Float) where
  turns_sound : (f : ℕ) (precision : Float) (room : ℕ) (q : List Cell) (best : Best) (n : ℕ) → Sound (turns piece halves f precision room q best n)
  unfolding turns
  turns_sound zero precision room q best n = answer_sound best
  turns_sound (suc f) precision room [] best n = answer_sound best
  turns_sound (suc f) precision room (c ∷ rest) best n =
      let better = better_of best c in
      let split = turns piece halves f precision room (enter_four piece halves c n rest) better (n + 4) in
      sound_cond (splits_at halves precision c better) (cond (ltb room (length rest + 4)) Full split) (turns piece halves f precision room rest better n)
      (sound_cond (ltb room (length rest + 4)) Full split sound_full (turns_sound f precision room (enter_four piece halves c n rest) better (n + 4)))
      (turns_sound f precision room rest better n)

  finish_sound : (precision : Float) (room : ℕ) (best : Best) (grid : Grid) → Sound (finish piece halves precision room best grid)
  unfolding finish
  finish_sound precision room best over = sound_full
  finish_sound precision room best (waiting q) = turns_sound (sum_over heft q) precision room q best (length q)

search_sound : (piece : Piece) (precision : Float) (room : ℕ) (e : Extents) (side : Float) → Sound (search_in piece precision room e side)
unfolding search_in
search_sound piece precision room e side =
    let halves = halves_from (side /ᶠ 2ᶠ) 22 in
    finish_sound piece halves precision room (centre_of piece e) (grid_from piece halves e side room (first_corner e) [] 0)

pub point_sound : (room : ℕ) (precision : Float) (piece : Piece) → Sound (deepest_point room precision piece)
unfolding deepest_point
point_sound room precision piece =
    let e = extents_of (outer piece) in
    let width = e.max_x -ᶠ e.min_x in
    let height = e.max_y -ᶠ e.min_y in
    let found = search_in piece precision room e (min width height) in
    sound_cond (ltb (vertices (outer piece)) 3) Nothing (cond (width ≤ᶠ 0ᶠ || height ≤ᶠ 0ᶠ) Nothing found) sound_nothing
    (sound_cond (width ≤ᶠ 0ᶠ || height ≤ᶠ 0ᶠ) Nothing found sound_nothing (search_sound piece precision room e (min width height)))

module _ (options : GlyphOptions) where
  searched_sound : (piece : Piece) (quota : ℕ) → Sound (searched 1600 options piece quota)
  unfolding searched poi_with_holes deeper_of
  searched_sound piece quota =
      sound_cond (is_searched options.radius options.arrangement piece quota) (deepest_of 1600 options piece) Nothing
      (point_sound 1600 options.precision piece) sound_nothing

  pub all_sound :
      (pieces : List Piece) (shares : List ℕ) → all had_room (searches_in 1600 options pieces shares) ≡ true
      → all sound (searches_in 1600 options pieces shares) ≡ true
  unfolding all searches_in
  all_sound [] shares h = refl
  all_sound (piece ∷ pieces) [] h = refl
  all_sound (piece ∷ pieces) (share ∷ shares) h =
      let p = both_true (had_room (searched 1600 options piece share)) (all had_room (searches_in 1600 options pieces shares)) h in
      rw (searched_sound piece share p.0, all_sound pieces shares p.1)

no_clearance : 0ᶠ >ᶠ 0ᶠ ≡ false
unfolding Ieee.lt Ieee.of_bits Ieee.of_fields Ieee.odd
no_clearance = refl

read_back : (found : Deepest) → sound found ≡ true → deepest_from found ≡ found
unfolding sound deepest_from
read_back Nothing h = refl
read_back Full h = refl
read_back (Found x y clearance) h = rw h

-- what is sound is read as it is
pub points_back : (founds : List Deepest) → all sound founds ≡ true → deepests_of founds ≡ founds
unfolding all
points_back [] h = refl
points_back (found ∷ founds) h =
    let p = both_true (sound found) (all sound founds) h in
    rw (read_back found p.0, points_back founds p.1)
