-- The clearance that is kept beside a mark is the clearance of its place, whatever the sweeps do, and no mark comes or goes.
-- Rests on the definitions: a mark moves only with the clearance that its acceptance found.
use Rattle.std.specs.Prelude.{◌≡◌, refl, Bool, cond, Some, None, ◌&&◌, ◌||◌, length, get_or, Float}
use Rattle.std.proofs.Common.{◌∙◌, length-set}
use Rattle.std.proofs.Math.Bool.{true, false, not}
use mathlib.Core.List.{List, [], ◌∷◌, foldl}
use Prim.Native.Nat.{ℕ, zero, suc}
use Rattle.std.specs.Float.{nan}
use Rattle.laws.specs.Lists.{up_to, map_set}
use Rattle.float.specs.Ops.{◌*ᶠ◌, ◌/ᶠ◌, ◌<ᶠ◌, ◌≤ᶠ◌, 0ᶠ, 1ᶠ, ½ᶠ}
use Rattle.float.specs.Order.{hypot, min}
use Rattle.glyphs.specs.declared.rect.Point.{Point}
use Rattle.glyphs.specs.declared.rect.Rectangle.{Rectangle}
use Rattle.glyphs.specs.Rect.{clear_of_obstacles, is_finite}
use Rattle.regions.specs.Ring.{Piece}
use Rattle.regions.specs.Clearance.{signed_clearance}
use Rattle.relax.specs.declared.Spreading.{Spreading}
use Rattle.relax.specs.Field.{at, force_on, clear_of_others, accepts}
use Rattle.relax.specs.Scatter.{
  Scatter,
  Surroundings,
  moved,
  settle,
  stepped,
  try_step,
  relax_point,
  max_step_of,
  relax_sweep,
  relax_sweeps,
  clearances_of,
  idle,
  around,
  relax_scatter,
}

-- what a step keeps, a fold keeps
fold_keeps :
    {A B : Type 0} (P : B → Type 0) (f : B → A → B) → ((b : B) (a : A) → P b → P (f b a)) → (b : B) (l : List A) → P b → P (foldl f b l)
fold_keeps P f k b [] h = h
fold_keeps P f k b (a ∷ l) h = fold_keeps P f k (f b a) l (k b a h)

-- What holds of a scatter, and holds again when a mark is moved with the clearance of its new place, holds after every step.
module _ (e : Surroundings) (P : Scatter → Type 0)
    (again : (s : Scatter) (i : ℕ) (p : Point) → P s → P (moved s i p (signed_clearance p.x p.y e.piece))) where
  keeps_answer :
      (s : Scatter) (i : ℕ) (p : Point) (a b c : Bool) (o : Scatter) → P s → P o
      → P (settle s i p (cond a None (cond b None (cond c (Some (signed_clearance p.x p.y e.piece)) None))) o)
  unfolding settle
  keeps_answer s i p true b c o h k = k
  keeps_answer s i p false true c o h k = k
  keeps_answer s i p false false true o h k = again s i p h
  keeps_answer s i p false false false o h k = k

  keeps_accepted :
      (s : Scatter) (i : ℕ) (p : Point) (honoring : Bool) (o : Scatter) → P s → P o
      → P (settle s i p (accepts e.field e.piece e.obstacles p i s.points honoring) o)
  unfolding accepts
  keeps_accepted s i p honoring o h k =
      let field = e.field in
      keeps_answer s i p (signed_clearance p.x p.y e.piece <ᶠ field.inset)
      (honoring && not (clear_of_obstacles p.x p.y e.obstacles field.inset))
      (clear_of_others p (field.spacing *ᶠ field.spacing) i 0 s.points)
      o
      h
      k

  keeps_try :
      (i : ℕ) (p : Point) (ux uy : Float) (tries : ℕ) (step : Float) (s : Scatter) → P s → P (try_step e i p ux uy tries step s)
  unfolding try_step
  keeps_try i p ux uy zero step s h = h
  keeps_try i p ux uy (suc tries) step s h =
      keeps_accepted s i (stepped p ux uy step) (get_or e.honoring i false) (try_step e i p ux uy tries (step *ᶠ ½ᶠ) s) h
      (keeps_try i p ux uy tries (step *ᶠ ½ᶠ) s h)

  keeps_cond : (b : Bool) (s t : Scatter) → P s → P t → P (cond b s t)
  keeps_cond true s t h k = h
  keeps_cond false s t h k = k

  keeps_point : (numbers : Spreading) (maxStep : Float) (s : Scatter) (i : ℕ) → P s → P (relax_point numbers e maxStep s i)
  unfolding relax_point
  keeps_point numbers maxStep s i h =
      let f = force_on e.field e.piece i s.points (get_or s.clearance i nan) in
      let magnitude = hypot f.x f.y in
      let ux = f.x /ᶠ magnitude in
      let uy = f.y /ᶠ magnitude in
      let tries = suc numbers.backtracks in
      let step = maxStep *ᶠ min magnitude 1ᶠ in
      keeps_cond (not (is_finite magnitude) || magnitude ≤ᶠ 0ᶠ) s (try_step e i (at s.points i) ux uy tries step s) h
      (keeps_try i (at s.points i) ux uy tries step s h)

  keeps_sweep : (numbers : Spreading) (s : Scatter) (sweep : ℕ) → P s → P (relax_sweep numbers e s sweep)
  unfolding relax_sweep
  keeps_sweep numbers s sweep h =
      let maxStep = max_step_of numbers e.field.spacing sweep in
      fold_keeps P (relax_point numbers e maxStep) (keeps_point numbers maxStep) s (up_to (length s.points)) h

  keeps_sweeps : (numbers : Spreading) (s : Scatter) → P s → P (relax_sweeps numbers e s)
  unfolding relax_sweeps
  keeps_sweeps numbers s h = fold_keeps P (relax_sweep numbers e) (keeps_sweep numbers) s (up_to numbers.sweeps) h

-- the cached clearance is the clearance of the place
pub kept_clearances :
    (numbers : Spreading) (e : Surroundings) (s : Scatter) → s.clearance ≡ clearances_of e.piece s.points
    → (relax_sweeps numbers e s).clearance ≡ clearances_of e.piece (relax_sweeps numbers e s).points
unfolding clearances_of
kept_clearances numbers e s h =
    keeps_sweeps e (λ (t : Scatter). t.clearance ≡ clearances_of e.piece t.points) (λ t i p k. rw (k, map_set)) numbers s h

kept_count : (numbers : Spreading) (e : Surroundings) (s : Scatter) → length (relax_sweeps numbers e s).points ≡ length s.points
kept_count numbers e s =
    keeps_sweeps e (λ (t : Scatter). length t.points ≡ length s.points) (λ t i p k. length-set t.points i p ∙ k) numbers s refl

length_cond : {A : Type 0} (b : Bool) (x y : List A) → length y ≡ length x → length (cond b x y) ≡ length x
length_cond true x y h = refl
length_cond false x y h = h

-- no mark comes or goes
pub length_relaxed :
    (numbers : Spreading) (points : List Point) (piece : Piece) (obstacles : List Rectangle) (spacing inset : Float)
    → length (relax_scatter numbers points piece obstacles spacing inset) ≡ length points
unfolding relax_scatter
length_relaxed numbers points piece obstacles spacing inset =
    let e : Surroundings = around numbers points piece obstacles spacing inset in
    let s : Scatter = record { points = points; clearance = clearances_of piece points } in
    length_cond (idle (length points) spacing) points (relax_sweeps numbers e s).points (kept_count numbers e s)
