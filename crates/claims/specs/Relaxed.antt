-- Relaxation keeps what held of the marks: clearance, obstacles under Strict, and any two of them; and their number.
-- Rests on every move being tested again, against all other marks where they stand.
use Rattle.std.specs.Prelude.{◌≡◌, cond, Option, Some, None, ◌&&◌, ◌||◌, eqb, get_or, set, Float}
use Rattle.std.proofs.Common.{subst, arith, length-set, ne_eqb}
use Rattle.std.proofs.Math.Bool.{Bool, true, false, not}
use mathlib.Core.List.{List, [], ◌∷◌, map, foldl}
use Prim.Native.Nat.{ℕ, zero, suc, ◌+◌, ◌<◌}
use Rattle.std.proofs.Math.Dec.{T}
use Rattle.std.proofs.Math.ListN.{length}
use Rattle.std.specs.Float.{nan}
use Rattle.std.specs.Float.Ieee.{binary64}
use Rattle.std.specs.Float.Ieee.Fits.{add-fits}
use Rattle.laws.specs.Every.{Every, Pairwise}
use Rattle.laws.specs.Lists.{up_to}
use Rattle.float.specs.Ops.{◌*ᶠ◌, ◌/ᶠ◌, ◌<ᶠ◌, ◌≤ᶠ◌, ◌≥ᶠ◌, 0ᶠ, 1ᶠ, ½ᶠ}
use Rattle.float.specs.Order.{hypot, min}
use Rattle.float.specs.Laws.Nan.{Number}
use Rattle.float.specs.Laws.Compare.{not_lt_le}
use Rattle.glyphs.specs.declared.rect.Point.{Point}
use Rattle.glyphs.specs.declared.rect.Rectangle.{Rectangle}
use Rattle.glyphs.specs.Rect.{clear_of_obstacles, is_finite}
use Rattle.glyphs.specs.Spots.{squared_distance, apart}
use Rattle.regions.specs.Ring.{Piece}
use Rattle.regions.specs.Clearance.{signed_clearance}
use Rattle.relax.specs.declared.Spreading.{Spreading}
use Rattle.relax.specs.declared.distances.Distances.{Distances}
use Rattle.relax.specs.Field.{field_of, at, force_on, accepts, clear_of_others}
use Rattle.relax.specs.Scatter.{Scatter, Surroundings, settle, stepped, try_step, relax_point, max_step_of, relax_sweep, relax_sweeps, clearances_of}
use Rattle.relax.specs.Scatter.{honoring_of, idle, relax_scatter}
use Rattle.claims.specs.Claim.{Inset}
use Rattle.claims.specs.Kept.{Unblocked, Fits, Stands, Kept}

-- ---- one element replaced
every_set : {A : Type 0} (P : A → Type 0) (xs : List A) (i : ℕ) (c : A) → Every P xs → (i < length xs → P c) → Every P (set xs i c)
every_set P [] i c h k = tt
every_set P (x ∷ xs) zero c h k = (k (omega arith), h.1)
every_set P (x ∷ xs) (suc i) c h k = (h.0, every_set P xs i c h.1 (λ l. k (omega arith)))

-- c with every element but the one at i
abbrev Others : {A : Type 0} → (A → A → Type 0) → A → ℕ → List A → Type 0
Others R c i [] = Unit {0}
Others R c zero (x ∷ xs) = Every (R c) xs
Others R c (suc i) (x ∷ xs) = R c x × Others R c i xs

pairwise_set :
    {A : Type 0} (R : A → A → Type 0) (both : (x y : A) → R x y → R y x) (xs : List A) (i : ℕ) (c : A) → Pairwise R xs → Others R c i xs
    → Pairwise R (set xs i c)
pairwise_set R both [] i c h k = tt
pairwise_set R both (x ∷ xs) zero c h k = (k, h.1)
pairwise_set R both (x ∷ xs) (suc i) c h k = (every_set (R x) xs i c h.0 (λ l. both c x k.0), pairwise_set R both xs i c h.1 k.1)

-- ---- the test against the other marks
split : (a b : Bool) → T (a && b) → T a × T b
split true b t = (tt, t)
split false b t = absurd t

either : (a b : Bool) → T (a || b) → a ≡ false → T b
either true b t e = let z : true ≡ false = e in absurd (subst T z tt)
either false b t e = t

module _ (spacing : Float) (R : Point → Point → Type 0) (near : (p q : Point) → T (squared_distance p q ≥ᶠ spacing *ᶠ spacing) → R p q) (c : Point) where
  beyond : (i j : ℕ) (qs : List Point) → i < j → T (clear_of_others c (spacing *ᶠ spacing) i j qs) → Every (R c) qs
  unfolding clear_of_others apart
  beyond i j [] h t = tt
  beyond i j (q ∷ qs) h t =
      let s = split (eqb j i || squared_distance c q ≥ᶠ spacing *ᶠ spacing) (clear_of_others c (spacing *ᶠ spacing) i (j + 1) qs) t in
      (near c q (either (eqb j i) _ s.0 (ne_eqb j i (λ (e : j ≡ i). omega arith))), beyond i (j + 1) qs (omega arith) s.1)

  others : (i j k : ℕ) (qs : List Point) → j + k ≡ i → T (clear_of_others c (spacing *ᶠ spacing) i j qs) → Others R c k qs
  unfolding clear_of_others apart
  others i j zero [] e t = tt
  others i j (suc k) [] e t = tt
  others i j zero (q ∷ qs) e t =
      let s = split (eqb j i || squared_distance c q ≥ᶠ spacing *ᶠ spacing) (clear_of_others c (spacing *ᶠ spacing) i (j + 1) qs) t in
      beyond i (j + 1) qs (omega arith) s.1
  others i j (suc k) (q ∷ qs) e t =
      let s = split (eqb j i || squared_distance c q ≥ᶠ spacing *ᶠ spacing) (clear_of_others c (spacing *ᶠ spacing) i (j + 1) qs) t in
      (near c q (either (eqb j i) _ s.0 (ne_eqb j i (λ (f : j ≡ i). omega arith))), others i (j + 1) k qs (omega arith) s.1)

-- ---- the sweeps
module _
    (numbers : Spreading) (piece : Piece) (obstacles : List Rectangle) (spacing inset : Float) (strict : Bool)
    (R : Point → Point → Type 0) (both : (p q : Point) → R p q → R q p) (near : (p q : Point) → T (squared_distance p q ≥ᶠ spacing *ᶠ spacing) → R p q)
    (known : (x y : Float) → Number (signed_clearance x y piece)) (inset-known : Number inset) where
  abbrev field : Distances
  field = field_of numbers spacing inset

  abbrev surroundings : List Bool → Surroundings
  surroundings honoring = record { field = field; piece = piece; obstacles = obstacles; honoring = honoring }

  pub record Loose (honoring : List Bool) (s : Scatter) : Type 0 where
    pub insets : Every (Stands piece inset) s.points
    pub unblocked : T strict → Every (Unblocked obstacles inset) s.points
    pub apart : Pairwise R s.points
    pub flags : (i : ℕ) → i < length s.points → T strict → T (get_or honoring i false)

  -- what an accepted place has
  record Fit (i : ℕ) (honor : Bool) (points : List Point) (c : Point) : Type 0 where
    clear : Inset piece inset c
    free : T honor → Unblocked obstacles inset c
    apart : Others R c i points

  abbrev Judged : ℕ → Bool → List Point → Point → Option Float → Type 0
  Judged i honor points c (Some d) = Fit i honor points c
  Judged i honor points c None = Unit {0}

  judged : (i : ℕ) (honor : Bool) (points : List Point) (c : Point) → Judged i honor points c (accepts field piece obstacles c i points honor)
  unfolding accepts field_of
  judged i honor points c =
      go (signed_clearance c.x c.y piece <ᶠ inset) honor (clear_of_obstacles c.x c.y obstacles inset) (clear_of_others c (spacing *ᶠ spacing) i 0 points)
      (λ t. not_lt_le inset (signed_clearance c.x c.y piece) inset-known (known c.x c.y) t) (λ t. t) (λ t. others spacing R near c i 0 i points (omega arith) t)
    where
      go : (low h u o : Bool) → (T (not low) → Inset piece inset c) → (T u → Unblocked obstacles inset c) → (T o → Others R c i points)
          → Judged i h points c (cond low None (cond (h && not u) None (cond o (Some (signed_clearance c.x c.y piece)) None)))
      go true h u o f g k = tt
      go false true true true f g k = record { clear = f tt; free = λ t. g tt; apart = k tt }
      go false true true false f g k = tt
      go false true false o f g k = tt
      go false false u true f g k = record { clear = f tt; free = λ t. absurd t; apart = k tt }
      go false false u false f g k = tt

  settled :
      (honoring : List Bool) (i : ℕ) (s : Scatter) (c : Point) (a : Option Float) (otherwise : Scatter)
      → Fits c → Loose honoring s → Judged i (get_or honoring i false) s.points c a → Loose honoring otherwise → Loose honoring (settle s i c a otherwise)
  unfolding settle
  settled honoring i s c (Some d) otherwise f l j o =
      record {
        insets = every_set (Stands piece inset) s.points i c l.insets (λ h. record { fits = f; deep = j.clear });
        unblocked = λ t. every_set (Unblocked obstacles inset) s.points i c (l.unblocked t) (λ h. j.free (l.flags i h t));
        apart = pairwise_set R both s.points i c l.apart j.apart;
        flags = λ k h t. l.flags k (subst (λ (m : ℕ). k < m) (length-set s.points i c) h) t;
      }
  settled honoring i s c None otherwise f l j o = o

  tried :
      (honoring : List Bool) (i : ℕ) (p : Point) (ux uy : Float) (tries : ℕ) (step : Float) (s : Scatter) → Loose honoring s
      → Loose honoring (try_step (surroundings honoring) i p ux uy tries step s)
  unfolding try_step
  tried honoring i p ux uy zero step s l = l
  tried honoring i p ux uy (suc tries) step s l =
      let c = stepped p ux uy step in
      settled honoring i s c (accepts field piece obstacles c i s.points (get_or honoring i false))
      (try_step (surroundings honoring) i p ux uy tries (step *ᶠ ½ᶠ) s)
      (record { across = add-fits binary64 _ _; along = add-fits binary64 _ _ }) l
      (judged i (get_or honoring i false) s.points c)
      (tried honoring i p ux uy tries (step *ᶠ ½ᶠ) s l)

  still : (honoring : List Bool) (b : Bool) (s t : Scatter) → Loose honoring s → Loose honoring t → Loose honoring (cond b s t)
  still honoring true s t l m = l
  still honoring false s t l m = m

  at_point :
      (honoring : List Bool) (maxStep : Float) (s : Scatter) (i : ℕ) → Loose honoring s
      → Loose honoring (relax_point numbers (surroundings honoring) maxStep s i)
  unfolding relax_point
  at_point honoring maxStep s i l =
      let p = at s.points i in
      let f = force_on field piece i s.points (get_or s.clearance i nan) in
      let m = hypot f.x f.y in
      still honoring (not (is_finite m) || m ≤ᶠ 0ᶠ) s
      (try_step (surroundings honoring) i p (f.x /ᶠ m) (f.y /ᶠ m) (suc numbers.backtracks) (maxStep *ᶠ min m 1ᶠ) s) l
      (tried honoring i p (f.x /ᶠ m) (f.y /ᶠ m) (suc numbers.backtracks) (maxStep *ᶠ min m 1ᶠ) s l)

  -- what a turn keeps, all turns keep
  folded :
      {A : Type 0} (honoring : List Bool) (f : Scatter → A → Scatter) → ((s : Scatter) (a : A) → Loose honoring s → Loose honoring (f s a))
      → (s : Scatter) (xs : List A) → Loose honoring s → Loose honoring (foldl f s xs)
  folded honoring f h s [] l = l
  folded honoring f h s (x ∷ xs) l = folded honoring f h (f s x) xs (h s x l)

  swept : (honoring : List Bool) (s : Scatter) (sweep : ℕ) → Loose honoring s → Loose honoring (relax_sweep numbers (surroundings honoring) s sweep)
  unfolding relax_sweep
  swept honoring s sweep l =
      let maxStep = max_step_of numbers field.spacing sweep in
      folded honoring (relax_point numbers (surroundings honoring) maxStep) (at_point honoring maxStep) s (up_to (length s.points)) l

  flagged :
      (points : List Point) → (T strict → Every (Unblocked obstacles inset) points) → (i : ℕ) → i < length points → T strict
      → T (get_or (honoring_of obstacles inset points) i false)
  unfolding honoring_of
  flagged points h i l t = go points i (h t) l
    where
      go :
          (ps : List Point) (i : ℕ) → Every (Unblocked obstacles inset) ps → i < length ps
          → T (get_or (map (λ (p : Point). clear_of_obstacles p.x p.y obstacles inset) ps) i false)
      go [] i e l = absurd (omega arith)
      go (p ∷ ps) zero e l = e.0
      go (p ∷ ps) (suc i) e l = go ps i e.1 (omega arith)

  all_swept : (honoring : List Bool) (s : Scatter) → Loose honoring s → Loose honoring (relax_sweeps numbers (surroundings honoring) s)
  unfolding relax_sweeps
  all_swept honoring s l = folded honoring (relax_sweep numbers (surroundings honoring)) (swept honoring) s (up_to numbers.sweeps) l

  pub relaxed :
      (points : List Point) → Kept piece inset obstacles R strict points
      → Kept piece inset obstacles R strict (relax_scatter numbers points piece obstacles spacing inset)
  unfolding relax_scatter
  relaxed points r = go (idle (length points) spacing)
    where
      honoring : List Bool
      honoring = honoring_of obstacles inset points

      start : Scatter
      start = record { points = points; clearance = clearances_of piece points }

      end : Scatter
      end = relax_sweeps numbers (surroundings honoring) start

      l : Loose honoring end
      l = all_swept honoring start (record { insets = r.insets; unblocked = r.unblocked; apart = r.apart; flags = flagged points r.unblocked })

      go : (b : Bool) → Kept piece inset obstacles R strict (cond b points end.points)
      go true = r
      go false = record { insets = l.insets; unblocked = l.unblocked; apart = l.apart }
