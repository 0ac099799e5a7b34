-- What holds of the marks that the low-discrepancy and the random packer place: clearance, obstacles, and any two of them.
-- Rests on each mark being admitted by the computed tests, against all placed before it.
use Rattle.std.proofs.Math.Bool.{Bool, true, cond}
use Rattle.std.specs.Prelude.{false, not, ◌&&◌, ◌||◌, T, eqb, length, Float, Option, Some, None}
use mathlib.Core.List.{List, [], ◌∷◌, ◌++◌}
use Prim.Native.Nat.{ℕ, zero, suc, ◌+◌, ◌-◌}
use Rattle.std.specs.Float.Ieee.{binary64}
use Rattle.std.specs.Float.Ieee.Fits.{add-fits}
use Rattle.laws.specs.Any.{all}
use Rattle.laws.specs.Every.{Every, every_append, every_weaken, every_all, pairwise_append}
use Rattle.glyphs.specs.declared.rect.Point.{Point}
use Rattle.glyphs.specs.declared.rect.Rectangle.{Rectangle}
use Rattle.glyphs.specs.declared.stream.Stream.{Stream}
use Rattle.glyphs.specs.Stream.{random_range}
use Rattle.float.specs.Ops.{◌*ᶠ◌, ◌≥ᶠ◌}
use Rattle.glyphs.specs.Rect.{clear_of_obstacles}
use Rattle.glyphs.specs.Spots.{squared_distance}
use Rattle.regions.specs.Ring.{Piece}
use Rattle.regions.specs.Clearance.{signed_clearance}
use Rattle.lattice.specs.declared.context.PackCtx.{PackCtx}
use Rattle.lattice.specs.Context.{inset, spacing}
use Rattle.lattice.specs.Escape.{point}
use Rattle.scatter.specs.LowDiscrepancy.{budget, candidate, apart, admits, pass, passes}
use Rattle.scatter.specs.Random.{Thrown, Dart, hit, miss, after_dart, lands, throw, glyphs, throws}
use Rattle.claims.specs.Kept.{Unblocked, Fits, Stands, Kept, none_kept, less_kept}

three : (a b c : Bool) → T (a && b && c) → T a × T b × T c
three true true c t = (tt, tt, t)
three true false c t = absurd t
three false b c t = absurd t

-- !honor || clear, where obstacles are honoured
honored : (h c : Bool) → T (not h || c) → T h → T c
honored true c t u = t
honored false c t u = absurd u

-- one more mark
more_kept :
    (piece : Piece) (clear : Float) (near : List Rectangle) (R : Point → Point → Type 0) (honor : Bool) (placed : List Point) (p : Point)
    → Kept piece clear near R honor placed → Every (λ (q : Point). R q p) placed → Stands piece clear p → (T honor → Unblocked near clear p)
    → Kept piece clear near R honor (placed ++ p ∷ [])
more_kept piece clear near R honor placed p k r i u =
    record {
      insets = every_append (Stands piece clear) placed (p ∷ []) k.insets (i, tt);
      unblocked = λ t. every_append (Unblocked near clear) placed (p ∷ []) (k.unblocked t) (u t, tt);
      apart =
          pairwise_append R placed (p ∷ []) k.apart (tt, tt)
          (every_weaken (λ (q : Point). R q p) (λ (q : Point). Every (R q) (p ∷ [])) placed (λ q e. (e, tt)) r);
    }

-- ---- low discrepancy
abbrev pub AnchorFits : Option Point → Type 0
AnchorFits None = Unit {0}
AnchorFits (Some p) = Fits p

candidate_fits :
    (piece : Piece) (n : ℕ) (ctx : PackCtx) (near : List Rectangle) (anchor : Option Point) (min-x max-x min-y max-y : Float) (index : ℕ) → AnchorFits anchor
    → Fits (candidate piece n ctx near anchor min-x max-x min-y max-y index)
unfolding candidate
candidate_fits piece n ctx near None min-x max-x min-y max-y index f = record { across = add-fits binary64 _ _; along = add-fits binary64 _ _ }
candidate_fits piece n ctx near (Some p) min-x max-x min-y max-y zero f = f
candidate_fits piece n ctx near (Some p) min-x max-x min-y max-y (suc index) f = record { across = add-fits binary64 _ _; along = add-fits binary64 _ _ }

module _
    (piece : Piece) (n : ℕ) (ctx : PackCtx) (near : List Rectangle) (anchor : Option Point) (min-x max-x min-y max-y : Float) (held : AnchorFits anchor) where
  -- the computed test of a mark q and a later one p
  abbrev pub Tested : Point → Point → Type 0
  Tested q p = T (apart piece n ctx near anchor min-x max-x min-y max-y p q)

  abbrev KeptHere : Bool → List Point → Type 0
  KeptHere honor placed = Kept piece (inset ctx) near Tested honor placed

  admitted :
      (honor : Bool) (placed : List Point) (p : Point) → Fits p → KeptHere honor placed
      → T (admits piece n ctx near anchor min-x max-x min-y max-y honor placed p) → KeptHere honor (placed ++ p ∷ [])
  unfolding admits
  admitted honor placed p f k t =
      let test = apart piece n ctx near anchor min-x max-x min-y max-y p in
      let s = three (all test placed) (signed_clearance p.x p.y piece ≥ᶠ inset ctx) (not honor || clear_of_obstacles p.x p.y near (inset ctx)) t in
      more_kept piece (inset ctx) near Tested honor placed p k (every_all test placed s.0) (record { fits = f; deep = s.1 })
      (honored honor (clear_of_obstacles p.x p.y near (inset ctx)) s.2)

  next :
      (honor : Bool) (placed : List Point) (p : Point) (b : Bool) → (T b → KeptHere honor (placed ++ p ∷ [])) → KeptHere honor placed
      → KeptHere honor (cond b (placed ++ p ∷ []) placed)
  next honor placed p true f k = f tt
  next honor placed p false f k = k

  stop : (honor : Bool) (e : Bool) (placed later : List Point) → KeptHere honor placed → KeptHere honor later → KeptHere honor (cond e placed later)
  stop honor true placed later k l = k
  stop honor false placed later k l = l

  passed :
      (honor : Bool) (turns index : ℕ) (placed : List Point) → KeptHere honor placed
      → KeptHere honor (pass piece n ctx near anchor min-x max-x min-y max-y honor turns index placed)
  unfolding pass
  passed honor zero index placed k = k
  passed honor (suc turns) index placed k =
      let p = candidate piece n ctx near anchor min-x max-x min-y max-y index in
      let b = admits piece n ctx near anchor min-x max-x min-y max-y honor placed p in
      let now = cond b (placed ++ p ∷ []) placed in
      stop honor (eqb (length placed) n) placed (pass piece n ctx near anchor min-x max-x min-y max-y honor turns (index + 1) now) k
      (passed honor turns (index + 1) now
      (next honor placed p b (admitted honor placed p (candidate_fits piece n ctx near anchor min-x max-x min-y max-y index held) k) k))

  -- both passes; under Strict the second is not made
  pub scattered : Kept piece (inset ctx) near Tested ctx.mode.strict_obstacles (passes piece n ctx near anchor min-x max-x min-y max-y)
  unfolding passes
  scattered = go ctx.mode.strict_obstacles (eqb (length near) 0)
    where
      first : List Point
      first = pass piece n ctx near anchor min-x max-x min-y max-y true (budget n) 0 []

      k : KeptHere true first
      k = passed true (budget n) 0 [] (none_kept piece (inset ctx) near Tested true)

      go : (strict e : Bool) → KeptHere strict (cond (strict || e) first (pass piece n ctx near anchor min-x max-x min-y max-y false (budget n) 0 first))
      go true e = k
      go false true = less_kept k
      go false false = passed false (budget n) 0 first (less_kept k)

-- ---- random
module _ (piece : Piece) (n : ℕ) (attempts : ℕ) (ctx : PackCtx) (near : List Rectangle) (min-x max-x min-y max-y : Float) where
  -- the computed test of a mark q and a later one p
  abbrev pub Distant : Point → Point → Type 0
  Distant q p = T (squared_distance p q ≥ᶠ spacing ctx *ᶠ spacing ctx)

  abbrev KeptThrown : Bool → List Point → Type 0
  KeptThrown honor placed = Kept piece (inset ctx) near Distant honor placed

  landed :
      (honor : Bool) (placed : List Point) (p : Point) → Fits p → KeptThrown honor placed
      → T (lands piece n attempts ctx near min-x max-x min-y max-y honor placed p) → KeptThrown honor (placed ++ p ∷ [])
  unfolding lands
  landed honor placed p f k t =
      let test : Point → Bool = λ q. squared_distance p q ≥ᶠ spacing ctx *ᶠ spacing ctx in
      let s = three (all test placed) (signed_clearance p.x p.y piece ≥ᶠ inset ctx) (not honor || clear_of_obstacles p.x p.y near (inset ctx)) t in
      more_kept piece (inset ctx) near Distant honor placed p k (every_all test placed s.0) (record { fits = f; deep = s.1 })
      (honored honor (clear_of_obstacles p.x p.y near (inset ctx)) s.2)

  -- a dart that hits, lands
  abbrev Good : Bool → List Point → Dart → Type 0
  Good honor placed (hit p rng) = KeptThrown honor (placed ++ p ∷ [])
  Good honor placed (miss rng) = Unit {0}

  aim :
      (honor : Bool) (placed : List Point) (p : Point) (rng : Stream) (b : Bool) (later : Dart) → (T b → KeptThrown honor (placed ++ p ∷ []))
      → Good honor placed later → Good honor placed (cond b (hit p rng) later)
  aim honor placed p rng true later f g = f tt
  aim honor placed p rng false later f g = g

  thrown :
      (honor : Bool) (left : ℕ) (placed : List Point) (rng : Stream) → KeptThrown honor placed
      → Good honor placed (throw piece n attempts ctx near min-x max-x min-y max-y honor left placed rng)
  unfolding throw random_range
  thrown honor zero placed rng k = tt
  thrown honor (suc left) placed rng k =
      let x = random_range rng min-x max-x in
      let y = random_range x.next min-y max-y in
      let p = point x.value y.value in
      aim honor placed p y.next (lands piece n attempts ctx near min-x max-x min-y max-y honor placed p)
      (throw piece n attempts ctx near min-x max-x min-y max-y honor left placed y.next)
      (landed honor placed p (record { across = add-fits binary64 _ _; along = add-fits binary64 _ _ }) k)
      (thrown honor left placed y.next k)

  after :
      (honor : Bool) (t : Thrown) (d : Dart) (next : Thrown → Thrown) → KeptThrown honor t.placed → Good honor t.placed d
      → ((u : Thrown) → KeptThrown honor u.placed → KeptThrown honor (next u).placed) → KeptThrown honor (after_dart next t d).placed
  after honor t (hit p rng) next k g f = f (record { placed = t.placed ++ p ∷ []; rng = rng }) g
  after honor t (miss rng) next k g f = k

  filled :
      (honor : Bool) (left : ℕ) (t : Thrown) → KeptThrown honor t.placed
      → KeptThrown honor (glyphs piece n attempts ctx near min-x max-x min-y max-y honor left t).placed
  unfolding glyphs
  filled honor zero t k = k
  filled honor (suc left) t k =
      after honor t (throw piece n attempts ctx near min-x max-x min-y max-y honor attempts t.placed t.rng)
      (glyphs piece n attempts ctx near min-x max-x min-y max-y honor left) k
      (thrown honor attempts t.placed t.rng k)
      (λ u l. filled honor left u l)

  pub darts :
      (rng : Stream) → Kept piece (inset ctx) near Distant ctx.mode.strict_obstacles (throws piece n attempts ctx near min-x max-x min-y max-y rng).placed
  unfolding throws
  darts rng = go ctx.mode.strict_obstacles (eqb (length near) 0)
    where
      first : Thrown
      first = glyphs piece n attempts ctx near min-x max-x min-y max-y true n (record { placed = []; rng = rng })

      k : KeptThrown true first.placed
      k = filled true n (record { placed = []; rng = rng }) (none_kept piece (inset ctx) near Distant true)

      go :
          (strict e : Bool)
          → KeptThrown strict (cond (strict || e) first (glyphs piece n attempts ctx near min-x max-x min-y max-y false (n - length first.placed) first)).placed
      go true e = k
      go false true = less_kept k
      go false false = filled false (n - length first.placed) first (less_kept k)
