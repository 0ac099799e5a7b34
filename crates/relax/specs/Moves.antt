-- A mark's part of a sweep, parted: first where it moves to, which changes nothing, and then the move. The law says that this is `relax_point`.
-- Rests on the definitions.
use Rattle.std.specs.Prelude.{◌≡◌, Bool, true, false, not, cond, ◌||◌, Option, Some, None}
use Rattle.std.specs.Prelude.{List, map, ℕ, zero, suc, ◌/◌, ◌<◌, length, get_or, Float}
use Rattle.std.proofs.Math.Path.{refl}
use Rattle.std.proofs.Common.{sym, ap, ◌∙◌}
use Rattle.std.specs.Float.{nan}
use Rattle.float.specs.Ops.{◌*ᶠ◌, ◌/ᶠ◌, ◌≤ᶠ◌, 0ᶠ, 1ᶠ, ½ᶠ}
use Rattle.float.specs.Order.{hypot, min}
use Rattle.glyphs.specs.declared.rect.Point.{Point}
use Rattle.glyphs.specs.declared.rect.Rectangle.{Rectangle}
use Rattle.glyphs.specs.Rect.{is_finite}
use Rattle.glyphs.specs.Spots.{spot_at, spots_of, spots_at_lem}
use Rattle.regions.specs.Pieces.{rings_of}
use Rattle.regions.specs.Ring.{Piece}
use Rattle.regions.specs.Unrooted.{rooted}
use Rattle.relax.specs.Field.{at, force_on, accepts}
use Rattle.relax.specs.Scatter.{Scatter, Surroundings, moved, settle, stepped, try_step, relax_point}
use Rattle.relax.specs.declared.Spreading.{Spreading}
use Rattle.relax.specs.declared.push.Force.{Force}
use Rattle.relax.specs.declared.distances.Distances.{Distances}
use Rattle.relax.specs.declared.field.Field.{Field}
use Rattle.relax.specs.declared.marks.Marks.{Marks}
use Rattle.relax.specs.declared.moves.Move.{Move}

-- the scatter whose marks and clearances are held, the clearances with their roots not taken
abbrev pub scatter_of : Marks → Scatter
scatter_of marks = record { points = spots_of marks.spots.now; clearance = map rooted marks.unrooted.now }

-- what every sweep reads
abbrev pub surroundings : Field → List Bool → Surroundings
surroundings field honoring = record { field = field.distances; piece = rings_of field.piece; obstacles = field.obstacles.now; honoring = honoring }

-- the slices are those that were, and the flags are not changed
pub record Keeps (m m' : Marks) : Type 0 where
  pub spots : m'.spots.ghost_name ≡ m.spots.ghost_name
  pub unrooted : m'.unrooted.ghost_name ≡ m.unrooted.ghost_name
  pub honoring : m'.honoring.now ≡ m.honoring.now

-- the code's move has a clearance whose root is not taken
unfoldable pub told_of : Option Move → Option Move
told_of (Some m) = Some (record { to = m.to; clearance = rooted m.clearance })
told_of None = None

unfoldable pub or_else : Point → Option Float → Option Move → Option Move
or_else candidate (Some c) otherwise = Some (record { to = candidate; clearance = c })
or_else candidate None otherwise = otherwise

-- the first accepted of `tries` steps, each half of the one before
unfoldable pub first_accepted : Distances → Piece → List Rectangle → ℕ → List Point → Bool → Force → ℕ → Float → Option Move
first_accepted field piece obstacles i points honoring towards zero step = None
first_accepted field piece obstacles i points honoring towards (suc tries) step =
    let candidate = stepped (at points i) towards.x towards.y step in
    or_else candidate (accepts field piece obstacles candidate i points honoring)
    (first_accepted field piece obstacles i points honoring towards tries (step *ᶠ ½ᶠ))

-- where a push moves mark i to
unfoldable pub pushed_to : Distances → Piece → List Rectangle → ℕ → List Point → Bool → Force → ℕ → Float → Option Move
pushed_to field piece obstacles i points honoring f tries maxStep =
    let magnitude = hypot f.x f.y in
    cond (not (is_finite magnitude) || magnitude ≤ᶠ 0ᶠ) None
    (first_accepted field piece obstacles i points honoring (record { x = f.x /ᶠ magnitude; y = f.y /ᶠ magnitude }) tries
    (maxStep *ᶠ min magnitude 1ᶠ))

unfoldable pub settled : Scatter → ℕ → Option Move → Scatter
settled s i (Some m) = moved s i m.to m.clearance
settled s i None = s

-- ---- laws

pub kept_on : {m m' m'' : Marks} → Keeps m m' → Keeps m' m'' → Keeps m m''
kept_on a b = record { spots = b.spots ∙ a.spots; unrooted = b.unrooted ∙ a.unrooted; honoring = b.honoring ∙ a.honoring }

settle_move :
    (s : Scatter) (i : ℕ) (candidate : Point) (a : Option Float) (m : Option Move)
    → settle s i candidate a (settled s i m) ≡ settled s i (or_else candidate a m)
unfolding settle settled or_else
settle_move s i candidate (Some c) m = refl
settle_move s i candidate None m = refl

try_step_lem :
    (e : Surroundings) (i : ℕ) (s : Scatter) (towards : Force) (tries : ℕ) (step : Float)
    → try_step e i (at s.points i) towards.x towards.y tries step s
    ≡ settled s i (first_accepted e.field e.piece e.obstacles i s.points (get_or e.honoring i false) towards tries step)
unfolding try_step first_accepted settled
try_step_lem e i s towards zero step = refl
try_step_lem e i s towards (suc tries) step =
    rw (try_step_lem e i s towards tries (step *ᶠ ½ᶠ)) (settle_move s i _ _ _)

settled_cond : (s : Scatter) (i : ℕ) (b : Bool) (m : Option Move) → cond b s (settled s i m) ≡ settled s i (cond b None m)
unfolding settled
settled_cond s i true m = refl
settled_cond s i false m = refl

pub relax_point_lem :
    (numbers : Spreading) (e : Surroundings) (maxStep : Float) (s : Scatter) (i : ℕ)
    → relax_point numbers e maxStep s i
    ≡ settled s i
    (pushed_to e.field e.piece e.obstacles i s.points (get_or e.honoring i false)
    (force_on e.field e.piece i s.points (get_or s.clearance i nan))
    (suc numbers.backtracks)
    maxStep)
unfolding relax_point pushed_to
relax_point_lem numbers e maxStep s i =
    let f = force_on e.field e.piece i s.points (get_or s.clearance i nan) in
    let magnitude = hypot f.x f.y in
    let towards : Force = record { x = f.x /ᶠ magnitude; y = f.y /ᶠ magnitude } in
    let step = maxStep *ᶠ min magnitude 1ᶠ in
    let tries = suc numbers.backtracks in
    let still = not (is_finite magnitude) || magnitude ≤ᶠ 0ᶠ in
    ap (cond still s) (try_step_lem e i s towards tries step)
    ∙ settled_cond s i still (first_accepted e.field e.piece e.obstacles i s.points (get_or e.honoring i false) towards tries step)

-- one try of the mark i of a list of coordinates, which stands at p
module _ (field : Distances) (piece : Piece) (obstacles : List Rectangle) (i : ℕ) (spots : List Float) (honoring : Bool) (towards : Force) where
  module _ (within : i < length spots / 2) (p : Point) (e : p ≡ spot_at spots i) (tries : ℕ) (step : Float) where
    stands : at (spots_of spots) i ≡ p
    stands = spots_at_lem spots i (record { x = nan; y = nan }) within ∙ sym e

    pub first_refused :
        accepts field piece obstacles (stepped p towards.x towards.y step) i (spots_of spots) honoring ≡ None
        → first_accepted field piece obstacles i (spots_of spots) honoring towards (suc tries) step
        ≡ first_accepted field piece obstacles i (spots_of spots) honoring towards tries (step *ᶠ ½ᶠ)
    unfolding first_accepted or_else
    first_refused h = rw (stands, h)

    pub first_clear :
        (c : Float) → accepts field piece obstacles (stepped p towards.x towards.y step) i (spots_of spots) honoring ≡ Some c
        → first_accepted field piece obstacles i (spots_of spots) honoring towards (suc tries) step
        ≡ Some (record { to = stepped p towards.x towards.y step; clearance = c })
    unfolding first_accepted or_else
    first_clear c h = rw (stands, h)

  pub none_accepted : (step : Float) → first_accepted field piece obstacles i (spots_of spots) honoring towards zero step ≡ None
  unfolding first_accepted
  none_accepted step = refl
