-- discs.rs, `escape_obstacles`: a blocked anchor moved to the nearest of the obstacles' exits. Definitions only.
use Rattle.std.specs.Prelude.{Bool, true, cond, not, ◌||◌, List, [], ◌∷◌, Option, None, Some, Float}
use mathlib.Core.List.{foldl}
use Rattle.laws.specs.Orders.{◌then_by◌, is_lt}
use Rattle.float.specs.Ops.{◌+ᶠ◌, ◌-ᶠ◌, ◌*ᶠ◌, ◌<ᶠ◌, 1ᶠ, ½ᶠ, literal}
use Rattle.float.specs.Total.{total_cmp}
use Rattle.glyphs.specs.declared.rect.Point.{Point}
use Rattle.glyphs.specs.declared.rect.Rectangle.{Rectangle}
use Rattle.glyphs.specs.Rect.{clear_of_obstacles}
use Rattle.glyphs.specs.Spots.{squared_distance}
use Rattle.regions.specs.Ring.{Piece}
use Rattle.regions.specs.Clearance.{signed_clearance}
use Rattle.lattice.specs.declared.escape.Exit.{Exit}

-- (x, y)
abbrev pub point : Float → Float → Point
point x y = record { x = x; y = y }

-- 1e-9
abbrev pub 1e-9ᶠ : Float
1e-9ᶠ = literal 0x3e11_2e0b_e826_d695

-- `best`, none or the squared distance and the candidate: nearer to the anchor, then of smaller x, then of smaller y
abbrev pub better : Option Exit → Exit → Bool
better None e = true
better (Some best) e = is_lt (total_cmp e.square best.square then_by total_cmp e.place.x best.place.x then_by total_cmp e.place.y best.place.y)

-- the axis exits of an obstacle, a hair past its clearance ring
unfoldable pub exits : Point → Float → Rectangle → List Point
exits anchor pad rect =
    let half-w = ½ᶠ *ᶠ rect.width +ᶠ pad in
    let half-h = ½ᶠ *ᶠ rect.height +ᶠ pad in
    let cx = rect.center.x in
    let cy = rect.center.y in
    point (cx -ᶠ half-w) anchor.y ∷ point (cx +ᶠ half-w) anchor.y ∷ point anchor.x (cy -ᶠ half-h) ∷ point anchor.x (cy +ᶠ half-h) ∷ []

unfoldable pub consider : Point → Piece → List Rectangle → Float → Option Exit → Point → Option Exit
consider anchor piece obstacles clearance best p =
    let exit : Exit = record { square = squared_distance p anchor; place = p } in
    cond (not (clear_of_obstacles p.x p.y obstacles clearance) || signed_clearance p.x p.y piece <ᶠ clearance) best
    (cond (better best exit) (Some exit) best)

-- best.map_or(anchor, |(_, p)| p)
abbrev pub or_anchor : Point → Option Exit → Point
or_anchor anchor None = anchor
or_anchor anchor (Some exit) = exit.place

-- the best of all obstacles' exits
unfoldable pub best_exit : Point → Piece → List Rectangle → Float → Option Exit
best_exit anchor piece obstacles clearance =
    let pad = clearance *ᶠ (1ᶠ +ᶠ 1e-9ᶠ) in
    foldl (λ (best : Option Exit) (rect : Rectangle). foldl (consider anchor piece obstacles clearance) best (exits anchor pad rect)) None obstacles

unfoldable pub escape_obstacles : Point → Piece → List Rectangle → Float → Point
escape_obstacles anchor piece obstacles clearance =
    cond (clear_of_obstacles anchor.x anchor.y obstacles clearance) anchor (or_anchor anchor (best_exit anchor piece obstacles clearance))
