-- relax.rs, `Field`: the push on a mark, the clearance's gradient, and whether a mark may move to a place.
-- `Distances` is the source's `Field` without the piece and the obstacles, which stand beside it, and with the margins of the inset and of the reach.
use Rattle.std.specs.Prelude.{Bool, true, not, cond, Option, Some, None, ◌&&◌, ◌||◌, List, [], ◌∷◌, ℕ, ◌+◌, eqb, get_or, Float}
use Rattle.std.specs.Float.{nan}
use Rattle.float.specs.Ops.{◌+ᶠ◌, ◌-ᶠ◌, ◌*ᶠ◌, ◌/ᶠ◌, ◌<ᶠ◌, ◌>ᶠ◌, ◌≤ᶠ◌, ◌≥ᶠ◌, 0ᶠ, literal}
use Rattle.float.specs.Order.{sqrt, hypot}
use Rattle.glyphs.specs.declared.rect.Point.{Point}
use Rattle.glyphs.specs.declared.rect.Rectangle.{Rectangle}
use Rattle.glyphs.specs.Rect.{clear_of_obstacles}
use Rattle.glyphs.specs.Spots.{apart}
use Rattle.regions.specs.Ring.{Piece}
use Rattle.regions.specs.Clearance.{signed_clearance}
use Rattle.regions.specs.Margins.{margin_of}
use Rattle.relax.specs.declared.Spreading.{Spreading}
use Rattle.relax.specs.declared.push.Force.{Force}
use Rattle.relax.specs.declared.distances.Distances.{Distances}

-- PROBE: 0.25; and 1e-12
abbrev pub probe_factor : Float
probe_factor = literal 0x3fd0_0000_0000_0000

abbrev pub flatness : Float
flatness = literal 0x3d71_9799_812d_ea11

-- relax_scatter's `let field = Field { .. }`
unfoldable pub field_of : Spreading → Float → Float → Distances
field_of numbers spacing inset =
    record {
      spacing = spacing;
      inset = inset;
      margin = margin_of inset;
      influence = numbers.influence *ᶠ spacing;
      boundary_reach = numbers.boundary_influence *ᶠ inset;
      reach = margin_of (numbers.boundary_influence *ᶠ inset);
      boundary_weight = numbers.boundary_weight;
      probe = probe_factor *ᶠ inset;
    }

-- points[i]
abbrev pub at : List Point → ℕ → Point
at points i = get_or points i (record { x = nan; y = nan })

abbrev pub no_force : Force
no_force = record { x = 0ᶠ; y = 0ᶠ }

-- the push of the neighbour q on p, added to the push so far
unfoldable pub push_of : Float → Point → Force → Point → Force
push_of influence p f q =
    let dx = p.x -ᶠ q.x in
    let dy = p.y -ᶠ q.y in
    let d2 = dx *ᶠ dx +ᶠ dy *ᶠ dy in
    let d = sqrt d2 in
    let w = (influence -ᶠ d) /ᶠ influence in
    cond (d2 ≤ᶠ 0ᶠ || d2 ≥ᶠ influence *ᶠ influence) f (record { x = f.x +ᶠ w *ᶠ dx /ᶠ d; y = f.y +ᶠ w *ᶠ dy /ᶠ d })

-- for (j, q) in points.iter().enumerate(), from the index j on
unfoldable pub pushes : Float → ℕ → Point → ℕ → List Point → Force → Force
pushes influence i p j [] f = f
pushes influence i p j (q ∷ qs) f = pushes influence i p (j + 1) qs (cond (eqb j i) f (push_of influence p f q))

unfoldable pub clearance_gradient : Distances → Piece → Point → Option Force
clearance_gradient field piece p =
    let h = field.probe in
    let gx = signed_clearance (p.x +ᶠ h) p.y piece -ᶠ signed_clearance (p.x -ᶠ h) p.y piece in
    let gy = signed_clearance p.x (p.y +ᶠ h) piece -ᶠ signed_clearance p.x (p.y -ᶠ h) piece in
    let norm = hypot gx gy in
    cond (norm >ᶠ flatness) (Some (record { x = gx /ᶠ norm; y = gy /ᶠ norm })) None

-- the boundary's push along the gradient, added
unfoldable pub push_inward : Distances → Float → Option Force → Force → Force
push_inward field clearance None f = f
push_inward field clearance (Some g) f =
    let w = field.boundary_weight *ᶠ (field.boundary_reach -ᶠ clearance) /ᶠ field.boundary_reach in
    record { x = f.x +ᶠ w *ᶠ g.x; y = f.y +ᶠ w *ᶠ g.y }

unfoldable pub force_on : Distances → Piece → ℕ → List Point → Float → Force
force_on field piece i points clearance =
    let p = at points i in
    let f = pushes field.influence i p 0 points no_force in
    cond (clearance <ᶠ field.boundary_reach && field.boundary_reach >ᶠ 0ᶠ) (push_inward field clearance (clearance_gradient field piece p) f) f

-- points.iter().enumerate().all(|(j, q)| j == i || ..), from the index j on
unfoldable pub clear_of_others : Point → Float → ℕ → ℕ → List Point → Bool
clear_of_others p spacing2 i j [] = true
clear_of_others p spacing2 i j (q ∷ qs) = (eqb j i || apart p spacing2 q) && clear_of_others p spacing2 i (j + 1) qs

unfoldable pub accepts : Distances → Piece → List Rectangle → Point → ℕ → List Point → Bool → Option Float
accepts field piece obstacles candidate i points honoring =
    let x = candidate.x in
    let y = candidate.y in
    let clearance = signed_clearance x y piece in
    cond (clearance <ᶠ field.inset) None
    (cond (honoring && not (clear_of_obstacles x y obstacles field.inset)) None
    (cond (clear_of_others candidate (field.spacing *ᶠ field.spacing) i 0 points) (Some clearance) None))
