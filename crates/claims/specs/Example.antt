-- A job of 97 bytes under Strict, with one pillar and two spots in one piece: what it says, and where the packer's definition places its spots.
-- Proved by computation.
use Rattle.std.specs.Prelude.{◌≡◌, refl, true, List, [], ◌∷◌, ℕ, suc, Float, None, Some}
use Rattle.std.specs.Float.Ieee
use Rattle.laws.specs.Any.{all}
use Rattle.laws.specs.Lists.{up_to}
use Rattle.laws.specs.Sort.{insert, sort_by}
use Rattle.float.specs.Ops.{literal, 0ᶠ, 1ᶠ, 2ᶠ}
use Rattle.float.specs.Order.{abs, min, max, clamp, hypot}
use Rattle.float.specs.Root.{root_of, nearest_root, floor_root}
use Rattle.float.specs.Whole.{floor}
use Rattle.float.specs.Total.{total_key, total_cmp}
use Rattle.glyphs.specs.declared.options.GlyphArrangement.TheVariants.{LowDiscrepancy}
use Rattle.glyphs.specs.declared.options.ObstaclePolicy.TheVariants.{Strict}
use Rattle.glyphs.specs.declared.rect.Point.{Point}
use Rattle.glyphs.specs.declared.rect.Rectangle.{Rectangle}
use Rattle.glyphs.specs.Apportion.{total, no_weight, share, whole_share, remainder, base, rems, assigned, by_remainder, order, hand_out, apportion}
use Rattle.glyphs.specs.Halton.{radical_inverse, digits}
use Rattle.glyphs.specs.Bounds.{extent, extents_of, box_of, ring_bounds}
use Rattle.glyphs.specs.Rect.{rect_at, rects_from, rectangles, dist_to_rect, clear_of_obstacles, is_finite, sane, filter, sanitize_obstacles, near}
use Rattle.glyphs.specs.Rect.{obstacles_near}
use Rattle.regions.specs.Ring.{Piece, next, prev, outer, holes}
use Rattle.regions.specs.Inside.{point_in_polygon, inside_after, intersect, flip}
use Rattle.regions.specs.Clearance.{along, edge_square, closer, best_after, best_of_ring, min_dist_to_rings, in_any, within, signed_clearance}
use Rattle.regions.specs.Area.{area_step, area_after, shoelace_area, area_sum, piece_area}
use Rattle.lattice.specs.declared.context.PackCtx.{PackCtx}
use Rattle.lattice.specs.Context.{inset, spacing}
use Rattle.lattice.specs.Escape.{point}
use Rattle.lattice.specs.Uniform.{local_to}
use Rattle.deepest.specs.declared.search.Deepest.{Deepest}
use Rattle.deepest.specs.declared.search.Deepest.TheVariants.{Found, Nothing, Full}
use Rattle.scatter.specs.LowDiscrepancy.{candidate, cell_number, apart, admits, pass, passes, pack_within, pack_scatter, lone_anchor}
use Rattle.discs.specs.declared.options.GlyphOptions.{GlyphOptions}
use Rattle.discs.specs.declared.options.Radius.TheVariants.{Stated}
use Rattle.discs.specs.Region.{Zone, quotas, deepest_of, pack_low_discrepancy_piece, pack_piece, pack_pieces, pack_region}
use Rattle.discs.specs.Radius.{context_at}
use Rattle.discs.specs.PlaceGlyphs.{is_left_in, work_of, pack, pack_at, size_for, sizing, place_glyphs}
use Rattle.format.specs.Rows.{◌unless◌, ◌or_else◌, faults, past, each}
use Rattle.format.specs.Numbers.{uint, item, in_range, coord_in, coord_at, coord_of, point_at, share as part}
use Rattle.format.specs.Pieces.{ring, ring_fault, ring_end, piece, piece_fault, piece_end}
use Rattle.job.specs.Head.{lent_fault, number_after, choices_fault, measures_fault, head_fault, arrangement_of, policy_of, radius_of, boundary_of, options_of}
use Rattle.job.specs.Head.{obstacles, obstacles_fault, obstacles_end}
use Rattle.job.specs.Zones.{zone, letter, letter_fault, above, key_at, key_fault, counts_fault, count_at, zone_end, opening_fault, zone_fault, zone_next}
use Rattle.job.specs.Job.{Job, job_of, zones, zones_end, zones_fault, items_fault}
use Rattle.relax.specs.Scatter.{source}
use Rattle.job.specs.Plan.{room, placements_of}
use Rattle.claims.specs.Claim.{pillars_of, placed_of}

-- LowDiscrepancy, Strict, radius 1, gap 0 followed, precision 1, no attempts, seed 0; a pillar of 2 by 2 at (6, 4); zone `A`, count 2,
-- the square (0, 0) to (12, 12)
pub job : List ℕ
job =
    0 ∷ 0 ∷ 0 ∷ 93
    ∷ 1 ∷ 2 ∷ 1
    ∷ 1 ∷ 0 ∷ 0 ∷ 4 ∷ 0
    ∷ 0 ∷ 0 ∷ 0 ∷ 0
    ∷ 0 ∷ 0 ∷ 0 ∷ 0 ∷ 0
    ∷ 0 ∷ 0 ∷ 4 ∷ 0
    ∷ 0 ∷ 0 ∷ 0 ∷ 0
    ∷ 0 ∷ 0 ∷ 0 ∷ 0 ∷ 0 ∷ 0 ∷ 0 ∷ 0
    ∷ 0 ∷ 1
    ∷ 0 ∷ 0 ∷ 24 ∷ 0 ∷ 0 ∷ 0 ∷ 16 ∷ 0 ∷ 0 ∷ 0 ∷ 8 ∷ 0 ∷ 0 ∷ 0 ∷ 8 ∷ 0
    ∷ 0 ∷ 1
    ∷ 1 ∷ 65 ∷ 0 ∷ 2 ∷ 1
    ∷ 1 ∷ 0 ∷ 4
    ∷ 0 ∷ 0 ∷ 0 ∷ 0 ∷ 0 ∷ 0 ∷ 0 ∷ 0
    ∷ 0 ∷ 0 ∷ 48 ∷ 0 ∷ 0 ∷ 0 ∷ 0 ∷ 0
    ∷ 0 ∷ 0 ∷ 48 ∷ 0 ∷ 0 ∷ 0 ∷ 48 ∷ 0
    ∷ 0 ∷ 0 ∷ 0 ∷ 0 ∷ 0 ∷ 0 ∷ 48 ∷ 0
    ∷ []

pub lent : lent_fault job ≡ 0
unfolding job lent_fault ◌unless◌ ◌or_else◌ uint
lent = refl

pub read : items_fault job ≡ 0
unfolding job items_fault head_fault choices_fault measures_fault number_after obstacles_fault obstacles_end zones_fault zones_end zone_fault zone_next
    opening_fault key_fault counts_fault letter_fault letter above key_at count_at zone_end piece_fault piece_end ring_fault ring_end item in_range
    coord_in uint faults past ◌unless◌ ◌or_else◌
read = refl

-- ---- what it says
abbrev pub 4ᶠ : Float
4ᶠ = literal 0x4010_0000_0000_0000

abbrev pub 6ᶠ : Float
6ᶠ = literal 0x4018_0000_0000_0000

abbrev pub 12ᶠ : Float
12ᶠ = literal 0x4028_0000_0000_0000

abbrev pub options : GlyphOptions
options =
    record {
      arrangement = LowDiscrepancy;
      radius = Stated 1ᶠ;
      gap = 0ᶠ;
      boundary_gap = None;
      seed = 0;
      precision = 1ᶠ;
      max_attempts = 0;
      obstacle_policy = Strict;
    }

abbrev pub square : Zone
square = record { key = 65 ∷ []; count = 2; pieces = ((point 0ᶠ 0ᶠ ∷ point 12ᶠ 0ᶠ ∷ point 12ᶠ 12ᶠ ∷ point 0ᶠ 12ᶠ ∷ []) ∷ []) ∷ [] }

abbrev pub said : Job
said = record { options = options; obstacles = 6ᶠ ∷ 4ᶠ ∷ 2ᶠ ∷ 2ᶠ ∷ []; zones = square ∷ [] }

pub says : job_of job ≡ said
unfolding job job_of options_of arrangement_of policy_of radius_of boundary_of obstacles obstacles_end zones zone key_at count_at zone_end piece piece_end ring
    ring_end point_at coord_at coord_of part uint each past Ieee.of_bits Ieee.of_fields Ieee.odd Ieee.climb Ieee.span Ieee.size Ieee.units Ieee.round Ieee.neg
    Ieee.div Ieee.of_int
says = refl

-- ---- what is placed
abbrev pub corner : Piece
corner = (point 0ᶠ 0ᶠ ∷ point 12ᶠ 0ᶠ ∷ point 12ᶠ 12ᶠ ∷ point 0ᶠ 12ᶠ ∷ []) ∷ []

abbrev pub pillar : Rectangle
pillar = record { center = point 6ᶠ 4ᶠ; width = 2ᶠ; height = 2ᶠ }

abbrev pub ctx : PackCtx
ctx = context_at options (pack options) 1ᶠ

-- the first candidate, (6, 4), lies on the pillar; the next two do not
abbrev pub one : Point
one = point (literal 0x4008_0000_0000_0000) (literal 0x4020_0000_0000_0000)

abbrev pub other : Point
other = point (literal 0x4022_0000_0000_0000) (literal 0x3ff5_5555_5555_5555)

pub shared : quotas square ≡ 2 ∷ []
unfolding quotas piece_area shoelace_area area_after area_step area_sum next outer holes apportion total no_weight share whole_share remainder base rems
    assigned by_remainder order hand_out up_to insert sort_by max abs floor total_key total_cmp Ieee.is_nan Ieee.le Ieee.eq Ieee.to_unsigned Ieee.to_bits
    Ieee.of_bits Ieee.of_fields Ieee.odd Ieee.climb Ieee.span Ieee.size Ieee.units Ieee.round Ieee.neg Ieee.sum Ieee.add Ieee.sub Ieee.mul Ieee.div
    Ieee.lt Ieee.of_int
shared = refl

bounded : ring_bounds (outer corner) ≡ Some (record { min_x = 0ᶠ; max_x = 12ᶠ; min_y = 0ᶠ; max_y = 12ᶠ })
unfolding ring_bounds box_of extents_of extent outer min max Ieee.is_nan Ieee.le Ieee.eq Ieee.lt Ieee.neg Ieee.of_bits Ieee.of_fields Ieee.odd
bounded = refl

pub kept_near : local_to corner (pillar ∷ []) (inset ctx) ≡ pillar ∷ []
unfolding inset obstacles_near filter near ring_bounds box_of extents_of extent outer min max Ieee.is_nan Ieee.le Ieee.eq Ieee.lt Ieee.neg Ieee.of_bits
    Ieee.of_fields Ieee.odd Ieee.climb Ieee.span Ieee.size Ieee.units Ieee.round Ieee.sum Ieee.add Ieee.sub Ieee.mul
kept_near = refl

passed : (left : ℕ) → pass corner 2 ctx (pillar ∷ []) None 0ᶠ 12ᶠ 0ᶠ 12ᶠ true (suc (suc (suc (suc left)))) 0 [] ≡ one ∷ other ∷ []
unfolding pass candidate admits apart cell_number radical_inverse digits all signed_clearance min_dist_to_rings best_of_ring best_after closer edge_square along
    clamp within in_any point_in_polygon inside_after intersect flip clear_of_obstacles dist_to_rect hypot max abs floor root_of nearest_root floor_root
    inset spacing next prev outer holes Ieee.is_nan Ieee.le Ieee.eq Ieee.lt Ieee.to_signed Ieee.to_unsigned Ieee.neg Ieee.of_bits Ieee.of_fields Ieee.odd
    Ieee.climb Ieee.span Ieee.size Ieee.units Ieee.round Ieee.sum Ieee.add Ieee.sub Ieee.mul Ieee.div Ieee.of_int
passed left = refl

scattered : pack_scatter None corner 2 ctx (pillar ∷ []) ≡ one ∷ other ∷ []
unfolding pack_scatter pack_within passes
scattered = rw (bounded, kept_near) (passed 1020)

-- no lone mark, so no deepest point is asked for
laid : (deepest : Deepest) → pack_low_discrepancy_piece deepest corner 2 ctx (pillar ∷ []) ≡ one ∷ other ∷ []
unfolding pack_low_discrepancy_piece lone_anchor
laid Nothing = scattered
laid Full = scattered
laid (Found x y clearance) = scattered

packed : pack_region room source options ctx (pillar ∷ []) square ≡ (one ∷ other ∷ []) ∷ []
unfolding pack_region pack_pieces pack_piece
packed = rw (shared, laid (deepest_of room options corner))

pub pillars : pillars_of said ≡ pillar ∷ []
unfolding rectangles rects_from rect_at sanitize_obstacles filter sane is_finite abs Ieee.lt Ieee.of_bits Ieee.of_fields Ieee.odd
pillars = refl

pub placed : placed_of said ≡ record { zone = square; spots = (one ∷ other ∷ []) ∷ [] } ∷ []
unfolding placements_of place_glyphs sizing size_for pack_at work_of is_left_in is_finite abs Ieee.lt Ieee.of_bits Ieee.of_fields Ieee.odd
placed = rw (pillars, packed)

pub found : (placements_of said).radius ≡ 1ᶠ
unfolding placements_of place_glyphs sizing size_for pack_at work_of is_left_in is_finite abs Ieee.lt Ieee.of_bits Ieee.of_fields Ieee.odd
found = refl

pub inset_is : inset ctx ≡ 1ᶠ
unfolding inset max Ieee.is_nan Ieee.lt Ieee.of_bits Ieee.of_fields Ieee.odd Ieee.climb Ieee.span Ieee.size Ieee.units Ieee.round Ieee.sum Ieee.add Ieee.mul
inset_is = refl

pub spacing_is : spacing ctx ≡ 2ᶠ
unfolding spacing max Ieee.is_nan Ieee.lt Ieee.of_bits Ieee.of_fields Ieee.odd Ieee.climb Ieee.span Ieee.size Ieee.units Ieee.round Ieee.sum Ieee.add Ieee.mul
spacing_is = refl
