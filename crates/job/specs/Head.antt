-- The job's first bytes: its length, its version, the packer's options, and the obstacles. What is refused, and what is read. Definitions only.
use Rattle.std.specs.Prelude.{ℕ, zero, suc, ◌+◌, ◌-◌, ◌*◌, cond, List, length, leb, eqb, Float, None, Some, Option}
use Rattle.glyphs.specs.declared.rect.Rectangle.{Rectangle}
use Rattle.glyphs.specs.declared.options.GlyphArrangement.{GlyphArrangement}
use Rattle.glyphs.specs.declared.options.GlyphArrangement.TheVariants.{Uniform, Rectangular, LowDiscrepancy, Random}
use Rattle.glyphs.specs.declared.options.ObstaclePolicy.{ObstaclePolicy}
use Rattle.glyphs.specs.declared.options.ObstaclePolicy.TheVariants.{BestEffort, Strict}
use Rattle.discs.specs.declared.options.Radius.{Radius}
use Rattle.discs.specs.declared.options.Radius.TheVariants.{Auto, Stated}
use Rattle.discs.specs.declared.options.GlyphOptions.{GlyphOptions}
use Rattle.format.specs.Rows.{◌unless◌, ◌or_else◌, faults, each}
use Rattle.format.specs.Numbers.{u8, u16, u32, u64, u8_in, u16_in, u32_in, whole, share, coord_in, coord_at, next_coord, point_at}

-- ---- where each stands

abbrev pub version_at : ℕ
version_at = 4

abbrev pub arrangement_at : ℕ
arrangement_at = 5

abbrev pub policy_at : ℕ
policy_at = 6

abbrev pub radius_kind_at : ℕ
radius_kind_at = 7

abbrev pub radius_at : ℕ
radius_at = 8

abbrev pub gap_at : ℕ
gap_at = 12

abbrev pub boundary_kind_at : ℕ
boundary_kind_at = 16

abbrev pub boundary_gap_at : ℕ
boundary_gap_at = 17

abbrev pub precision_at : ℕ
precision_at = 21

abbrev pub attempts_at : ℕ
attempts_at = 25

abbrev pub seed_at : ℕ
seed_at = 29

abbrev pub obstacles_at : ℕ
obstacles_at = 37

-- ---- row 1, the lent job: 5 to 65,536 bytes, and the length field is the rest

unfoldable pub lent_fault : List ℕ → ℕ
lent_fault s =
    1 unless leb 5 (length s)
    or_else 1 unless leb (length s) 65536
    or_else 1 unless eqb (u32 s 0) (length s - 4)

-- ---- row 2, the work slices, by their lengths

unfoldable pub work_fault : ℕ → ℕ → ℕ
work_fault first second = 2 unless leb 8000 first or_else 2 unless leb 8000 second

-- ---- rows 3, 4 and 5: version, arrangement, policy, radius, gap, boundary gap, precision, attempts, seed

-- the number after a kind: 0 after kind 0 (5), else 0..most (4)
unfoldable pub number_after : ℕ → List ℕ → ℕ → ℕ → ℕ
number_after zero s at most = u32_in s at 0 0 5
number_after (suc kind) s at most = u32_in s at 0 most 4

unfoldable pub choices_fault : List ℕ → ℕ
choices_fault s =
    u8_in s arrangement_at 0 3 4
    or_else u8_in s policy_at 0 1 4
    or_else u8_in s radius_kind_at 0 1 4
    or_else number_after (u8 s radius_kind_at) s radius_at 1048576

unfoldable pub measures_fault : List ℕ → ℕ
measures_fault s =
    u32_in s gap_at 0 16384 4
    or_else u8_in s boundary_kind_at 0 1 4
    or_else number_after (u8 s boundary_kind_at) s boundary_gap_at 16384
    or_else u32_in s precision_at 1 1048576 4
    or_else u32_in s attempts_at 0 2000 4
    or_else 6 unless whole s seed_at 8

unfoldable pub head_fault : List ℕ → ℕ
head_fault s = u8_in s version_at 1 1 3 or_else choices_fault s or_else measures_fault s

-- ---- the options

unfoldable pub arrangement_of : ℕ → GlyphArrangement
arrangement_of n = cond (eqb n 0) Uniform (cond (eqb n 1) Rectangular (cond (eqb n 2) LowDiscrepancy Random))

unfoldable pub policy_of : ℕ → ObstaclePolicy
policy_of n = cond (eqb n 0) BestEffort Strict

unfoldable pub radius_of : ℕ → ℕ → Radius
radius_of kind n = cond (eqb kind 0) Auto (Stated (share n))

-- arrangement, policy and radius
abbrev pub choices_of : List ℕ → GlyphArrangement × ObstaclePolicy × Radius
choices_of s = (arrangement_of (u8 s arrangement_at), policy_of (u8 s policy_at), radius_of (u8 s radius_kind_at) (u32 s radius_at))

unfoldable pub boundary_of : ℕ → ℕ → Option Float
boundary_of kind n = cond (eqb kind 0) None (Some (share n))

unfoldable pub options_of : List ℕ → GlyphOptions
options_of s =
    record {
      arrangement = arrangement_of (u8 s arrangement_at);
      radius = radius_of (u8 s radius_kind_at) (u32 s radius_at);
      gap = share (u32 s gap_at);
      boundary_gap = boundary_of (u8 s boundary_kind_at) (u32 s boundary_gap_at);
      seed = u64 s seed_at;
      precision = share (u32 s precision_at);
      max_attempts = u32 s attempts_at;
      obstacle_policy = policy_of (u8 s policy_at);
    }

-- ---- row 8, the obstacles: count u16 0..64, then centre x, centre y, width and height of each

-- those at `at`
abbrev pub obstacles_fault_at : List ℕ → ℕ → ℕ
obstacles_fault_at s at =
    u16_in s at 0 64 8
    or_else faults (coord_in s 8) next_coord (4 * u16 s at) (at + 2)

abbrev pub obstacles_end_at : List ℕ → ℕ → ℕ
obstacles_end_at s at = at + 2 + 16 * u16 s at

abbrev pub obstacles_from : List ℕ → ℕ → List Float
obstacles_from s at = each (coord_at s) next_coord (4 * u16 s at) (at + 2)

-- the job's
unfoldable pub obstacles_fault : List ℕ → ℕ
obstacles_fault s = obstacles_fault_at s obstacles_at

unfoldable pub obstacles_end : List ℕ → ℕ
obstacles_end s = obstacles_end_at s obstacles_at

unfoldable pub obstacles : List ℕ → List Float
obstacles s = obstacles_from s obstacles_at

-- ---- one obstacle: what is refused, what stands there, and where the next stands

unfoldable pub rectangle_fault : List ℕ → ℕ → ℕ
rectangle_fault s at = faults (coord_in s 8) next_coord 4 at

unfoldable pub rectangle : List ℕ → ℕ → Rectangle
rectangle s at =
    record {
      center = point_at s at;
      width = coord_at s (at + 8);
      height = coord_at s (at + 12);
    }

abbrev pub next_rectangle : ℕ → ℕ
next_rectangle at = at + 16
