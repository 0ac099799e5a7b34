-- A worked job, and jobs near it: one item at or beyond a limit, cut short, or with two zones. What is refused, by the definitions, as one list.
-- Assumes nothing.
use Rattle.std.specs.Prelude.{ℕ, zero, suc, ◌+◌, ◌-◌, ◌≡◌, refl, length, take, Float}
use mathlib.Core.List.{List, [], ◌∷◌, ◌++◌, map, flat_map}
use Rattle.std.specs.Float.Ieee.{neg, div, of_int, of_bits}
use Rattle.float.specs.Ops.{literal, 0ᶠ}
use Rattle.glyphs.specs.declared.rect.Point.{Point}
use Rattle.format.specs.Rows.{◌unless◌, ◌or_else◌, faults, past, each}
use Rattle.format.specs.Numbers.{uint, bytes, item, in_range, coord_in, coord_at, coord_of, point_at, share}
use Rattle.format.specs.Pieces.{ring, ring_fault, ring_end, piece, piece_fault, piece_end}
use Rattle.job.specs.Head.{lent_fault, number_after, choices_fault, measures_fault, head_fault, obstacles_fault, obstacles_end}
use Rattle.job.specs.Zones.{zone, letter, letter_fault, above, key_at, key_fault, counts_fault, count_at, zone_end, opening_fault, zone_fault, zone_next}
use Rattle.job.specs.Job.{zones, zones_end, zones_fault, items_fault, read_fault}

-- the bytes of a job, whose first four are the length of the rest
unfoldable pub job : List ℕ → List ℕ
unfolding bytes
job rest = bytes 4 (length rest) ++ rest

-- Uniform, BestEffort, radius 1, gap 0 followed, precision 1
unfoldable pub options : List ℕ
unfolding bytes
options = flat_map (bytes 1) (1 ∷ 0 ∷ 0 ∷ 1 ∷ []) ++ bytes 4 1024 ++ bytes 4 0 ++ bytes 1 0 ++ bytes 4 0 ++ bytes 4 1024 ++ bytes 4 0 ++ bytes 8 0

-- n obstacles, with these numbers
unfoldable pub obstacles : ℕ → List ℕ → List ℕ
unfolding bytes
obstacles n numbers = bytes 2 n ++ flat_map (bytes 4) numbers

-- zone A, count 1, one piece of one ring: the square (0,0) to (10,10)
unfoldable pub square : List ℕ
unfolding bytes
square =
    flat_map (bytes 1) (1 ∷ 65 ∷ [])
    ++ bytes 2 1
    ++ flat_map (bytes 1) (1 ∷ 1 ∷ [])
    ++ bytes 2 4
    ++ flat_map (bytes 4) (0 ∷ 0 ∷ 10240 ∷ 0 ∷ 10240 ∷ 10240 ∷ 0 ∷ 10240 ∷ [])

unfoldable pub worked : List ℕ
unfolding bytes options obstacles square
worked = options ++ obstacles 0 [] ++ bytes 2 1 ++ square

unfoldable pub cut : ℕ → List ℕ
unfolding worked
cut n = job (take (n - 4) worked)

-- 4, 5, .. n + 3 bytes of the worked job
cuts : ℕ → List (List ℕ)
unfolding cut
cuts zero = []
cuts (suc n) = cuts n ++ cut (n + 4) ∷ []

-- a job that ends in or right before an item is refused with 6
cuts_refused : map read_fault (cuts 77) ≡ 1 ∷ map (λ (s : List ℕ). 6) (cuts 76)
unfolding cuts cut job options obstacles square worked bytes uint item in_range coord_in ◌unless◌ ◌or_else◌ faults past ring_fault ring_end
    piece_fault piece_end lent_fault number_after choices_fault measures_fault head_fault obstacles_fault obstacles_end letter letter_fault above
    key_at key_fault counts_fault count_at zone_end opening_fault zone_fault zone_next zones_end zones_fault items_fault read_fault flat_map
cuts_refused = refl

-- ---- what is read

ten : Float
ten = literal 0x4024_0000_0000_0000

abbrev by : Float → Float → Point
by x y = record { x = x; y = y }

worked_zones : zones (job worked) ≡ record { key = 65 ∷ []; count = 1; pieces = ((by 0ᶠ 0ᶠ ∷ by ten 0ᶠ ∷ by ten ten ∷ by 0ᶠ ten ∷ []) ∷ []) ∷ [] } ∷ []
unfolding ten job options obstacles square worked bytes uint flat_map obstacles_end count_at zone key_at zones zone_end each past piece piece_end ring
    ring_end point_at coord_at coord_of share neg div of_int of_bits
worked_zones = refl
