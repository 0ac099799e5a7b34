-- A worked job, and jobs near it: one item at or beyond a limit, cut short, or with two zones. What is refused, by the definitions, as one list.
-- Assumes nothing.
use Rattle.std.specs.Prelude.{ℕ, zero, suc, ◌≡◌, refl, length}
use mathlib.Core.List.{List, [], ◌∷◌, ◌++◌, map, flat_map}
use Rattle.std.proofs.lemmas.List.Edits.{sets}
use Rattle.format.specs.Rows.{◌unless◌, ◌or_else◌, faults, past}
use Rattle.format.specs.Numbers.{uint, bytes, item, in_range, coord_in}
use Rattle.format.specs.Pieces.{ring_fault, ring_end, piece_fault, piece_end}
use Rattle.job.specs.Head.{lent_fault, number_after, choices_fault, measures_fault, head_fault, obstacles_fault, obstacles_end}
use Rattle.job.specs.Zones.{letter, letter_fault, above, key_at, key_fault, counts_fault, count_at, zone_end, opening_fault, zone_fault, zone_next}
use Rattle.job.specs.Job.{zones_end, zones_fault, items_fault, read_fault}
use Rattle.job.specs.Examples.{cut, job, obstacles, options, square, worked}

infix 20 ◌gives◌
-- a zone without pieces
plain : List ℕ → ℕ → List ℕ
unfolding bytes
plain key count = bytes 1 (length key) ++ key ++ bytes 2 count ++ bytes 1 0

-- the worked job with the n bytes of v at `at`, with its first n bytes only, and with two zones
with : ℕ → ℕ → ℕ → List ℕ
unfolding bytes worked
with at n v = sets (job worked) at (bytes n v)

two : List ℕ → ℕ → List ℕ → ℕ → List ℕ
unfolding bytes options obstacles plain
two a m b n = job (options ++ obstacles 0 [] ++ bytes 2 2 ++ plain a m ++ plain b n)

with_obstacles : ℕ → List ℕ → List ℕ
unfolding bytes options obstacles
with_obstacles n numbers = job (options ++ obstacles n numbers ++ bytes 2 0)

-- ---- the cases

record Case : Type 0 where
  job : List ℕ
  number : ℕ

abbrev ◌gives◌ : List ℕ → ℕ → Case
s gives n = record { job = s; number = n }

zeros : ℕ → List ℕ
zeros zero = []
zeros (suc n) = 0 ∷ zeros n

-- keys: A, AB, B, Z, a
cases : List Case
unfolding job worked with two with_obstacles zeros
cases =
    (job worked gives 0)
    ∷ (with 0 4 76 gives 1)
    ∷ (with 0 4 78 gives 1)
    ∷ (with 4 1 0 gives 3)
    ∷ (with 4 1 2 gives 3)
    ∷ (with 5 1 3 gives 0)
    ∷ (with 5 1 4 gives 4)
    ∷ (with 6 1 1 gives 0)
    ∷ (with 6 1 2 gives 4)
    ∷ (with 7 1 0 gives 5)
    ∷ (with 7 1 2 gives 4)
    ∷ (with 8 4 0 gives 0)
    ∷ (with 8 4 1048576 gives 0)
    ∷ (with 8 4 1048577 gives 4)
    ∷ (with 12 4 16384 gives 0)
    ∷ (with 12 4 16385 gives 4)
    ∷ (with 16 1 1 gives 0)
    ∷ (with 16 1 2 gives 4)
    ∷ (with 17 4 1 gives 5)
    ∷ (with 21 4 0 gives 4)
    ∷ (with 21 4 1 gives 0)
    ∷ (with 21 4 1048576 gives 0)
    ∷ (with 21 4 1048577 gives 4)
    ∷ (with 25 4 2000 gives 0)
    ∷ (with 25 4 2001 gives 4)
    ∷ (with 29 8 18446744073709551615 gives 0)
    ∷ (with 37 2 65 gives 8)
    ∷ (with 39 2 0 gives 7)
    ∷ (with 39 2 65 gives 9)
    ∷ (with 41 1 0 gives 9)
    ∷ (with 41 1 33 gives 9)
    ∷ (with 42 1 47 gives 10)
    ∷ (with 42 1 48 gives 0)
    ∷ (with 42 1 57 gives 0)
    ∷ (with 42 1 58 gives 10)
    ∷ (with 42 1 64 gives 10)
    ∷ (with 42 1 90 gives 0)
    ∷ (with 42 1 91 gives 10)
    ∷ (with 42 1 96 gives 10)
    ∷ (with 42 1 97 gives 0)
    ∷ (with 42 1 122 gives 0)
    ∷ (with 42 1 123 gives 10)
    ∷ (with 43 2 2000 gives 0)
    ∷ (with 43 2 2001 gives 9)
    ∷ (with 45 1 0 gives 7)
    ∷ (with 45 1 17 gives 9)
    ∷ (with 46 1 0 gives 9)
    ∷ (with 46 1 10 gives 9)
    ∷ (with 47 2 3 gives 7)
    ∷ (with 47 2 257 gives 9)
    ∷ (with 49 4 1048576 gives 0)
    ∷ (with 49 4 1048577 gives 13)
    ∷ (with 49 4 4293918720 gives 0)
    ∷ (with 49 4 4293918719 gives 13)
    ∷ (with 77 4 1048577 gives 13)
    ∷ (job (worked ++ 0 ∷ []) gives 7)
    ∷ (two (65 ∷ []) 1 (65 ∷ []) 1 gives 11)
    ∷ (two (65 ∷ []) 1 (65 ∷ 66 ∷ []) 1 gives 0)
    ∷ (two (65 ∷ 66 ∷ []) 1 (65 ∷ []) 1 gives 11)
    ∷ (two (66 ∷ []) 1 (65 ∷ []) 1 gives 11)
    ∷ (two (90 ∷ []) 1 (97 ∷ []) 1 gives 0)
    ∷ (two (65 ∷ []) 1000 (66 ∷ []) 1000 gives 0)
    ∷ (two (65 ∷ []) 1000 (66 ∷ []) 1001 gives 12)
    ∷ (two (65 ∷ []) 2000 (65 ∷ []) 1 gives 11)
    ∷ (with_obstacles 1 (1048576 ∷ 4293918720 ∷ 0 ∷ 4294967295 ∷ []) gives 0)
    ∷ (with_obstacles 1 (1048577 ∷ 0 ∷ 1 ∷ 1 ∷ []) gives 8)
    ∷ (with_obstacles 1 (0 ∷ 0 ∷ 1 ∷ 1048577 ∷ []) gives 8)
    ∷ (with_obstacles 1 (0 ∷ 0 ∷ 1 ∷ []) gives 6)
    ∷ (with_obstacles 64 (zeros 256) gives 0)
    ∷ []

cases_hold : map (λ (c : Case). read_fault c.job) cases ≡ map (λ (c : Case). c.number) cases
unfolding cases job options obstacles plain square worked with cut two with_obstacles zeros bytes uint item in_range coord_in ◌unless◌ ◌or_else◌
    faults past ring_fault ring_end piece_fault piece_end lent_fault number_after choices_fault measures_fault head_fault obstacles_fault
    obstacles_end letter letter_fault above key_at key_fault counts_fault count_at zone_end opening_fault zone_fault zone_next zones_end zones_fault
    items_fault read_fault flat_map
cases_hold = refl
