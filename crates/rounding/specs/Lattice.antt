-- LATTICE: two different cells of a hexagonal or a rectangular lattice, each coordinate rounded as the source rounds it, are
-- at least the spacing less 2 ^ -30 apart.
-- Rests on `Steps` (where a point lies) and `Row` (the row height). The anchor is 65,536 at most, i steps 131,072, the
-- spacing 2 ^ -20 to 65,536; so i may be 2 ^ 37, and a job's are 2 ^ 32 at most.
use Rattle.std.specs.Prelude.{Bool, ℕ, suc, ◌-◌, ◌%◌, ℤ, pos, negsuc, eqb}

-- j.rem_euclid(d)
unfoldable pub rem_euclid : ℤ → ℕ → ℕ
rem_euclid (pos n) d = n % d
rem_euclid (negsuc n) d = d - suc (n % d)

-- j.rem_euclid(2) == 1: the rows that are shifted
unfoldable pub odd : ℤ → Bool
unfolding rem_euclid
odd j = eqb (rem_euclid j 2) 1
