-- THE RADIUS OF A JOB: where spots are placed it is from 2 ^ -21 to k, for a stated radius up to 1,024 in 1/1024 and a ceiling from 2 ^ -10 to k.
-- Rests on the law of the radius under a ceiling.
use Rattle.std.specs.Prelude.{Float, None, Some, Option}
use Prim.Native.Nat.{ℕ, ◌*◌, ◌^◌, ◌≤◌}
use native.Mathlib.Omega.{arith}
use Rattle.rounding.specs.Signed.{Exact, nat, ◌≼◌, ◌≈◌}
use Rattle.rounding.specs.Value.{U, mag, val}
use Rattle.rounding.specs.Bounds.{Sized}
use Rattle.rounding.specs.Signs.{Nonneg}
use Rattle.format.specs.Numbers.{share}
use Rattle.format.specs.Exact.{share_value}
use Rattle.discs.specs.declared.radius.Size.{Size}
use Rattle.discs.specs.declared.options.Radius.{Radius}
use Rattle.discs.specs.declared.options.Radius.TheVariants.{Auto, Stated}
use Rattle.claims.specs.Radii.{Usable}

pub share_nonneg : (n : ℕ) → n ≤ 1048576 → Nonneg (share n)
share_nonneg n h = above (val (share n)) (n * 2 ^ 1064) (share_value n (omega arith))
  where
    above : (v : Exact) (m : ℕ) → v ≈ nat m → nat 0 ≼ v
    above v m e = omega arith

-- ---- the ceiling of an automatic one
pub record High (k : ℕ) (r-hi : Float) : Type 0 where
  pub sized : Sized r-hi k
  pub nonneg : Nonneg r-hi
  pub least : U ≤ 1024 * mag r-hi

abbrev pub TopKnown : ℕ → Radius → Option Float → Type 0
TopKnown k (Stated r) top = Unit {0}
TopKnown k Auto None = Unit {0}
TopKnown k Auto (Some r-hi) = High k r-hi

-- ---- what the spots are placed with
abbrev pub SizingUsable : ℕ → Option Size → Type 0
SizingUsable k None = Unit {0}
SizingUsable k (Some size) = Usable size.radius k
