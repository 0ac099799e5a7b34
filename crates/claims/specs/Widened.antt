-- The spacing that a lattice is widened to is the least spacing at least, and within the limits of the lattice laws; so its cells are the least spacing apart.
-- Rests on a bisection's middle lying between its ends, and on the box's diagonal being 2,897 at most.
use Rattle.std.specs.Prelude.{Float}
use Prim.Native.Nat.{◌*◌, ◌≤◌}
use Rattle.float.specs.Ops.{◌+ᶠ◌, ◌-ᶠ◌, ◌*ᶠ◌}
use Rattle.float.specs.Order.{sqrt}
use Rattle.rounding.specs.Value.{U, mag}
use Rattle.rounding.specs.Distance.{Length, spaced_less}
use Rattle.glyphs.specs.declared.rect.Point.{Point}
use Rattle.claims.specs.Kept.{Apart}

-- ---- the box's diagonal
abbrev pub diagonal : Float → Float → Float → Float → Float
diagonal min-x max-x min-y max-y = sqrt ((max-x -ᶠ min-x) *ᶠ (max-x -ᶠ min-x) +ᶠ (max-y -ᶠ min-y) *ᶠ (max-y -ᶠ min-y))

-- ---- the greater of the diagonal and the least spacing
pub record Widened (s w : Float) : Type 0 where
  pub length : Length w
  pub few : mag w ≤ 36864 * U
  pub least : mag s ≤ mag w

-- places a wider spacing apart are the least spacing apart
pub apart_less : (s w : Float) (p q : Point) → mag s ≤ mag w → Apart w p q → Apart s p q
apart_less s w p q l h = spaced_less w p.x p.y q.x q.y s l h
