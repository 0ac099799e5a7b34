-- glyphs.rs, `ring_bounds`.
use Rattle.std.specs.Prelude.{◌≡◌, ℕ, zero, suc, cond, ◌&&◌, nat_lt, refl, Option, Some, None, Float}
use Rattle.std.specs.Float.Ieee
use Rattle.std.specs.Float.Ieee.{neg}
use Rattle.float.specs.Ops.{◌/ᶠ◌, ◌>ᶠ◌, 0ᶠ, 1ᶠ, ∞}
use Rattle.float.specs.Order.{min, max}
use Rattle.glyphs.specs.Points.{Ring, vertices, x_at, y_at}
pub use Rattle.glyphs.specs.declared.bounds.Extents.{Extents}

-- f64::NEG_INFINITY
abbrev pub -∞ : Float
-∞ = neg ∞

-- `min` or `max` of a start and the coordinates of the first i vertices
unfoldable pub extent : (Float → Float → Float) → (Ring → ℕ → Float) → Float → Ring → ℕ → Float
extent f at start ring zero = start
extent f at start ring (suc i) = f (extent f at start ring i) (at ring i)

unfoldable pub extents_of : Ring → Extents
extents_of ring =
    let n = vertices ring in
    record {
      min_x = extent min x_at ∞ ring n;
      max_x = extent max x_at -∞ ring n;
      min_y = extent min y_at ∞ ring n;
      max_y = extent max y_at -∞ ring n;
    }

-- (max_x > min_x && max_y > min_y).then_some(..)
unfoldable pub box_of : Extents → Option Extents
box_of e = cond (e.max_x >ᶠ e.min_x && e.max_y >ᶠ e.min_y) (Some e) None

unfoldable pub ring_bounds : Ring → Option Extents
ring_bounds ring = cond (nat_lt (vertices ring) 3) None (box_of (extents_of ring))

-- the code's 1.0 / 0.0 and -1.0 / 0.0
pub infinite : 1ᶠ /ᶠ 0ᶠ ≡ ∞
unfolding Ieee.of_bits Ieee.of_fields Ieee.odd Ieee.div
infinite = refl

pub minus_infinite : neg 1ᶠ /ᶠ 0ᶠ ≡ -∞
unfolding Ieee.of_bits Ieee.of_fields Ieee.odd Ieee.div Ieee.neg
minus_infinite = refl
