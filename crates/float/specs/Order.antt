-- `f64`'s abs, min, max, clamp, sqrt and hypot, as docs/DIFFERENCES.md lists them. Definitions only.
use Rattle.std.specs.Prelude.{false, cond, Float}
use Rattle.std.specs.Float.{nan, inf, fin, binary64}
use Rattle.std.specs.Float.Ieee.{is_nan}
use Rattle.float.specs.Ops.{◌+ᶠ◌, ◌*ᶠ◌, ◌<ᶠ◌}
use Rattle.float.specs.Root.{root_of}

-- the sign cleared
unfoldable pub abs : Float → Float
abs nan = nan
abs (inf s) = inf false
abs (fin s m e) = fin false m e

-- the other where one is NaN, else the second only if strictly smaller
unfoldable pub min : Float → Float → Float
unfolding is_nan
min a b = cond (is_nan a) b (cond (b <ᶠ a) b a)

-- the other where one is NaN, else the second only if strictly larger
unfoldable pub max : Float → Float → Float
unfolding is_nan
max a b = cond (is_nan a) b (cond (a <ᶠ b) b a)

-- changed only where strictly outside
unfoldable pub clamp : Float → Float → Float → Float
clamp x low high = cond (x <ᶠ low) low (cond (high <ᶠ x) high x)

-- IEEE 754's square root
abbrev pub sqrt : Float → Float
sqrt x = root_of binary64 x

-- the root of a × a + b × b
unfoldable pub hypot : Float → Float → Float
hypot a b = sqrt (a *ᶠ a +ᶠ b *ᶠ b)
