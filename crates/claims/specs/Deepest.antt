-- A deepest point lies within 5,120 across and 1,024 along, and its clearance is above 0 and 1,031 at most.
-- Rests on the search holding of every cell its own clearance, and on the bound of clearances.
use Rattle.std.specs.Prelude.{◌≡◌, T, Float}
use Rattle.std.specs.Float.Ieee.{binary64, fits}
use Rattle.float.specs.Ops.{◌<ᶠ◌, 0ᶠ}
use Rattle.rounding.specs.Bounds.{Sized}
use Rattle.regions.specs.Ring.{Piece}
use Rattle.regions.specs.Clearance.{signed_clearance}
use Rattle.deepest.specs.declared.search.Deepest.{Deepest}
use Rattle.deepest.specs.declared.search.Deepest.TheVariants.{Found, Nothing, Full}
use Rattle.claims.specs.Within.{Placed}

-- d is the clearance of (x, y)
pub record Honest (piece : Piece) (x y d : Float) : Type 0 where
  pub is : d ≡ signed_clearance x y piece
  pub fit_x : T (fits binary64 x)
  pub fit_y : T (fits binary64 y)

-- what holds of what is found
abbrev pub OfFound : (Float → Float → Float → Type 0) → Deepest → Type 0
OfFound P Nothing = Unit {0}
OfFound P Full = Unit {0}
OfFound P (Found x y d) = P x y d

-- ---- of a job's pieces
pub record Deep (x y d : Float) : Type 0 where
  pub placed : Placed x y
  pub sized : Sized d 1031
  pub above : T (0ᶠ <ᶠ d)
