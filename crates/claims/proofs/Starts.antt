-- The deepest point of a job's piece, and where an anchor escapes to, lie within the reach of the rounding laws.
-- Rests on both being inside the piece: an exit is taken only where its clearance is the inset.
use Rattle.std.specs.Prelude.{ℕ}
use mathlib.Core.List.{[], ◌∷◌}
use Rattle.std.proofs.Common.{lit≤}
use Rattle.std.specs.Float.Ieee.{Float}
use Rattle.rounding.specs.Bounds.{wider}
use Rattle.regions.specs.Ring.{Piece}
use Rattle.deepest.specs.declared.search.Deepest.{Deepest}
use Rattle.deepest.specs.declared.search.Deepest.TheVariants.{Found, Nothing, Full}
use Rattle.deepest.specs.Deepest.{poi_with_holes}
use Rattle.format.specs.Known.{PieceKnown}
use Rattle.claims.specs.Deepest.{OfFound, Deep}
use Rattle.claims.proofs.Deepest.{poi_deep}
use Rattle.claims.specs.Starts.{SitedAt}

pub deepest_sited : (room : ℕ) (precision : Float) (piece : Piece) → PieceKnown piece → SitedAt (poi_with_holes room precision (piece ∷ []))
deepest_sited room precision piece k = go (poi_with_holes room precision (piece ∷ [])) (poi_deep room precision (piece ∷ []) (k, tt))
  where
    go : (d : Deepest) → OfFound Deep d → SitedAt d
    go Nothing h = tt
    go Full h = tt
    go (Found x y d) h = record { across = wider (lit≤ tt) h.placed.across; along = wider (lit≤ tt) h.placed.along }
