-- The margin of a clearance. Definitions for the code.
-- Rests on the laws of its squares.
use Rattle.std.specs.Prelude.{◌≡◌, refl, Float}
use Rattle.std.proofs.Common.{ap, sym, ◌∙◌}
use Rattle.std.proofs.Math.Path.{Cosingl, contract'}
use Rattle.regions.specs.declared.margin.Margin.{Margin}
use Rattle.regions.specs.Margin.{low_square, high_square}

unfoldable pub margin_of : Float → Margin
margin_of c = record { least = c; low = low_square c; high = high_square c; low_is = refl; high_is = refl }

pub least_of_margin : (m : Margin) (c : Float) → m ≡ margin_of c → m.least ≡ c
unfolding margin_of
least_of_margin m c e = ap (λ (x : Margin). x.least) e

with_squares : (c : Float) → Cosingl (low_square c) → Cosingl (high_square c) → Margin
with_squares c low high = record { least = c; low = low.0; high = high.0; low_is = low.1; high_is = high.1 }

-- there is but one margin of a clearance
pub own_margin : (m : Margin) → m ≡ margin_of m.least
unfolding margin_of with_squares
own_margin m =
    ap (λ (low : Cosingl (low_square m.least)). with_squares m.least low (m.high, m.high_is)) (sym (contract' m.low_is))
    ∙ ap (λ (high : Cosingl (high_square m.least)). with_squares m.least (low_square m.least, refl) high) (sym (contract' m.high_is))
