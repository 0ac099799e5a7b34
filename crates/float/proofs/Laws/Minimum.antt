-- The least of roots is the root of the least, as data and not by value alone: of two by the test that a program makes, by
-- `min`, and of any number one after another.
-- The values are those of `Laws/Square.antt`: a NaN, -0 and the infinity are among them. Rests on `Laws/Monotone.antt` and `Laws/Same.antt`.
use Rattle.std.specs.Prelude.{◌≡◌, List, [], ◌∷◌, map, refl, Float}
use Rattle.std.proofs.Common.{ap, ◌∙◌}
use mathlib.Core.List.{foldl}
use Rattle.float.specs.Order.{sqrt, min}
use Rattle.float.proofs.Laws.Order.{min_elim}
use Rattle.float.specs.Laws.Square.{Square}
use Rattle.float.specs.Laws.Minimum.{Squares, root_min}

pub square_min : (x y : Float) → Square x → Square y → Square (min x y)
square_min x y s t = min_elim x y Square (λ n. t) (λ l. t) (λ n l. s)

pub root_least : (x : Float) (xs : List Float) → Square x → Squares xs → foldl min (sqrt x) (map sqrt xs) ≡ sqrt (foldl min x xs)
root_least x [] s t = refl
root_least x (y ∷ ys) s t = ap (λ (z : Float). foldl min z (map sqrt ys)) (root_min x y s t.0) ∙ root_least (min x y) ys (square_min x y s t.0) t.1
