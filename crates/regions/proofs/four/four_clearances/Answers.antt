-- `four_clearances` meets its contract: the signed clearance of each place.
-- Rests on the law that the root of the least square is the least distance.
use Rattle.std.proofs.Common.{◌≡◌, ℕ, List, get_or, ap}
use mathlib.Core.Bool.{Bool, cond}
use lib.Ieee.{Float, nan, neg}
use Rattle.float.specs.Order.{sqrt}
use Rattle.regions.specs.Ring.{Piece}
use Rattle.regions.specs.Clearance.{within, signed_clearance}
use Rattle.regions.specs.Squares.{least_of_rings}
use Rattle.regions.specs.Least.{least_root}
use Rattle.regions.specs.Four.{first, second, third, fourth, at}
use Rattle.regions.proofs.four.four_clearances.Goals as goal

root : (k : ℕ) {roots squares : List Float} → roots ≡ squares → get_or roots k nan ≡ get_or squares k nan
root k e = ap (λ (l : List Float). get_or l k nan) e

whole :
    (x y square root : Float) (inside : Bool) (piece : Piece) {r : Float} → square ≡ least_of_rings x y piece → root ≡ sqrt square
    → inside ≡ within x y piece → r ≡ cond inside root (neg root) → r ≡ signed_clearance x y piece
unfolding signed_clearance
whole x y square root inside piece e f g h = rw (h, f, e, g, least_root)

pub returns : goal.returns
unfolding at
returns c first =
    whole _ _ _ _ _ _ (rw c.rings.ensures at c.rings_squares-squares.ensures first) (root 0 c.each_root.ensures)
    (c.in_piece-inside.ensures first) c.negate_unless.ensures
returns c second =
    whole _ _ _ _ _ _ (rw c.rings.ensures at c.rings_squares-squares.ensures second) (root 1 c.each_root.ensures)
    (c.in_piece-inside.ensures second) c.negate_unless-2.ensures
returns c third =
    whole _ _ _ _ _ _ (rw c.rings.ensures at c.rings_squares-squares.ensures third) (root 2 c.each_root.ensures)
    (c.in_piece-inside.ensures third) c.negate_unless-3.ensures
returns c fourth =
    whole _ _ _ _ _ _ (rw c.rings.ensures at c.rings_squares-squares.ensures fourth) (root 3 c.each_root.ensures)
    (c.in_piece-inside.ensures fourth) c.negate_unless-4.ensures
