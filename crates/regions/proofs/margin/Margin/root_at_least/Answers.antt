-- `root_at_least` meets its contract: from the upper square on and below the lower one no root is taken.
-- Rests on the laws that the root of such a square is at least the clearance, and is not.
use mathlib.Core.Path.{sym, subst}
use lib.Dec.{T}
use lib.Ieee.{Float, lt, le}
use lib.Ieee.Bits.{is_true}
use Rattle.laws.specs.Truth.{yes}
use Rattle.regions.specs.Margin.{high_square_lem, low_square_below}
use Rattle.regions.proofs.margin.Margin.root_at_least.Goals as goal

pub returns-then-square-self : goal.returns-then-square-self
returns-then-square-self c =
    let m = c.args.self in
    let u = c.args.square in
    sym (is_true _ (high_square_lem m.least u (subst (λ (x : Float). T (le x u)) (m.high_is) (yes c.if-square-self.true))))

pub returns-then-square-self-2 : goal.returns-then-square-self-2
returns-then-square-self-2 c =
    let m = c.args.self in
    let u = c.args.square in
    sym (low_square_below m.least u (subst (λ (x : Float). T (lt u x)) (m.low_is) (yes c.if-square-self-2.true)))

pub returns : goal.returns
returns c = rw c.root.ensures
