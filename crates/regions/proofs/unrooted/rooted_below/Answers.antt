-- `rooted_below` meets its contract: from the upper square on and below the lower one no root is taken.
-- Rests on the laws of the margin's squares.
use mathlib.Core.Path.{sym, subst}
use lib.Dec.{T}
use lib.Ieee.{Float, lt, le}
use lib.Ieee.Fits.{and_l, and_r}
use Rattle.laws.specs.Truth.{yes}
use Rattle.float.specs.Ops.{◌≤ᶠ◌, ◌<ᶠ◌, 0ᶠ}
use Rattle.regions.specs.Unrooted.{high_not_below, low_below}
use Rattle.regions.proofs.unrooted.rooted_below.Goals as goal

pub returns-then-u-margin : goal.returns-then-u-margin
returns-then-u-margin c =
    let m = c.args.margin in
    let u = c.args.u in
    sym (high_not_below m.least u (subst (λ (x : Float). T (le x u)) (m.high_is) (yes c.if-u-margin.true)))

pub returns-then-u-margin-2 : goal.returns-then-u-margin-2
returns-then-u-margin-2 c =
    let m = c.args.margin in
    let u = c.args.u in
    let t = yes c.if-u-margin-2.true in
    sym (low_below m.least u (and_l (0ᶠ ≤ᶠ u) (u <ᶠ m.low) t) (subst (λ (x : Float). T (lt u x)) (m.low_is) (and_r (0ᶠ ≤ᶠ u) (u <ᶠ m.low) t)))

pub returns : goal.returns
returns c = rw c.rooted.ensures
