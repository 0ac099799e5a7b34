-- `on_one_side` meets its contract. The invariant: `above` is the count of the first k vertices.
-- Rests on the bounds of a flag and of a count.
use Prim.Native.Nat.{◌+◌}
use mathlib.Core.Path.{◌≡◌, refl}
use native.Mathlib.Omega.{arith}
use native.Mathlib.Numerals.{add-one}
use borrow.Author.Rules.{rules}
use Rattle.float.specs.Ops.{◌>ᶠ◌}
use Rattle.laws.specs.Truth.{flag_le}
use Rattle.glyphs.specs.Points.{y_at}
use Rattle.regions.specs.Sides.{above_count, at_most}
use Rattle.regions.proofs.inside.on_one_side.Goals as goal

pub loop-k-init : goal.loop-k-init
unfolding above_count
loop-k-init c = (search rules, refl)

pub overflow_add-above-in-loop-k : goal.overflow_add-above-in-loop-k
overflow_add-above-in-loop-k c =
    let a = c.args in
    omega (arith, at_most a.y a.v.now a.i c.loop-k.k, flag_le (y_at a.v.now (a.i + c.loop-k.k) >ᶠ a.y))

pub loop-k-preserved : goal.loop-k-preserved
unfolding above_count
loop-k-preserved c = (search rules, rw add-one (cc))

pub returns : goal.returns
returns c =
    let e : c.loop-k.k ≡ 17 = omega arith in
    rw (c.loop-k.invariant.1, e)
