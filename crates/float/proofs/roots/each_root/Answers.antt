-- `float::each_root` meets its contract: the guesses that are returned are the roots, and else each root is worked out on its own.
-- Rests on the contracts of `is_normal`, `is_root` and `root`.
use Rattle.std.proofs.Common.{rules, ◌≡◌, ℕ, ◌+◌, ◌<◌, ◌≤◌, List, length, take, map, get_or, arith, ◌∙◌}
use Rattle.std.proofs.lemmas.List.{take_more, take_more_set, map_more, take_all}
use lib.Ieee.{Float, nan}
use Rattle.laws.specs.Truth.{yes, both_true}
use Rattle.float.specs.Order.{sqrt}
use Rattle.float.proofs.roots.each_root.Goals as goal

-- one more float, whose root stands at its place
next :
    (xs ys : List Float) (i : ℕ) → i < length xs → i < length ys → take i ys ≡ map sqrt (take i xs) → get_or ys i nan ≡ sqrt (get_or xs i nan)
    → take (i + 1) ys ≡ map sqrt (take (i + 1) xs)
next xs ys i h k e r = rw (take_more ys i nan k, map_more sqrt xs i nan h, e, r)

all : (xs ys : List Float) (n i : ℕ) → length xs ≡ n → length ys ≡ n → n ≤ i → take i ys ≡ map sqrt (take i xs) → ys ≡ map sqrt xs
all xs ys n i h k l e = rw (take_all i ys (omega arith), take_all i xs (omega arith)) at e

pub loop-i-then-normal-2-preserved : goal.loop-i-then-normal-2-preserved
loop-i-then-normal-2-preserved g c =
    let l = c.loop-i-then-normal-2 in
    let n : length c.args.xs ≡ g.row.N = search rules in (
      l.invariant.0,
      λ s.
          let t = both_true l.sure c.is_root-sure.result s in
          next _ _ l.i (omega arith) (omega arith) (l.invariant.1 t.0) (c.is_root-sure.ensures (yes t.1)),
    )

pub returns-then-sure : goal.returns-then-sure
returns-then-sure g c =
    let l = c.loop-i-then-normal-2 in
    all _ _ g.row.N l.i (search rules) l.invariant.0 c.loop-i-then-normal-2-test.false (l.invariant.1 c.if-sure.true)

pub loop-i-2-preserved : goal.loop-i-2-preserved
loop-i-2-preserved g c =
    let l = c.loop-i-2 in
    let n : length c.args.xs ≡ g.row.N = search rules in
    (search rules, take_more_set _ l.i _ (omega arith) ∙ rw (map_more sqrt c.args.xs l.i nan (omega arith), l.invariant.1, c.root.ensures))

pub returns : goal.returns
returns g c =
    let l = c.loop-i-2 in
    all _ _ g.row.N l.i (search rules) l.invariant.0 c.loop-i-2-test.false l.invariant.1
