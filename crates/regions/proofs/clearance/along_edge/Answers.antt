-- `along_edge` meets its contract: held to 0 and then to 1 is clamped to both.
-- Rests on nothing but the definitions.
use mathlib.Core.Path.{◌≡◌, refl, ap, ◌∙◌}
use mathlib.Core.Bool.{Bool, true, false, cond}
use lib.Ieee
use lib.Ieee.{Float}
use Rattle.float.specs.Ops.{◌/ᶠ◌, ◌<ᶠ◌, 0ᶠ, 1ᶠ}
use Rattle.float.specs.Order.{clamp}
use Rattle.regions.specs.Clearance.{along}
use Rattle.regions.proofs.clearance.along_edge.Goals as goal
use Rattle.regions.proofs.clearance.along_edge.Goals.{then-t, else-t, then-from, else-from}

twice : (t : Float) → cond (1ᶠ <ᶠ cond (t <ᶠ 0ᶠ) 0ᶠ t) 1ᶠ (cond (t <ᶠ 0ᶠ) 0ᶠ t) ≡ clamp t 0ᶠ 1ᶠ
unfolding clamp Ieee.lt Ieee.of_bits Ieee.of_fields Ieee.odd
twice t = go (t <ᶠ 0ᶠ)
  where
    go : (b : Bool) → cond (1ᶠ <ᶠ cond b 0ᶠ t) 1ᶠ (cond b 0ᶠ t) ≡ cond b 0ᶠ (cond (1ᶠ <ᶠ t) 1ᶠ t)
    go true = refl
    go false = refl

pub returns-then-len2 : goal.returns-then-len2
unfolding along
returns-then-len2 c =
    let from : c.if-t.from ≡ cond (c.args.dot /ᶠ c.args.len2 <ᶠ 0ᶠ) 0ᶠ (c.args.dot /ᶠ c.args.len2) = elim c.if-t.branch [
      | then-t w ↦ rw w.if-t.true w.from-is
      | else-t w ↦ rw w.if-t.false w.from-is
    ] in
    let held : c.if-from.held ≡ cond (1ᶠ <ᶠ c.if-t.from) 1ᶠ c.if-t.from = elim c.if-from.branch [
      | then-from w ↦ rw w.if-from.true w.held-is
      | else-from w ↦ rw w.if-from.false w.held-is
    ] in
    rw c.if-len2.true
    (held ∙ ap (λ (x : Float). cond (1ᶠ <ᶠ x) 1ᶠ x) from ∙ twice (c.args.dot /ᶠ c.args.len2))

pub returns-else-len2 : goal.returns-else-len2
unfolding along
returns-else-len2 c = rw c.if-len2.false
