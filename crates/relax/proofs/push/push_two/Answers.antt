-- `push_two` meets its contract, where both neighbours push and where not both do.
-- Rests on the contracts of what it calls.
use Rattle.std.proofs.Common.{◌≡◌, ℕ, List, get_or, sym, ap, ◌∙◌}
use mathlib.Core.Bool.{true}
use lib.Ieee.{Float, nan}
use Rattle.laws.specs.Truth.{both_true}
use Rattle.float.specs.Order.{sqrt}
use Rattle.relax.specs.declared.push.Force.{Force}
use Rattle.relax.specs.Field.{push_of}
use Rattle.relax.specs.Others.{reaches}
use Rattle.relax.proofs.push.push_two.Goals as goal

-- a test that is passed, of what was measured
reached :
    (influence square measured : Float) {answer : _} → measured ≡ square → answer ≡ reaches influence measured → answer ≡ true
    → reaches influence square ≡ true
reached influence square measured e a t = sym (a ∙ ap (reaches influence) e) ∙ t

root : (k : ℕ) {roots squares : List Float} → roots ≡ squares → get_or roots k nan ≡ get_or squares k nan
root k e = ap (λ (l : List Float). get_or l k nan) e

pub pushed-first-requires : goal.pushed-first-requires
pushed-first-requires c =
    let t = both_true c.reaches.result c.reaches-2.result c.if-reaches.true in
    (reached c.args.influence _ _ c.squared_distance-d2.ensures c.reaches.ensures t.0, root 0 c.each_root.ensures ∙ ap sqrt c.squared_distance-d2.ensures)

pub pushed-requires : goal.pushed-requires
pushed-requires c =
    let t = both_true c.reaches.result c.reaches-2.result c.if-reaches.true in
    (reached c.args.influence _ _ c.squared_distance-e2.ensures c.reaches-2.ensures t.1, root 1 c.each_root.ensures ∙ ap sqrt c.squared_distance-e2.ensures)

pub returns-then-reaches : goal.returns-then-reaches
returns-then-reaches c =
    let a = c.args in
    c.pushed.ensures ∙ ap (λ (f : Force). push_of a.influence a.p f a.r) c.pushed-first.ensures

pub returns : goal.returns
returns c =
    let a = c.args in
    c.push-2.ensures ∙ ap (λ (f : Force). push_of a.influence a.p f a.r) c.push.ensures
