-- `pass` meets its contract. The invariant: the spots placed are at the slice's front, and the rest of the pass from them on is the whole.
-- Rests on the laws of a pass's turns and of spots placed one after another.
use mathlib.Core.Path.{◌≡◌, refl, sym, ap, ◌∙◌}
use mathlib.Core.Bool.{cond}
use mathlib.Core.List.{List}
use Prim.Native.Nat.{◌+◌, ◌≤◌, ◌<◌}
use native.Mathlib.Nat.{sub-zero}
use native.Mathlib.Omega.{arith}
use lib.Ieee.{Float}
use lib.ListN.{length, take}
use Rattle.laws.specs.Lists.{written}
use Rattle.glyphs.specs.declared.rect.Point.{Point}
use Rattle.glyphs.specs.Spots.{flat, spots_of, put_spot}
use Rattle.scatter.specs.LowDiscrepancy.{budget}
use Rattle.scatter.specs.Passes.{admits_at, pass_full, pass_step, pass_end}
use Rattle.scatter.specs.Placed.{placed_if, placed_front, placed_same, length_first, length_if, put_if, one_more, length_placed}
use Rattle.scatter.proofs.low.Filter.pass.Goals.{then-admits, else-admits}
use Rattle.scatter.proofs.low.Filter.pass.Goals as goal

pub loop-index-init : goal.loop-index-init
loop-index-init c =
    let a = c.args in
    let l = a.spots.now in (
      c.requires.0,
      c.budget-index-end.ensures,
      refl,
      take a.start (spots_of l),
      (sym (length_first a.start l (omega (arith, c.requires.0, c.requires.1))), placed_same a.start l (omega (arith, c.requires.0, c.requires.1))),
      rw sub-zero,
    )

pub returns-then-placed-self : goal.returns-then-placed-self
returns-then-placed-self c =
    let l = c.loop-index in
    let s = c.args.self.now in
    let e = sym (pass_full s.site s.anchor c.args.honor _ l.index l.invariant.3 (sym l.invariant.4.0 ∙ c.if-placed-self.true)) ∙ l.invariant.5 in
    rw e at l.invariant.4

pub loop-index-preserved : goal.loop-index-preserved
loop-index-preserved c =
    let l = c.loop-index in
    let a = c.args in
    let s = a.self.now in
    let spots₀ = a.spots.now in
    let ps = l.invariant.3 in
    let p = c.candidate-p.result in
    let b = c.admits.result in
    let front : spots_of c.spots_before.result.now ≡ ps =
    c.spots_before.ensures ∙ ap (λ (t : List Float). take l.placed (spots_of t)) l.invariant.4.1 ∙ placed_front ps spots₀ l.placed (sym l.invariant.4.0) in
    let eb : b ≡ admits_at s.site s.anchor a.honor ps p = c.admits.ensures ∙ ap (λ (qs : List Point). admits_at s.site s.anchor a.honor qs p) front in
    let more : l.placed < s.site.n = omega (arith, l.invariant.0, c.if-placed-self.false) in
    let put : (c.if-admits.placed ≡ cond b (l.placed + 1) l.placed) × (c.if-admits.spots ≡ cond b (put_spot l.spots l.placed p) l.spots) =
    elim c.if-admits.branch [
      | then-admits w ↦ rw w.if-admits.true (w.placed-is, w.spots-is ∙ w.put_spot.ensures)
      | else-admits w ↦ rw w.if-admits.false (w.placed-is, w.spots-is)
    ] in
    let count : c.if-admits.placed ≡ length (placed_if b p ps) = put.0 ∙ sym (length_if b p ps l.placed (sym l.invariant.4.0)) in
    let most : c.if-admits.placed ≤ s.site.n = rw put.0 (one_more b l.placed s.site.n more) in
    let then : cond b (put_spot l.spots l.placed p) l.spots ≡ written (flat (placed_if b p ps)) spots₀ =
    rw l.invariant.4.1 (put_if b ps spots₀ l.placed p (sym l.invariant.4.0) (omega (arith, more, c.requires.1))) in
    let left : length ps ≡ s.site.n → ⊥ = λ (e : length ps ≡ s.site.n). c.if-placed-self.false (l.invariant.4.0 ∙ e) in
    let turn : l.index < budget s.site.n = omega (arith, c.loop-index-test.true, l.invariant.1) in
    let is = put.1 ∙ then in (
      most,
      l.invariant.1,
      ap length is ∙ length_placed (placed_if b p ps) spots₀ c.if-admits.placed (sym count) (omega (arith, most, c.requires.1)),
      placed_if b p ps,
      (count, is),
      sym (pass_step s.site s.anchor a.honor (budget s.site.n) l.index ps p b turn left c.candidate-p.ensures eb)
          ∙ l.invariant.5,
    )

pub returns : goal.returns
returns c =
    let l = c.loop-index in
    let s = c.args.self.now in
    let last : budget s.site.n ≤ l.index = omega (arith, c.loop-index-test.false, l.invariant.1) in
    let e = sym (pass_end s.site s.anchor c.args.honor (budget s.site.n) l.index l.invariant.3 last) ∙ l.invariant.5 in
    rw e at l.invariant.4
