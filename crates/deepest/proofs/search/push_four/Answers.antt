-- `push_four` meets its contract: four cells, one after another, with the clearances of their places.
-- Rests on the contracts of what it calls.
use Rattle.std.proofs.Common.{◌≡◌, ◌+◌, ◌∙◌, arith}
use Rattle.regions.specs.Four.{first, second, third, fourth, at}
use Rattle.deepest.specs.Turns.{entered, quartered}
use Rattle.deepest.proofs.search.push_four.Goals as goal

pub returns : goal.returns
unfolding at
returns c =
    let w = c.args.waiting.now in
    let p = c.push.ensures in
    let q = c.push-2.ensures in
    let r = c.push-3.ensures in
    let s = c.push-4.ensures in
    let ds = c.four_clearances-ds.ensures in
    let len-2 : c.push-2.new.self.len ≡ w.len + 1 + 1 = omega (arith, p.len, q.len) in
    let len-3 : c.push-3.new.self.len ≡ w.len + 1 + 1 + 1 = omega (arith, len-2, r.len) in
    let entered-2 : c.push-2.new.self.entered ≡ w.entered + 2 = omega (arith, p.entered, q.entered) in
    let entered-3 : c.push-3.new.self.entered ≡ w.entered + 3 = omega (arith, entered-2, r.entered) in
    let halves-2 = q.halves ∙ p.halves in
    let halves-3 = r.halves ∙ halves-2 in
    record {
      quartered =
          quartered _ _ _ _ _ _ _ _ _ _ _ c.half-nh.ensures (entered _ _ _ _ _ _ _ _ _ _ (ds first) p.pushed)
          (rw (p.halves, p.len, p.entered) at (entered _ _ _ _ _ _ _ _ _ _ (ds second) q.pushed))
          (rw (halves-2, len-2, entered-2) at (entered _ _ _ _ _ _ _ _ _ _ (ds third) r.pushed))
          (rw (halves-3, len-3, entered-3) at (entered _ _ _ _ _ _ _ _ _ _ (ds fourth) s.pushed));
      halves = s.halves ∙ halves-3;
      len = omega (arith, len-3, s.len);
      entered = omega (arith, entered-3, s.entered);
      same = s.same ∙ r.same ∙ q.same ∙ p.same;
    }
