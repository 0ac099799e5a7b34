-- `gather` meets its contract. The invariant: the list's first push as those before it did and then the first k marks.
-- Rests on the law of a mark gathered, and on a fold's next element.
use mathlib.Core.Path.{◌≡◌, sym, ap, ◌∙◌}
use mathlib.Core.Bool.{Bool, not}
use mathlib.Core.List.{List, foldl}
use Prim.Native.Nat.{◌≤◌, ◌<◌, ◌+◌, ◌/◌}
use native.Mathlib.Omega.{arith}
use lib.ListN.{length, get_or, take, set}
use lib.Seq.{take_all}
use mir.Val.{bool_byte}
use borrow.Author.Rules.{rules}
use Rattle.laws.specs.Blocks.{fold_next}
use Rattle.laws.specs.Truth.{flag_le}
use Rattle.glyphs.specs.declared.rect.Point.{Point}
use Rattle.glyphs.specs.Spots.{spots_of, spots_at_lem, spots_put, length_spots}
use Rattle.relax.specs.declared.push.Force.{Force}
use Rattle.relax.specs.Field.{push_of}
use Rattle.relax.specs.Others.{gathered}
use Rattle.relax.proofs.push.gather.Goals as goal

pub loop-k-preserved : goal.loop-k-preserved
loop-k-preserved c =
    let l = c.loop-k in
    let a = c.args in
    let put = c.put_spot in
    let q = c.spot-q.result in
    let s = spots_of a.spots.now in
    let g : Force → Point → Force = push_of a.influence a.p in
    let room : l.count < length l.near / 2 = omega arith in
    let many : l.count < length (spots_of l.near) = simp length_spots room in
    let more : l.k < length s = simp length_spots (omega arith) in
    let at : get_or s l.k q ≡ q = spots_at_lem a.spots.now l.k q (omega arith) ∙ sym c.spot-q.ensures in
    let many_now = l.count + bool_byte (not c.apart-far.result) in
    record {
      few = omega (arith, flag_le (not c.apart-far.result));
      room = search rules;
      pushes =
          λ (f : Force).
          let start = foldl g f (take a.m (spots_of a.near.now)) in
          ap (λ (t : List Point). foldl g f (take many_now t)) (ap spots_of put.ensures ∙ spots_put l.near l.count q room)
          ∙ ap (λ (b : Bool). foldl g f (take (l.count + bool_byte (not b)) (set (spots_of l.near) l.count q))) c.apart-far.ensures
          ∙ gathered a.influence a.p (spots_of l.near) l.count q f many
          ∙ ap (λ (x : Force). g x q) (l.invariant.pushes f)
          ∙ sym (fold_next g start s l.k q more ∙ ap (g (foldl g start (take l.k s))) at);
    }

pub returns : goal.returns
returns c =
    let l = c.loop-k in
    let a = c.args in
    let s = spots_of a.spots.now in
    let all : length s ≤ l.k = simp length_spots (omega arith) in
    let g : Force → Point → Force = push_of a.influence a.p in
    record {
      few = omega arith;
      room = l.invariant.room;
      pushes = λ (f : Force). l.invariant.pushes f ∙ ap (foldl g (foldl g f (take a.m (spots_of a.near.now)))) (take_all l.k s all);
    }
