-- `find_beside` meets its contract. The invariant: the obstacles abreast of the row are those found and those of what is left.
-- Rests on the laws of a list filtered in turn, and on the law that the others keep the margin.
use Rattle.std.proofs.Common.{◌+◌, Bool, List, ◌++◌, take, drop, sym, ap, ◌∙◌, arith, length-set}
use lib.Ieee.{Float}
use Rattle.glyphs.specs.declared.rect.Rectangle.{Rectangle}
use Rattle.glyphs.specs.Rect.{filter}
use Rattle.lattice.specs.Near.{filter_kept, filter_left, filter_none, one_written}
use Rattle.lattice.specs.Beside.{abreast, abreast_clear}
use Rattle.lattice.proofs.beside.find_beside.Goals as goal
use Rattle.lattice.proofs.beside.find_beside.Goals.{then-abreast+else-m-room, else-abreast}

pub loop-rect-preserved : goal.loop-rect-preserved
loop-rect-preserved c =
    let l = c.loop-rect in
    let near = c.args.site.near.now in
    let f : Rectangle → Bool = abreast c.args.y c.args.site.margin.high in
    let rest = filter f (drop (l.rect-index + 1) near) in
    elim c.if-abreast.branch [
      | then-abreast+else-m-room w ↦
          rw (w.m-is, w.room-is) (
            simp length-set (omega (arith, w.if-m-room.false)),
            ap (λ (xs : List Rectangle). xs ++ rest) (one_written l.room l.m _ w.if-m-room.false)
                ∙ sym (filter_kept f near l.rect-index _ _ c.loop-rect-test.true (sym c.abreast.ensures ∙ w.if-abreast.true))
                ∙ l.invariant.1,
          )
      | else-abreast w ↦
          rw (w.m-is, w.room-is)
          (l.invariant.0, sym (filter_left f near l.rect-index _ _ c.loop-rect-test.true (sym c.abreast.ensures ∙ w.if-abreast.false)) ∙ l.invariant.1)
    ]

pub returns : goal.returns
returns c =
    let l = c.loop-rect in
    let a = c.args in
    let near = a.site.near.now in
    let f : Rectangle → Bool = abreast a.y a.site.margin.high in
    let held = sym (filter_none f near l.rect-index (take l.m l.room) c.loop-rect-test.false) ∙ l.invariant.1 in
    (l.invariant.0, λ (x : Float). rw (held, a.site.margin.high_is) (abreast_clear x a.y a.site.margin.least near))
