-- `wait` meets its contract: a full run is merged first, and the cell is kept in the run.
-- Rests on the law of one more that waits.
use Rattle.std.proofs.Common.{List, take, ap, ◌∙◌, arith}
use Rattle.laws.specs.Bounded.{insert_behind}
use Rattle.glyphs.specs.declared.rect.Point.{Point}
use Rattle.lattice.specs.Lattice.{by_anchor}
use Rattle.lattice.specs.Waiting.{one_more}
use Rattle.lattice.proofs.waiting.wait.Goals as goal

pub returns : goal.returns
returns c =
    let a = c.args in
    let flushed = c.flush_full-u.ensures in
    let more = one_more a.anchor a.nf c.flush_full-u.result c.flush_full-u.new.free a.run.now flushed.1 (omega arith) a.p flushed.0 c.keep-n.result
    c.keep-n.new.cells c.keep-n.ensures.0 c.keep-n.ensures.1 in (
      more.0,
      more.1 ∙ ap (λ (l : List Point). take a.nf (insert_behind (by_anchor a.anchor) a.p l)) flushed.2,
      record { grown = flushed.3.grown; as_long = flushed.3.as_long; free_is = flushed.3.free_is },
    )
