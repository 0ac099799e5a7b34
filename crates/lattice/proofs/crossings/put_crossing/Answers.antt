-- `put_crossing` meets its contract: the crossing written behind the others, or nothing.
-- Rests on the laws of a crossing that is put, or is none.
use Rattle.std.proofs.Common.{arith, length-set}
use Rattle.lattice.specs.Crossings.{put_none, put_one}
use Rattle.lattice.proofs.crossings.put_crossing.Goals as goal

pub returns-then-above-next_above : goal.returns-then-above-next_above
returns-then-above-next_above c =
    let a = c.args in
    (c.requires, put_none a.y a.vi.x a.vi.y a.vj.x a.vj.y a.crossings.now a.c c.if-above-next_above.true)

pub returns-then-c-crossings : goal.returns-then-c-crossings
returns-then-c-crossings c =
    let a = c.args in (
      simp length-set (omega arith),
      put_one a.y a.vi.x a.vi.y a.vj.x a.vj.y a.crossings.now a.c _ c.if-above-next_above.false (omega arith) c.crossing.ensures,
    )
