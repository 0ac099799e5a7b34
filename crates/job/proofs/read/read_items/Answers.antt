-- `read_items` reads the job.
-- Rests on what its calls ensure.
use mathlib.Core.Path.{◌∙◌}
use native.Mathlib.Omega.{arith}
use borrow.Author.Rules.{rules}
use Rattle.format.specs.RefusalLaws.{fails, passes, handed}
use Rattle.job.specs.Head.{obstacles_fault, obstacles_end, obstacles}
use Rattle.job.specs.Job.{items_fault}
use Rattle.job.proofs.read.read_items.Goals as goal

pub returns-in_err-options-clause-fault : goal.returns-in_err-options-clause-fault
unfolding items_fault
returns-in_err-options-clause-fault g c =
    fails _ _ _ _ c.in_err-options.ensures.fault c.from_residual.ensures.1

pub returns-in_err-read_obstacles-clause-fault : goal.returns-in_err-read_obstacles-clause-fault
unfolding items_fault obstacles_fault
returns-in_err-read_obstacles-clause-fault g c =
    let o = c.in_ok-options.ensures in
    passes _ _ o.fault (fails _ _ _ _ (c.in_err-read_obstacles.ensures.fault ∙ rw (o.bytes, o.next)) c.from_residual-in_err-read_obstacles.ensures.1)

pub returns-in_err-read_tail-clause-fault : goal.returns-in_err-read_tail-clause-fault
unfolding items_fault obstacles_fault
returns-in_err-read_tail-clause-fault g c =
    let o = c.in_ok-options.ensures in
    let b = c.in_ok-read_obstacles.ensures in
    passes _ _ o.fault
    (passes _ _ (b.fault ∙ rw (o.bytes, o.next))
    (handed _ _ (c.in_err-read_tail.ensures.fault ∙ rw (b.bytes, o.bytes)) c.from_residual-in_err-read_tail.ensures.1))

pub returns-clause-fault : goal.returns-clause-fault
unfolding items_fault obstacles_fault
returns-clause-fault g c =
    let o = c.in_ok-options.ensures in
    let b = c.in_ok-read_obstacles.ensures in
    passes _ _ o.fault (passes _ _ (b.fault ∙ rw (o.bytes, o.next)) (c.in_ok-read_tail.ensures.fault ∙ rw (b.bytes, o.bytes)))

pub read_tail-requires : goal.read_tail-requires
unfolding obstacles_end
read_tail-requires g c =
    let o = c.in_ok-options.ensures in
    let b = c.in_ok-read_obstacles.ensures in
    let r = c.requires in (
      search rules,
      (
        search rules,
        (
          b.next ∙ rw (b.bytes, o.bytes, o.next),
          (rw (b.bytes, o.bytes) (omega (arith, b.next, r.start, r.point_room)), (r.ring_room, (r.piece_room, r.row_room))),
        ),
      ),
    )

pub returns-clause-read : goal.returns-clause-read
unfolding obstacles
returns-clause-read g c =
    let o = c.in_ok-options.ensures in
    let b = c.in_ok-read_obstacles.ensures in
    record { choices = o.options; pillar = b.read ∙ rw (o.bytes, o.next); put = rw (b.bytes, o.bytes) at c.in_ok-read_tail.ensures.read }
