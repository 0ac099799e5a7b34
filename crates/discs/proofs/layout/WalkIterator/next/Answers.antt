-- The next zone: the first of the rows left, at the offsets kept; the others are left.
-- Rests on the rows' being taken apart.
use Rattle.discs.specs.Floor.{Within}
use Rattle.discs.specs.ZoneWalk.{each_first}
use Rattle.discs.proofs.layout.WalkIterator.next.Goals as goal

pub past-next-requires : goal.past-next-requires
past-next-requires c =
    let self = c.args.self.now in
    let l = self.layout in
    (each_first l.rings.now l.sizes.now (Within l.rings.now l.sizes.now l.points.now) c.in_ok-row.ensures.cases.0 self.within).0

pub invariant_of-self : goal.invariant_of-self
invariant_of-self c =
    let self = c.args.self.now in
    let l = self.layout in
    record {
      within = rw c.past-next.ensures
          (each_first l.rings.now l.sizes.now (Within l.rings.now l.sizes.now l.points.now) c.in_ok-row.ensures.cases.0 self.within).1;
    }
