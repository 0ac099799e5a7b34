-- `keep` meets its contract: a place is looked for, room made and the cell put there.
-- Rests on the laws of what that writes.
use Rattle.std.proofs.Common.{◌≤◌, ◌∙◌, arith}
use Rattle.laws.specs.Bounded.{lead_le}
use Rattle.lattice.specs.Flat.{points, put_is, length_points, spots_front}
use Rattle.lattice.specs.Lattice.{by_anchor}
use Rattle.lattice.specs.Nearest.{kept_put, kept_full}
use Rattle.lattice.proofs.nearest.keep.Goals as goal

pub place-k-requires : goal.place-k-requires
place-k-requires c = rw (spots_front c.args.m c.args.cells.now) c.requires.2

pub make_room-requires : goal.make_room-requires
make_room-requires c =
    let a = c.args in
    let k = rw (spots_front a.m a.cells.now) at c.place-k.ensures in
    let among : c.place-k.result ≤ a.m =
    omega (arith, k, lead_le (by_anchor a.anchor) a.p (points a.m a.cells.now), length_points a.m a.cells.now (omega arith)) in
    let w = among in omega arith

pub returns-then-k-cap : goal.returns-then-k-cap
returns-then-k-cap c =
    let a = c.args in
    let k = rw (spots_front a.m a.cells.now) at c.place-k.ensures in (
      omega arith,
      cc (
        kept_put (by_anchor a.anchor) a.cells.now a.m a.cap c.place-k.result a.p c.requires.0 c.requires.1 k c.min-e.result c.min-e.ensures
            c.if-k-cap.true,
        c.put_spot.ensures ∙ put_is _ _ _,
      ),
    )

pub returns : goal.returns
returns c =
    let a = c.args in
    let k = rw (spots_front a.m a.cells.now) at c.place-k.ensures in
    let among : c.place-k.result ≤ a.m =
    omega (arith, k, lead_le (by_anchor a.anchor) a.p (points a.m a.cells.now), length_points a.m a.cells.now (omega arith)) in
    let w = among in (
      omega arith,
      kept_full (by_anchor a.anchor) a.cells.now a.m a.cap c.place-k.result a.p c.requires.0 c.requires.1 k c.if-k-cap.false,
    )
