-- `put_placement` writes a zone's bytes.
-- Rests on what its calls ensure, and on the bytes of a zone.
use mathlib.Core.Path.{refl}
use Prim.Native.Nat.{◌*◌}
use native.Mathlib.Omega.{arith}
use lib.Seq.{length-sets}
use Rattle.plan.specs.Rows.{length_cut}
use Rattle.plan.specs.Bytes.{placement_put}
use Rattle.plan.proofs.zones.put_placement.Goals as goal

pub put_spots-requires : goal.put_spots-requires
put_spots-requires c =
    let a = c.args in
    let z = c.put_zone.ensures in
    let from = rw (c.part.ensures, length_cut a.row.key a.row.len a.s.now c.requires.key) at z.at in
    rw (length_cut 0 (a.placed * 2) a.spots.now (omega (arith, c.requires.spots)), z.put.put)
    (simp length-sets (omega (arith, from, c.requires.room)))

pub returns : goal.returns
returns c =
    let a = c.args in
    let p = c.requires in
    placement_put a.s.now a.row a.placed a.spots.now p.key p.spots _ refl (rw c.part.ensures at c.put_zone.ensures.put) c.put_spots.ensures.put
