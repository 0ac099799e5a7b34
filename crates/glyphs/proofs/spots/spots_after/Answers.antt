-- `spots_after` meets its contract: the list from the next mark on.
-- Rests on the law that the points of a list's rest are the rest of its points.
use Rattle.std.proofs.Common.{◌≡◌, ◌+◌, ◌-◌, ◌*◌, length, take, drop, arith, length-drop, take_all}
use Rattle.glyphs.specs.Spots.{spots_drop}
use Rattle.glyphs.proofs.spots.spots_after.Goals as goal

pub returns : goal.returns
returns c =
    let l = c.args.spots.now in
    let a = (c.args.i + 1) * 2 in
    let e : take (length l - a) (drop a l) ≡ drop a l = take_all (length l - a) (drop a l) (simp length-drop (omega arith)) in
    rw (e, spots_drop)
