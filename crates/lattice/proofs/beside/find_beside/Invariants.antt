-- `find_beside` meets its contract. The invariant: the obstacles abreast of the row are those written and those of what is left.
-- Rests on the laws of a list filtered in turn, and on the law that the others keep the margin.
use Rattle.std.proofs.Common.{◌≡◌, ◌≤◌, ◌++◌, length, take, drop}
use Rattle.glyphs.specs.Rect.{filter}
use Rattle.lattice.specs.Beside.{abreast}
use Rattle.lattice.proofs.beside.find_beside.Given as goal

abbrev pub invariant-loop-rect : goal.invariant-loop-rect
invariant-loop-rect l =
    (l.m ≤ length l.room)
    × (take l.m l.room ++ filter (abreast l.y l.site.margin.high) (drop l.rect-index l.site.near.now) ≡ filter (abreast l.y l.site.margin.high) l.site.near.now)
