-- `best_exit` meets its contract. The invariant: the answer is that of the obstacles which are left, from `best` on.
-- Rests on the laws that take a list apart.
use Rattle.std.proofs.Common.{◌≡◌, drop}
use Rattle.std.specs.Prelude.{Option}
use mathlib.Core.List.{foldl}
use Rattle.glyphs.specs.declared.rect.Rectangle.{Rectangle}
use Rattle.regions.specs.Pieces.{rings_of}
use Rattle.lattice.specs.Escape.{exits, consider, best_exit}
use Rattle.lattice.specs.declared.escape.Exit.{Exit}
use Rattle.lattice.proofs.escape.Blocked.best_exit.Given as goal

abbrev pub invariant-loop-rect : goal.invariant-loop-rect
invariant-loop-rect l =
    let rings = rings_of l.self.piece in
    let near = l.self.near.now in
    best_exit l.self.anchor rings near l.self.clearance
    ≡ foldl (λ (found : Option Exit) (rect : Rectangle). foldl (consider l.self.anchor rings near l.self.clearance) found
    (exits l.self.anchor l.pad rect)) l.best (drop l.rect-index near)
