-- `pass` meets its contract. The invariant: the spots placed are at the slice's front, and the rest of the pass from them on is the whole.
-- Rests on the laws of a pass's turns and of spots placed one after another.
use mathlib.Core.Path.{◌≡◌}
use mathlib.Core.List.{List}
use Prim.Native.Nat.{◌≤◌, ◌-◌}
use lib.ListN.{length, take}
use Rattle.glyphs.specs.declared.rect.Point.{Point}
use Rattle.glyphs.specs.Spots.{spots_of}
use Rattle.lattice.specs.Flat.{Puts}
use Rattle.scatter.specs.LowDiscrepancy.{budget}
use Rattle.scatter.specs.Passes.{pass_at}
use Rattle.scatter.proofs.low.Filter.pass.Given as goal

abbrev pub invariant-loop-index : goal.invariant-loop-index
invariant-loop-index l =
    (l.placed ≤ l.self.site.n)
    × (l.index-end ≡ budget l.self.site.n)
    × (length l.spots ≡ length l.initial.spots)
    × (ps : List Point)
    × Puts ps l.placed l.spots l.initial.spots
    × (pass_at l.self.site l.self.anchor l.honor (budget l.self.site.n - l.index) l.index ps
    ≡ pass_at l.self.site l.self.anchor l.honor (budget l.self.site.n) 0 (take l.start (spots_of l.initial.spots)))
