-- `count_cell` meets its contract: the source's two tests, asked of what was found for the row.
-- Rests on the contracts of both.
use Rattle.lattice.specs.Tally.{count_cell}
use Rattle.lattice.proofs.count.count_cell.Goals as goal

pub returns-then-clears_pillars : goal.returns-then-clears_pillars
unfolding count_cell
returns-then-clears_pillars c = rw (← c.clears_rings.ensures, c.if-clears_rings.true, ← c.clears_pillars.ensures, c.if-clears_pillars.true)

pub returns-then-clears_rings : goal.returns-then-clears_rings
unfolding count_cell
returns-then-clears_rings c = rw (← c.clears_rings.ensures, c.if-clears_rings.true, ← c.clears_pillars.ensures, c.if-clears_pillars.false)

pub returns : goal.returns
unfolding count_cell
returns c = rw (← c.clears_rings.ensures, c.if-clears_rings.false)
