-- `spread_spacing` meets its contract: the largest spacing, or the widened one.
-- Rests on the contracts of its calls.
use Rattle.lattice.specs.Spread.{field_spacing}
use Rattle.lattice.proofs.spread.Packing.spread_spacing.Goals as goal

pub returns-then-fits_at : goal.returns-then-fits_at
unfolding field_spacing
returns-then-fits_at c =
    rw (← c.hypot-s_max.ensures, ← c.max-hi.ensures, ← c.fits_at.ensures, c.if-fits_at.true)

pub returns : goal.returns
unfolding field_spacing
returns c =
    rw (← c.hypot-s_max.ensures, ← c.max-hi.ensures, ← c.fits_at.ensures, c.if-fits_at.false) c.widen.ensures
