-- `fits_at` meets its contract: the cells at a spacing, counted and compared.
-- Rests on the contracts of its calls.
use Rattle.std.proofs.Common.{◌∙◌}
use Rattle.lattice.specs.Spread.{field_fits}
use Rattle.lattice.specs.Uniform.{available}
use Rattle.lattice.proofs.spread.Packing.fits_at.Goals as goal

pub returns : goal.returns
unfolding field_fits available
returns c = c.is_enough.ensures ∙ rw (c.count_with-t.ensures, c.at_spacing-widened.ensures)
