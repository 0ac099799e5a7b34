-- `is_searched` meets its contract, case by case.
-- Rests on what `starts_deepest` ensures.
use Rattle.discs.specs.Searches.{is_searched}
use Rattle.plan.proofs.searches.is_searched.Goals as goal

pub returns-in-Auto : goal.returns-in-Auto
unfolding is_searched
returns-in-Auto c = rw c.in-Auto.is

pub returns-in-Stated : goal.returns-in-Stated
unfolding is_searched
returns-in-Stated c = rw (c.in-Stated.is, c.starts_deepest.ensures)
