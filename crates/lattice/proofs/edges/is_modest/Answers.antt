-- `is_modest` meets its contract: a value between two numbers is a number no larger.
-- Rests on the rounding law of ranges.
use Rattle.std.proofs.Common.{T}
use lib.Ieee.{binary64, fits}
use Rattle.laws.specs.Truth.{yes}
use Rattle.lattice.specs.Far.{modest}
use Rattle.lattice.proofs.edges.is_modest.Goals as goal

pub returns-then-v : goal.returns-then-v
returns-then-v c =
    let held : T (fits binary64 c.args.v) = yes c.well_formed.0.1 in
    modest c.args.v held c.if-v.true

pub returns : goal.returns
returns c = λ e. absurd (yes e)
