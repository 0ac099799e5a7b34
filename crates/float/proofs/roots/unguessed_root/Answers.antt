-- `float::unguessed_root` meets its contract, in each of the four cases that its tests tell apart.
-- Rests on `Tests.antt` and the contract of `root_of`.
use Rattle.std.proofs.Common.{T, ap, ◌∙◌, arith}
use lib.Ieee.{binary64, fits}
use lib.Ieee.Bits.{of_bits-to_bits}
use Rattle.laws.specs.Truth.{yes}
use Rattle.float.specs.Root.{root_of}
use Rattle.float.proofs.roots.Tests.{above_number, above_pattern, infinite, at_zero, below_zero}
use Rattle.float.proofs.roots.unguessed_root.Goals as goal
use Rattle.float.proofs.roots.unguessed_root.Goals.{Start}

-- what owning an `f64` tells: the format holds it
held : (c : Start) → T (fits binary64 c.args.x)
held c = yes c.well_formed.0.1

pub float_to_bits-bits : goal.float_to_bits-bits
float_to_bits-bits c = above_number c.args.x c.if-x.true

pub root_of-requires : goal.root_of-requires
root_of-requires c =
    record { above_zero = above_pattern c.args.x (held c.before.before) c.if-x.true; finite = omega (arith, c.if-bits-lt9218868437227405312.true) }

pub returns-then-bits-lt9218868437227405312 : goal.returns-then-bits-lt9218868437227405312
returns-then-bits-lt9218868437227405312 c =
    c.root_of.ensures ∙ ap (root_of binary64) (of_bits-to_bits binary64 c.args.x (held c.before.before.before))

pub returns-else-bits-lt9218868437227405312 : goal.returns-else-bits-lt9218868437227405312
returns-else-bits-lt9218868437227405312 c = infinite c.args.x (held c.before.before) c.if-x.true c.if-bits-lt9218868437227405312.false

pub returns-then-x-2 : goal.returns-then-x-2
returns-then-x-2 c = at_zero c.args.x c.if-x-2.true

pub returns-else-x-2 : goal.returns-else-x-2
returns-else-x-2 c = below_zero c.args.x c.if-x.false c.if-x-2.false
