-- `signed` meets its contract: the number of a rank.
-- Rests on `Signed.antt`.
use Rattle.std.proofs.Common.{arith}
use Rattle.lattice.proofs.Signed.{signed_read}
use Rattle.lattice.proofs.span.signed.Goals as goal

pub returns : goal.returns
returns c = signed_read c.args.u c.wrapping_add_unsigned.result (omega arith) c.wrapping_add_unsigned.ensures
