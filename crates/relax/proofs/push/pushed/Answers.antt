-- `pushed` meets its contract: it is the definition's own branch.
-- Rests on the law of a push in parts.
use Rattle.relax.specs.Others.{reached}
use Rattle.relax.proofs.push.pushed.Goals as goal

pub returns : goal.returns
returns c =
    reached c.args.influence c.args.p c.args.f c.args.q c.args.d c.requires.0 c.requires.1
