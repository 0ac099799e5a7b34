-- `share_pieces` writes the quotas of a zone's pieces.
-- Rests on what its calls ensure and on what lies at the front of its two arrays.
use mathlib.Core.Path.{◌∙◌}
use Rattle.plan.specs.Shares.{areas_front, shares_front}
use Rattle.plan.proofs.shares.share_pieces.Goals as goal

pub returns : goal.returns
returns c =
    let p = c.args.pieces in
    let front = areas_front p.rings.now p.sizes.now p.points.now _ _ c.requires.few c.put_areas.ensures in
    c.put_shares.ensures ∙ shares_front p.rings.now p.sizes.now p.points.now c.args.count _ _ _ front c.apportion.ensures
