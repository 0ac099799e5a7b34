-- `plan_zones` answers a job that was read in: rows 15 and 16, and the sheet.
-- Rests on what its calls ensure, and on these being the definition's over the job's zones.
use mathlib.Core.Path.{◌≡◌, refl, ap, ◌∙◌}
use native.Mathlib.Omega.{arith}
use Rattle.std.specs.Prelude.{is_ok}
use Rattle.glyphs.specs.Rect.{sanitize_obstacles}
use Rattle.plan.proofs.Zoned.{refused_search, zones_floor, zones_fair, planned_zones}
use Rattle.plan.proofs.rows.plan_zones.Goals as goal

pub returns-in-Err : goal.returns-in-Err
returns-in-Err c =
    let j = c.args.job in
    let n = j.layout in
    let p = c.requires in
    refused_search j.bytes.now j.options j.obstacles.now n.rows.now n.rings.now n.sizes.now n.points.now p.read
    _ _ (omega (arith, p.pieces)) c.share_zones.ensures _ _ (omega (arith, p.pieces)) _ c.search_zones.ensures (ap is_ok c.in-Err.is) _ refl _

pub invariant_of-zones : goal.invariant_of-zones
invariant_of-zones c =
    let j = c.args.job in
    let n = j.layout in
    let p = c.requires in
    record {
      floor =
          zones_floor j.bytes.now j.options j.obstacles.now n.rows.now n.rings.now n.sizes.now n.points.now p.read
          _ _ (omega (arith, p.pieces)) c.share_zones.ensures _ _ (omega (arith, p.pieces)) _ c.search_zones.ensures (ap is_ok c.in_default.is);
    }

pub plan_pieces-requires-clause-fair : goal.plan_pieces-requires-clause-fair
plan_pieces-requires-clause-fair c =
    let j = c.args.job in
    let n = j.layout in
    let p = c.requires in
    λ size.
    zones_fair j.bytes.now j.options j.obstacles.now n.rows.now n.rings.now n.sizes.now n.points.now p.read
    _ _ (omega (arith, p.pieces)) c.share_zones.ensures _ _ (omega (arith, p.pieces)) _ c.search_zones.ensures (ap is_ok c.in_default.is) _ _ size

pub returns : goal.returns
returns c =
    let j = c.args.job in
    let n = j.layout in
    let p = c.requires in
    let kept : c.as_slice.result.now ≡ sanitize_obstacles j.obstacles.now = c.as_slice.ensures.value ∙ c.sanitize_obstacles.ensures ∙ rw c.clear.ensures in
    planned_zones j.bytes.now j.options j.obstacles.now n.rows.now n.rings.now n.sizes.now n.points.now p.read
    _ _ (omega (arith, p.pieces)) c.share_zones.ensures _ _ (omega (arith, p.pieces)) _ c.search_zones.ensures (ap is_ok c.in_default.is)
    _ kept _ _ _ c.plan_pieces.ensures.planned
