-- `put_sheet` writes the sheet.
-- Rests on what its calls ensure, and on the bytes of a sheet.
use mathlib.Core.Path.{◌≡◌, ◌∙◌}
use native.Mathlib.Omega.{arith}
use borrow.Author.Rules.{rules}
use Rattle.laws.specs.Lists.{written}
use Rattle.sheet.specs.Sheet.{sheet_of}
use Rattle.discs.specs.Floor.{start}
use Rattle.plan.specs.Sized.{sheet_to, answer_to}
use Rattle.plan.specs.Bundled.{all_placed}
use Rattle.plan.specs.Sheets.{bytes_flat, sheet_put}
use Rattle.plan.proofs.floor.put_sheet.Goals as goal

pub returns : goal.returns
unfolding answer_to
returns c =
    let a = c.args in
    let p = a.setting.packing in
    let n = a.zones in
    let w = c.new-writer.ensures in
    let z = c.put_zones.ensures in
    let size = c.size_of-size.ensures in
    let same =
    bytes_flat p.numbers a.setting.size p.options p.obstacles.now
    n.bytes.now n.layout.rings.now n.layout.sizes.now n.layout.points.now n.quotas.now n.deepest.now n.layout.rows.now start in
    let h =
    sheet_put a.sheet.now _ c.size_of-size.result.radius (all_placed a.setting n) _ same w.sheet w.at w.zones z.put
    (omega (arith, w.at, z.room, c.requires.room)) c.put_head.ensures.sheet in
    let long = c.put_head.ensures.at ∙ h.0 in
    let whole : c.put_head.new.self.sheet.now ≡ written (sheet_of (sheet_to a.setting.size (all_placed a.setting n))) a.sheet.now = rw (← size) h.1 in
    record { answer = rw (← size, ← long); sheet = search rules; same = z.same }
