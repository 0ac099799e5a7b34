-- `put_zone` writes what stands before the spots of a zone.
-- Rests on what its calls ensure, part after part.
use mathlib.Core.Path.{refl, sym, ◌∙◌}
use native.Mathlib.Omega.{arith}
use Rattle.sheet.specs.Laws.{put_zone_head}
use Rattle.sheet.proofs.Back.{length_zone_head}
use Rattle.sheet.proofs.Writer.put_zone.Goals as goal

pub returns-clause-put : goal.returns-clause-put
returns-clause-put c =
    let a = c.args in
    let w = a.self.now in
    let k = a.key.now in
    record {
      same = refl;
      put =
          c.put_uint-3.ensures
          ∙ rw (c.put_uint-2.ensures, c.put_key.ensures, c.put_uint.ensures)
          (sym (put_zone_head w.sheet.now w.at k a.placed a.unplaced));
      at = omega (arith, length_zone_head k a.placed a.unplaced);
      zones = refl;
    }
