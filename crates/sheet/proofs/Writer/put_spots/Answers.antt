-- `put_spots` writes spots. Invariant: those left are still to be put where the writer stands.
-- Rests on what `put_float` ensures and one turn of the spots.
use mathlib.Core.Path.{◌∙◌}
use native.Mathlib.Omega.{arith}
use lib.Seq.{length-sets}
use Rattle.format.specs.Numbers.{float_bytes}
use Rattle.sheet.specs.Back.{length_floats}
use Rattle.sheet.specs.Laws.{spots_turn, spots_end}
use Rattle.sheet.proofs.Writer.put_spots.Goals as goal

pub loop-spot-preserved : goal.loop-spot-preserved
loop-spot-preserved c =
    let l = c.loop-spot in
    let i = l.invariant in
    record {
      same = i.same;
      long = rw c.put_float.ensures (length-sets l.self.sheet.now l.self.at (float_bytes _) ∙ i.long);
      zones = i.zones;
      at = omega (arith, i.at);
      put = rw c.put_float.ensures (spots_turn l.self.sheet.now l.self.at c.args.spots.now l.spot-index _ (omega arith) i.put);
    }

pub returns-clause-put : goal.returns-clause-put
returns-clause-put c =
    let l = c.loop-spot in
    let i = l.invariant in
    let spots = c.args.spots.now in
    record {
      same = i.same;
      put = spots_end l.self.sheet.now l.self.at spots l.spot-index (omega arith) i.put;
      at = omega (arith, i.at, length_floats spots);
      zones = omega (arith, i.zones);
    }
