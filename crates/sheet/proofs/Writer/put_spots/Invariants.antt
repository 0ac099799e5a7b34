-- `put_spots` writes spots. Invariant: those left are still to be put where the writer stands.
-- Rests on what `put_float` ensures and one turn of the spots.
use mathlib.Core.Path.{◌≡◌}
use mathlib.Core.List.{flat_map}
use Prim.Native.Nat.{◌+◌, ◌*◌}
use lib.ListN.{length, drop}
use lib.Seq.{sets}
use Rattle.format.specs.Numbers.{float_bytes}
use Rattle.sheet.proofs.Writer.put_spots.Given as goal

abbrev pub invariant-loop-spot : goal.invariant-loop-spot
invariant-loop-spot l =
    let w = l.initial.self in
    record {
      same : l.self.sheet.ghost_name ≡ w.sheet.ghost_name;
      long : length l.self.sheet.now ≡ length w.sheet.now;
      zones : l.self.zones ≡ w.zones;
      at : l.self.at ≡ w.at + 8 * l.spot-index;
      put : sets w.sheet.now w.at (flat_map float_bytes l.spots) ≡ sets l.self.sheet.now l.self.at (flat_map float_bytes (drop l.spot-index l.spots));
    }
