-- `clear_of_others` meets its contract: by the count of the marks too near, or by the marks before mark i and those after it.
-- Rests on the laws that either is about all others.
use Prim.Native.Nat.{◌<◌}
use native.Mathlib.Omega.{arith}
use lib.ListN.{length}
use Rattle.glyphs.specs.Spots.{spots_of, spots_at_lem, length_spots}
use Rattle.relax.specs.Others.{clear_others, clear_counted}
use Rattle.relax.proofs.field.Field.clear_of_others.Goals as goal

pub returns-then-mark-le64 : goal.returns-then-mark-le64
returns-then-mark-le64 c =
    let a = c.args in
    let h : a.mark.i < length (spots_of a.mark.spots.now) = simp length_spots (omega arith) in
    rw (
      clear_counted _ _ a.mark.i (spots_of a.mark.spots.now) c.place.result h,
      spots_at_lem a.mark.spots.now a.mark.i c.place.result (omega arith),
      ← c.place.ensures,
      ← c.apart-own.ensures,
      ← c.count_near.ensures,
    )

pub returns : goal.returns
returns c =
    let a = c.args in
    let h : a.mark.i < length (spots_of a.mark.spots.now) = simp length_spots (omega arith) in
    rw (
      clear_others _ _ a.mark.i (spots_of a.mark.spots.now) h,
      ← c.earlier.ensures,
      ← c.later.ensures,
      ← c.apart_from_all-before.ensures,
      ← c.apart_from_all.ensures,
    )
