-- `count_near` meets its contract. The invariant: the count and that of the marks from mark k on make up that of all.
-- Rests on the laws of the count over one mark and over none.
use Rattle.std.proofs.Common.{◌≡◌, ◌+◌, ◌<◌, not, length, drop, arith, rules}
use mir.Val.{bool_byte}
use Rattle.laws.specs.Truth.{flag_le}
use Rattle.glyphs.specs.Spots.{near_count, spots_of, spots_at_lem, length_spots, near_step, near_end}
use Rattle.glyphs.proofs.spots.count_near.Goals as goal

pub loop-k-init : goal.loop-k-init
loop-k-init c = (search rules, search rules, omega arith)

pub overflow_add-count : goal.overflow_add-count
overflow_add-count c = omega (arith, flag_le (not c.apart.result))

pub loop-k-preserved : goal.loop-k-preserved
loop-k-preserved c =
    let l = c.loop-k in
    let a = c.args in
    let s = spots_of a.spots.now in
    let q = c.spot in
    let h : l.k < length s = simp length_spots (omega arith) in
    let own : near_count a.p a.least (drop l.k s) ≡ bool_byte (not c.apart.result) + near_count a.p a.least (drop (l.k + 1) s) =
    rw (near_step _ _ s l.k q.result h, spots_at_lem a.spots.now l.k q.result (omega arith), ← q.ensures, ← c.apart.ensures) in
    (search rules, omega (arith, flag_le (not c.apart.result)), omega (arith, own))

pub returns : goal.returns
returns c =
    let l = c.loop-k in
    let a = c.args in
    let s = spots_of a.spots.now in
    omega (arith, near_end a.p a.least s l.k (simp length_spots (omega arith)))
