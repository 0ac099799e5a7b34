-- `read_key` reads a key that comes after the last one.
-- Rests on what `item` and `read_letter` ensure, one turn of a run, and the order of slices.
use mathlib.Core.Bool.{true, false}
use mathlib.Core.Path.{◌≡◌, refl, sym, ◌∙◌}
use native.Mathlib.Omega.{arith}
use Prim.Native.Nat.{◌+◌, ◌-◌, ◌≤◌}
use lib.ListN.{length, take, drop}
use Rattle.format.specs.Rows.{faults}
use Rattle.format.specs.Numbers.{u8}
use Rattle.format.specs.RowLaws.{faults_turn, faults_end, last_true, last_false}
use Rattle.format.specs.NumberLaws.{item_passed}
use Rattle.format.specs.RefusalLaws.{fails, passes, stopped, goes_first}
use Rattle.job.specs.Zones.{letter_fault, next_byte, above, key_at, key_fault, count_at}
use Rattle.job.specs.ZoneLaws.{letters_inside}
use Rattle.job.proofs.ByteOrder.{gt_is}
use Rattle.job.proofs.keys.read_key.Goals as goal
use Rattle.job.proofs.keys.read_key.Goals.{After-gt-is_above}

pub returns-in_err-n-clause-fault : goal.returns-in_err-n-clause-fault
unfolding key_fault
returns-in_err-n-clause-fault c = fails _ _ _ _ c.in_err-n.ensures.fault c.from_residual.ensures.1

pub loop-i-preserved : goal.loop-i-preserved
loop-i-preserved c =
    let l = c.loop-i in
    let s = c.item.new.self.bytes.now in
    let n = c.in_ok-n.n in
    let o = c.in_ok-read_letter.ensures in
    let f = rw l.invariant.0 at o.fault in
    let e = faults_turn next_byte (letter_fault s) n l._i l.job.at (omega arith) f o.next l.invariant.2 in
    (o.bytes ∙ l.invariant.0, omega (arith, o.next, l.invariant.1), e)

pub returns-in_err-read_letter-clause-fault : goal.returns-in_err-read_letter-clause-fault
unfolding key_fault
returns-in_err-read_letter-clause-fault c =
    let l = c.loop-i in
    let s = c.item.new.self.bytes.now in
    let o = c.in_ok-n.ensures in
    let f = rw l.invariant.0 at c.in_err-read_letter.ensures.fault in
    let r = c.from_residual-in_err-read_letter.ensures.1 in
    let e = stopped next_byte (letter_fault s) _ _ c.in_ok-n.n l._i l.job.at (omega arith) f l.invariant.2 r in
    passes _ _ o.fault (goes_first _ _ _ _ r (e ∙ rw (o.bytes, o.next, o.value.0)))

pub slice_bounds-key-end : goal.slice_bounds-key-end
slice_bounds-key-end c =
    let l = c.loop-i in
    let o = c.in_ok-n.ensures in
    let j = c.item.new.self in
    let s = j.bytes.now in
    let n = c.in_ok-n.n in
    let first = (item_passed 1 _ _ 1 32 9 (omega arith) (sym o.fault)).inside in
    let whole : j.at ≤ length s = rw o.bytes (omega (arith, first, o.next)) in
    let letters = faults_end next_byte (letter_fault s) n l._i l.job.at (omega arith) l.invariant.2 in
    let end : l.job.at ≤ length s = omega (arith, letters_inside s n j.at whole (sym letters), l.invariant.1) in
    rw l.invariant.0 end

-- the letters are fine
letters_are : (c : After-gt-is_above) → let j = c.args.job.now in 0 ≡ faults (letter_fault j.bytes.now) next_byte (u8 j.bytes.now j.at) (j.at + 1)
letters_are c =
    let l = c.loop-i in
    let o = c.in_ok-n.ensures in
    faults_end next_byte (letter_fault c.item.new.self.bytes.now) c.in_ok-n.n l._i l.job.at (omega arith) l.invariant.2 ∙ rw (o.bytes, o.next, o.value.0)

-- the comparison is of the key
above_is : (c : After-gt-is_above) → let j = c.args.job.now in above (key_at j.bytes.now j.at) c.args.last.now ≡ c.gt-is_above.result
unfolding key_at
above_is c =
    let l = c.loop-i in
    let o = c.in_ok-n.ensures in
    let m : l.job.at - c.item.new.self.at ≡ c.in_ok-n.n = omega (arith, l.invariant.1) in
    let t = sym (c.gt-is_above.ensures ∙ gt_is (take (l.job.at - c.item.new.self.at) (drop c.item.new.self.at l.job.bytes.now)) c.args.last.now) in
    rw (m, l.invariant.0, o.bytes, o.next, o.value.0) at t

pub returns-then-not-is_above-clause-fault : goal.returns-then-not-is_above-clause-fault
unfolding key_fault
returns-then-not-is_above-clause-fault c =
    let at = (goal.at.returns-then-not-is_above-clause-fault c).After-gt-is_above in
    passes _ _ c.in_ok-n.ensures.fault (passes _ _ (letters_are at) (last_false _ false 11 (sym (above_is at ∙ c.if-not-is_above.true)) refl refl))

pub returns-clause-fault : goal.returns-clause-fault
unfolding key_fault
returns-clause-fault c =
    let at = (goal.at.returns-clause-fault c).After-gt-is_above in
    passes _ _ c.in_ok-n.ensures.fault (passes _ _ (letters_are at) (last_true _ true 11 (sym (above_is at ∙ c.if-not-is_above.false)) refl refl))

pub returns-clause-key : goal.returns-clause-key
unfolding key_at
returns-clause-key c =
    let l = c.loop-i in
    let o = c.in_ok-n.ensures in
    let m : l.job.at - c.item.new.self.at ≡ c.in_ok-n.n = omega (arith, l.invariant.1) in
    rw (m, l.invariant.0, o.bytes, o.next, o.value.0)

pub returns-clause-next : goal.returns-clause-next
unfolding count_at
returns-clause-next c =
    let o = c.in_ok-n.ensures in
    omega (arith, c.loop-i.invariant.1, o.next, o.value.0)
