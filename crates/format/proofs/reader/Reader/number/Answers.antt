-- `number` reads a number that is whole. Where its end is no number of 64 bits, it is not: no slice is that long.
-- Rests on the laws of rows, and on a number standing in a part as in the whole.
use native.Mathlib.Omega.{arith}
use Rattle.std.proofs.Common.{refl, sym, ap, ◌∙◌, ◌≡◌, ◌+◌, ◌<◌, length}
use Rattle.format.specs.Refusals.{number_of, fault_of}
use Rattle.format.specs.RowLaws.{last_has, last_lacks}
use Rattle.format.specs.RefusalLaws.{handed}
use Rattle.format.proofs.NumberLaws.{uint_part}
use Rattle.format.proofs.reader.Reader.number.Goals as goal

pub returns-in_err-end-clause-fault : goal.returns-in_err-end-clause-fault
returns-in_err-end-clause-fault c =
    let e = c.in_err-end.ensures in
    let short : length c.args.self.now.bytes.now < c.args.self.now.at + c.args.n = grind (arith, c.checked_add.ensures) in
    let ends : number_of c.in_err-end.field-0.0 ≡ 6 = ap fault_of (rw e.ok_part at e.value) in
    handed c.in_err-end.field-0.0 c.from_residual.result (ends ∙ last_lacks _ _ 6 short refl) c.from_residual.ensures.1

pub returns-in_err-bytes-clause-fault : goal.returns-in_err-bytes-clause-fault
returns-in_err-bytes-clause-fault c =
    let e = c.in_err-bytes.ensures in
    let end : c.in_ok-end.end ≡ c.args.self.now.at + c.args.n = grind arith in
    let short : length c.args.self.now.bytes.now < c.args.self.now.at + c.args.n = grind (arith, end, rw e.ok_part at c.get.ensures.lookup) in
    let ends : number_of c.in_err-bytes.field-0.0 ≡ 6 = ap fault_of (rw e.ok_part at e.value) in
    let r = c.from_residual-in_err-bytes in
    handed c.in_err-bytes.field-0.0 r.result (ends ∙ last_lacks _ _ 6 short refl) r.ensures.1

pub returns-clause-fault : goal.returns-clause-fault
returns-clause-fault c =
    let end : c.in_ok-end.end ≡ c.args.self.now.at + c.args.n = grind arith in
    let part = (rw c.in_ok-bytes.ensures.ok_part at c.get.ensures.lookup).0 in
    last_has _ _ 6 (rw end at part.1) refl

pub returns-clause-value : goal.returns-clause-value
returns-clause-value c =
    let a = c.args in
    let s = a.self.now.bytes.now in
    let at = a.self.now.at in
    let end : c.in_ok-end.end ≡ at + a.n = grind arith in
    let part = (rw c.in_ok-bytes.ensures.ok_part at c.get.ensures.lookup).0 in
    let long : length c.in_ok-bytes.bytes.now ≡ a.n = omega (arith, part.3, end) in
    let is = rw part.2 at c.uint.ensures.0 in
    (is ∙ uint_part a.n s at c.in_ok-end.end (sym end) part.1, rw long at c.uint.ensures.1)
