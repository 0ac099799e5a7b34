-- `open` is row 1.
-- Rests on the laws of rows and what `uint` ensures.
use mathlib.Core.Path.{◌≡◌, refl, sym, ◌∙◌}
use Prim.Native.Nat.{◌-◌}
use native.Mathlib.Omega.{arith}
use lib.ListN.{length}
use Rattle.format.specs.Numbers.{u32}
use Rattle.format.specs.RowLaws.{rows}
use Rattle.format.proofs.NumberLaws.{uint_part}
use Rattle.job.specs.Head.{lent_fault}
use Rattle.job.proofs.head.open.Goals as goal
use Rattle.job.proofs.head.open.Goals.{then-n-lt5-via-then-n-lt5, then-n-lt5-via-else-n-lt5+then-n-gt65536}
use Rattle.job.proofs.head.open.Goals.{then-n-lt5-via-else-n-lt5+else-n-gt65536+then-uint-n}

pub returns-then-n-lt5-clause-fault : goal.returns-then-n-lt5-clause-fault
unfolding lent_fault
returns-then-n-lt5-clause-fault c =
    let s = c.args.bytes.now in
    elim c.then-n-lt5.branch [
      | then-n-lt5-via-then-n-lt5 w ↦ let h = w.if-n-lt5.true in search rows
      | then-n-lt5-via-else-n-lt5+then-n-gt65536 w ↦ let g = w.if-n-lt5.false in let h = w.if-n-gt65536.true in search rows
      | then-n-lt5-via-else-n-lt5+else-n-gt65536+then-uint-n w ↦
          let g = w.if-n-lt5.false in
          let h = w.if-n-gt65536.false in
          let u : w.uint.result ≡ u32 s 0 = w.uint.ensures.0 ∙ uint_part 4 s 0 4 refl (omega arith) in
          let f : u32 s 0 ≡ length s - 4 → ⊥ = λ e. w.if-uint-n.true (u ∙ e) in
          search rows
    ]

pub returns-clause-fault : goal.returns-clause-fault
unfolding lent_fault
returns-clause-fault c =
    let s = c.args.bytes.now in
    let u : c.uint.result ≡ u32 s 0 = c.uint.ensures.0 ∙ uint_part 4 s 0 4 refl (omega arith) in
    let f : u32 s 0 ≡ length s - 4 = sym u ∙ c.if-uint-n.false in
    search rows
