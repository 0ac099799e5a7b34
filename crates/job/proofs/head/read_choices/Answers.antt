-- `read_choices` reads arrangement, policy and radius.
-- Rests on what its calls ensure.
use mathlib.Core.Path.{◌≡◌, sym, ◌∙◌}
use Prim.Native.Nat.{ℕ}
use mathlib.Core.List.{List}
use Rattle.std.proofs.Common.{Bor}
use Rattle.format.specs.Rows.{◌or_else◌}
use Rattle.format.specs.Numbers.{u8, u32, u8_in}
use Rattle.job.specs.Head.{arrangement_at, policy_at, radius_kind_at, radius_at, number_after, choices_fault, arrangement_of, policy_of}
use Rattle.job.specs.Steps.{number_of_kind}
use Rattle.job.proofs.Options.{radius_auto, radius_stated}
use Rattle.job.proofs.Reading.{Left, start, went, stops, ends}
use Rattle.job.proofs.head.read_choices.Goals as goal
use Rattle.job.proofs.head.read_choices.Goals.{In_ok-item, In_ok-item-2, In_ok-read_choice}

-- ---- the rows from each one on, and where the reader stands after each of them

abbrev radius_left : List ℕ → ℕ
radius_left s = u8_in s radius_kind_at 0 1 4 or_else number_after (u8 s radius_kind_at) s radius_at 1048576

abbrev policy_left : List ℕ → ℕ
policy_left s = u8_in s policy_at 0 1 4 or_else radius_left s

none : (bytes : Bor (List ℕ)) {at : ℕ} → at ≡ arrangement_at → let s = bytes.now in
    Left s (choices_fault s) (u8_in s arrangement_at 0 3 4 or_else policy_left s) arrangement_at bytes at
unfolding choices_fault
none bytes e = start bytes (choices_fault bytes.now) {n = arrangement_at} e

arrangement : (c : In_ok-item) → let s = c.args.job.now.bytes.now in let to = c.item.new.self in
    Left s (choices_fault s) (policy_left s) policy_at to.bytes to.at
arrangement c =
    let p = none c.args.job.now.bytes c.requires in
    let o = c.in_ok-item.ensures in
    went p (o.fault ∙ rw p.is) o.bytes (o.next ∙ rw p.is)

policy : (c : In_ok-item-2) → let s = c.args.job.now.bytes.now in let to = c.item-2.new.self in
    Left s (choices_fault s) (radius_left s) radius_kind_at to.bytes to.at
policy c =
    let p = arrangement c.before.before.before.before.before in
    let o = c.in_ok-item-2.ensures in
    went p (o.fault ∙ rw (p.of, p.is)) o.bytes (o.next ∙ rw p.is)

fault_none : (c : In_ok-read_choice) → 0 ≡ choices_fault c.args.job.now.bytes.now
fault_none c =
    let p = policy c.before.before.before.before.before in
    rw (p.of, p.is) at c.in_ok-read_choice.ensures.fault ∙ p.rows

-- ---- which row is refused

pub returns-in_err-item-clause-fault : goal.returns-in_err-item-clause-fault
returns-in_err-item-clause-fault c =
    let p = none c.args.job.now.bytes c.requires in
    stops _ p _ _ (c.in_err-item.ensures.fault ∙ rw p.is) c.from_residual.ensures.1

pub returns-in_err-item-2-clause-fault : goal.returns-in_err-item-2-clause-fault
returns-in_err-item-2-clause-fault c =
    let p = arrangement (goal.at.returns-in_err-item-2-clause-fault c).In_ok-item in
    stops _ p _ _ (c.in_err-item-2.ensures.fault ∙ rw (p.of, p.is)) c.from_residual-in_err-item-2.ensures.1

pub returns-in_err-read_choice-clause-fault : goal.returns-in_err-read_choice-clause-fault
returns-in_err-read_choice-clause-fault c =
    let p = policy (goal.at.returns-in_err-read_choice-clause-fault c).In_ok-item-2 in
    ends p _ _ (c.in_err-read_choice.ensures.fault ∙ rw (p.of, p.is)) c.from_residual-in_err-read_choice.ensures.1

pub returns-in-None-clause-fault : goal.returns-in-None-clause-fault
returns-in-None-clause-fault c = fault_none (goal.at.returns-in-None-clause-fault c).In_ok-read_choice

pub returns-in-Some-clause-fault : goal.returns-in-Some-clause-fault
returns-in-Some-clause-fault c = fault_none (goal.at.returns-in-Some-clause-fault c).In_ok-read_choice

-- ---- what is read

arrangement_is : (c : In_ok-item-2) → c.arrangement_of-arrangement.result ≡ arrangement_of (u8 c.args.job.now.bytes.now arrangement_at)
arrangement_is c = c.arrangement_of-arrangement.ensures ∙ rw (c.in_ok-item.ensures.value.0, c.requires)

policy_read : (c : In_ok-item-2) → c.in_ok-item-2.field-0 ≡ u8 c.args.job.now.bytes.now policy_at
policy_read c =
    let p = arrangement c.before.before.before.before.before in
    rw (p.of, p.is) at c.in_ok-item-2.ensures.value.0

policy_is : (c : In_ok-read_choice) → c.policy_of-obstacle_policy.result ≡ policy_of (u8 c.args.job.now.bytes.now policy_at)
policy_is c = c.policy_of-obstacle_policy.ensures ∙ rw (policy_read c.before.before.before.before.before)

number_is : (c : In_ok-read_choice) → let s = c.args.job.now.bytes.now in c.in_ok-read_choice.field-0 ≡ number_of_kind (u8 s radius_kind_at) (u32 s radius_at)
number_is c =
    let p = policy c.before.before.before.before.before in
    rw (p.of, p.is) at c.in_ok-read_choice.ensures.value

pub returns-in-None-clause-value : goal.returns-in-None-clause-value
returns-in-None-clause-value c =
    let e = goal.at.returns-in-None-clause-value c in
    rw (arrangement_is e.In_ok-item-2, policy_is e.In_ok-read_choice, radius_auto _ _ (sym c.in-None.is ∙ number_is e.In_ok-read_choice))

pub returns-in-Some-clause-value : goal.returns-in-Some-clause-value
returns-in-Some-clause-value c =
    let e = goal.at.returns-in-Some-clause-value c in
    rw (arrangement_is e.In_ok-item-2, policy_is e.In_ok-read_choice, radius_stated _ _ (sym c.in-Some.is ∙ number_is e.In_ok-read_choice))
