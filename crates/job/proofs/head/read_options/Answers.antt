-- `read_options` reads rows 3, 4 and 5.
-- Rests on what its calls ensure.
use mathlib.Core.Path.{◌≡◌, refl, ap, ◌∙◌}
use Prim.Native.Nat.{ℕ}
use mathlib.Core.List.{List}
use Rattle.std.proofs.Common.{Bor}
use Rattle.glyphs.specs.declared.options.GlyphArrangement.{GlyphArrangement}
use Rattle.glyphs.specs.declared.options.ObstaclePolicy.{ObstaclePolicy}
use Rattle.discs.specs.declared.options.Radius.{Radius}
use Rattle.format.specs.Rows.{◌unless◌, ◌or_else◌}
use Rattle.format.specs.Numbers.{u8, u32, u8_in, u32_in, whole}
use Rattle.format.specs.RowLaws.{or_else_assoc}
use Rattle.job.specs.Head.{version_at, gap_at, boundary_kind_at, boundary_gap_at, precision_at, attempts_at, seed_at, number_after, choices_fault}
use Rattle.job.specs.Head.{measures_fault, head_fault, options_of}
use Rattle.job.specs.HeadLaws.{same_options}
use Rattle.job.proofs.Options.{boundary_is}
use Rattle.job.proofs.Reading.{Left, went, stops, ends}
use Rattle.job.proofs.head.read_options.Goals as goal
use Rattle.job.proofs.head.read_options.Goals.{In_ok-item, In_ok-arrangement, In_ok-gap, In_ok-boundary_gap, In_ok-precision, In_ok-max_attempts}

-- ---- the rows from each one on

abbrev seed_left : List ℕ → ℕ
seed_left s = 6 unless whole s seed_at 8

abbrev attempts_left : List ℕ → ℕ
attempts_left s = u32_in s attempts_at 0 2000 4 or_else seed_left s

abbrev precision_left : List ℕ → ℕ
precision_left s = u32_in s precision_at 1 1048576 4 or_else attempts_left s

abbrev boundary_left : List ℕ → ℕ
boundary_left s = (u8_in s boundary_kind_at 0 1 4 or_else number_after (u8 s boundary_kind_at) s boundary_gap_at 16384) or_else precision_left s

abbrev gap_left : List ℕ → ℕ
gap_left s = u32_in s gap_at 0 16384 4 or_else boundary_left s

abbrev choices_left : List ℕ → ℕ
choices_left s = choices_fault s or_else gap_left s

rows : (s : List ℕ) → u8_in s version_at 1 1 3 or_else choices_left s ≡ head_fault s
unfolding head_fault measures_fault
rows s = ap (λ (x : ℕ). u8_in s version_at 1 1 3 or_else choices_fault s or_else u32_in s gap_at 0 16384 4 or_else x) (or_else_assoc _ _ _)

-- ---- where the reader stands after each of them

none : (bytes : Bor (List ℕ)) {at : ℕ} → at ≡ version_at → let s = bytes.now in
    Left s (head_fault s) (u8_in s version_at 1 1 3 or_else choices_left s) version_at bytes at
none bytes e = record { of = refl; is = e; rows = rows bytes.now }

version : (c : In_ok-item) → let s = c.args.job.now.bytes.now in let to = c.item.new.self in
    Left s (head_fault s) (choices_left s) 5 to.bytes to.at
version c =
    let p = none c.args.job.now.bytes c.requires in
    let o = c.in_ok-item.ensures in
    went p (o.fault ∙ rw p.is) o.bytes (o.next ∙ rw p.is)

choices : (c : In_ok-arrangement) → let s = c.args.job.now.bytes.now in let to = c.read_choices.new.job in
    Left s (head_fault s) (gap_left s) gap_at to.bytes to.at
choices c =
    let p = version c.before.before.before.before in
    let o = c.in_ok-arrangement.ensures in
    went p (o.fault ∙ rw p.of) o.bytes o.next

gap : (c : In_ok-gap) → let s = c.args.job.now.bytes.now in let to = c.share.new.self in
    Left s (head_fault s) (boundary_left s) boundary_kind_at to.bytes to.at
gap c =
    let p = choices c.before.before.before.before in
    let o = c.in_ok-gap.ensures in
    went p (o.fault ∙ rw (p.of, p.is)) o.bytes (o.next ∙ rw p.is)

boundary : (c : In_ok-boundary_gap) → let s = c.args.job.now.bytes.now in let to = c.read_choice.new.job in
    Left s (head_fault s) (precision_left s) precision_at to.bytes to.at
boundary c =
    let p = gap c.before.before.before.before in
    let o = c.in_ok-boundary_gap.ensures in
    went p (o.fault ∙ rw (p.of, p.is)) o.bytes (o.next ∙ rw p.is)

precision : (c : In_ok-precision) → let s = c.args.job.now.bytes.now in let to = c.share-2.new.self in
    Left s (head_fault s) (attempts_left s) attempts_at to.bytes to.at
precision c =
    let p = boundary c.before.before.before.before in
    let o = c.in_ok-precision.ensures in
    went p (o.fault ∙ rw (p.of, p.is)) o.bytes (o.next ∙ rw p.is)

attempts : (c : In_ok-max_attempts) → let s = c.args.job.now.bytes.now in let to = c.item-2.new.self in
    Left s (head_fault s) (seed_left s) seed_at to.bytes to.at
attempts c =
    let p = precision c.before.before.before.before in
    let o = c.in_ok-max_attempts.ensures in
    went p (o.fault ∙ rw (p.of, p.is)) o.bytes (o.next ∙ rw p.is)

-- ---- which row is refused

pub returns-in_err-item-clause-fault : goal.returns-in_err-item-clause-fault
returns-in_err-item-clause-fault c =
    let p = none c.args.job.now.bytes c.requires in
    stops _ p _ _ (c.in_err-item.ensures.fault ∙ rw p.is) c.from_residual.ensures.1

pub returns-in_err-arrangement-clause-fault : goal.returns-in_err-arrangement-clause-fault
returns-in_err-arrangement-clause-fault c =
    let p = version (goal.at.returns-in_err-arrangement-clause-fault c).In_ok-item in
    stops _ p _ _ (c.in_err-arrangement.ensures.fault ∙ rw p.of) c.from_residual-in_err-arrangement.ensures.1

pub returns-in_err-gap-clause-fault : goal.returns-in_err-gap-clause-fault
returns-in_err-gap-clause-fault c =
    let p = choices (goal.at.returns-in_err-gap-clause-fault c).In_ok-arrangement in
    stops _ p _ _ (c.in_err-gap.ensures.fault ∙ rw (p.of, p.is)) c.from_residual-in_err-gap.ensures.1

pub returns-in_err-boundary_gap-clause-fault : goal.returns-in_err-boundary_gap-clause-fault
returns-in_err-boundary_gap-clause-fault c =
    let p = gap (goal.at.returns-in_err-boundary_gap-clause-fault c).In_ok-gap in
    stops _ p _ _ (c.in_err-boundary_gap.ensures.fault ∙ rw (p.of, p.is)) c.from_residual-in_err-boundary_gap.ensures.1

pub returns-in_err-precision-clause-fault : goal.returns-in_err-precision-clause-fault
returns-in_err-precision-clause-fault c =
    let p = boundary (goal.at.returns-in_err-precision-clause-fault c).In_ok-boundary_gap in
    stops _ p _ _ (c.in_err-precision.ensures.fault ∙ rw (p.of, p.is)) c.from_residual-in_err-precision.ensures.1

pub returns-in_err-max_attempts-clause-fault : goal.returns-in_err-max_attempts-clause-fault
returns-in_err-max_attempts-clause-fault c =
    let p = precision (goal.at.returns-in_err-max_attempts-clause-fault c).In_ok-precision in
    stops _ p _ _ (c.in_err-max_attempts.ensures.fault ∙ rw (p.of, p.is)) c.from_residual-in_err-max_attempts.ensures.1

pub returns-in_err-seed-clause-fault : goal.returns-in_err-seed-clause-fault
returns-in_err-seed-clause-fault c =
    let p = attempts (goal.at.returns-in_err-seed-clause-fault c).In_ok-max_attempts in
    ends p _ _ (c.in_err-seed.ensures.fault ∙ rw (p.of, p.is)) c.from_residual-in_err-seed.ensures.1

pub returns-clause-fault : goal.returns-clause-fault
returns-clause-fault c =
    let p = attempts (goal.at.returns-clause-fault c).In_ok-max_attempts in
    rw (p.of, p.is) at c.in_ok-seed.ensures.fault ∙ p.rows

-- ---- what is read

pub returns-clause-options : goal.returns-clause-options
unfolding options_of
returns-clause-options c =
    let e = goal.at.returns-clause-options c in
    let s = c.args.job.now.bytes.now in
    let p1 = version e.In_ok-item in
    let p2 = choices e.In_ok-arrangement in
    let p3 = gap e.In_ok-gap in
    let p4 = boundary e.In_ok-boundary_gap in
    let p5 = precision e.In_ok-precision in
    let p6 = attempts e.In_ok-max_attempts in
    let v = rw p1.of at c.in_ok-arrangement.ensures.value in
    same_options
    (ap (λ (x : GlyphArrangement × ObstaclePolicy × Radius). x.0) v)
    (ap (λ (x : GlyphArrangement × ObstaclePolicy × Radius). x.2) v)
    (rw (p2.of, p2.is) at c.in_ok-gap.ensures.value)
    (rw (p3.of, p3.is) at c.in_ok-boundary_gap.ensures.value ∙ boundary_is (u8 s boundary_kind_at) (u32 s boundary_gap_at))
    (rw (p6.of, p6.is) at c.in_ok-seed.ensures.value.0)
    (rw (p4.of, p4.is) at c.in_ok-precision.ensures.value)
    (rw (p5.of, p5.is) at c.in_ok-max_attempts.ensures.value.0)
    (ap (λ (x : GlyphArrangement × ObstaclePolicy × Radius). x.1) v)
