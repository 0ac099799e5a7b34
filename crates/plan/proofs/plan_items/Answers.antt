-- `plan_items` refuses by rows 3 to 14, or gives the answer of the zones.
-- Rests on what its calls ensure, and on the laws of the call.
use mathlib.Core.Path.{sym}
use Rattle.discs.specs.ZoneWalk.{each_as}
use Rattle.plan.specs.Rows.{lies_within}
use Rattle.plan.proofs.CallLaws.{rows_fit_lem, read_in, short_answered, zones_answered}
use Rattle.plan.proofs.Refusals.{items_refused}
use Rattle.plan.proofs.Zoned.{rows_readable}
use Rattle.plan.proofs.plan_items.Goals as goal

pub returns-in_err-options : goal.returns-in_err-options
returns-in_err-options c =
    items_refused c.args.job.bytes.now _ c.from_residual.result c.args.sheet.now c.in_err-options.ensures.fault c.from_residual.ensures.1

pub sheet_room-requires : goal.sheet_room-requires
sheet_room-requires c =
    let o = c.in_ok-options.ensures in
    rw c.as_slice-rows.ensures.value (rows_fit_lem _ _ _ _ _ _ _ _ o.read (sym o.fault) c.requires.rows)

pub returns-then-sheet_room-sheet : goal.returns-then-sheet_room-sheet
returns-then-sheet_room-sheet c =
    let o = c.in_ok-options.ensures in
    short_answered _ _ _ _ _ _ _ _ o.read (sym o.fault) c.requires.rows
    c.sheet_room.result c.args.sheet.now (rw c.as_slice-rows.ensures.value at c.sheet_room.ensures) c.if-sheet_room-sheet.true

pub invariant_of-layout : goal.invariant_of-layout
invariant_of-layout c =
    let o = c.in_ok-options.ensures in
    let p = c.requires in
    record {
      within =
          rw (c.as_slice-rows.ensures.value, c.as_slice.ensures.value, c.as_slice-2.ensures.value, c.as_slice-3.ensures.value)
          (each_as _ _ _ _ (λ row at h. lies_within h)
          (rows_readable _ _ _ _ _ _ _ (read_in _ _ _ _ _ _ _ _ o.read (sym o.fault) p.rows p.obstacles p.rings p.sizes p.points)));
    }

pub invariant_of-job : goal.invariant_of-job
invariant_of-job c =
    let o = c.in_ok-options.ensures in
    let p = c.requires in
    record {
      readable =
          rw (c.as_slice-rows.ensures.value, c.as_slice.ensures.value, c.as_slice-2.ensures.value, c.as_slice-3.ensures.value)
          (rows_readable _ _ _ _ _ _ _ (read_in _ _ _ _ _ _ _ _ o.read (sym o.fault) p.rows p.obstacles p.rings p.sizes p.points));
    }

pub plan_zones-requires-clause-read : goal.plan_zones-requires-clause-read
plan_zones-requires-clause-read c =
    let o = c.in_ok-options.ensures in
    let p = c.requires in
    rw (
      o.bytes,
      c.as_slice-rows.ensures.value,
      c.as_slice.ensures.value,
      c.as_slice-2.ensures.value,
      c.as_slice-3.ensures.value,
      c.as_slice-4.ensures.value,
    )
    (read_in _ _ _ _ _ _ _ _ o.read (sym o.fault) p.rows p.obstacles p.rings p.sizes p.points)

pub returns : goal.returns
returns c =
    let o = c.in_ok-options.ensures in
    zones_answered _ _ _ _ _ _ _ _ o.read (sym o.fault) c.requires.rows c.sheet_room.result _ c.args.sheet.now _
    (rw c.as_slice-rows.ensures.value at c.sheet_room.ensures) c.if-sheet_room-sheet.false (rw o.bytes at c.plan_zones.ensures)
