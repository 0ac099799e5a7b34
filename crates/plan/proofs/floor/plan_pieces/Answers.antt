-- `plan_pieces` refuses by row 16, or chooses the radius and writes the sheet.
-- Rests on what its calls ensure.
use mathlib.Core.Path.{◌≡◌, refl, sym, ap, ◌∙◌}
use Rattle.job.specs.Plan.{low_fault}
use Rattle.format.specs.RefusalLaws.{numbered}
use Rattle.plan.specs.Answer.{refused_by}
use Rattle.plan.specs.Sized.{sizing_for}
use Rattle.plan.specs.Bundled.{size_in}
use Rattle.plan.proofs.Refusals.{refusal_in}
use Rattle.plan.proofs.floor.plan_pieces.Goals as goal

pub returns-in_err-check_ceiling-clause-planned : goal.returns-in_err-check_ceiling-clause-planned
returns-in_err-check_ceiling-clause-planned c =
    let f = c.in_err-check_ceiling.ensures ∙ ap low_fault c.ceiling_of-ceiling.ensures in
    record {
      refused = λ e. (refusal_in _ _ c.from_residual.ensures.1 ∙ ap refused_by f, refl);
      given = λ e. absurd (numbered _ (f ∙ e));
    }

pub returns-clause-planned : goal.returns-clause-planned
unfolding sizing_for
returns-clause-planned c =
    let ceiling = c.ceiling_of-ceiling.ensures in
    let f = c.in_ok-check_ceiling.ensures ∙ ap low_fault ceiling in
    let z : c.size_for-size.result ≡ size_in c.args.packing c.args.zones = c.size_for-size.ensures.size ∙ rw ceiling in
    record {
      refused = λ e. absurd (e (sym f));
      given = λ e. rw (← z) (c.put_sheet.ensures.answer, c.put_sheet.ensures.sheet);
    }
