-- `options_of` reads the options.
-- Rests on what its calls ensure.
use mathlib.Core.Path.{refl, ap, ◌∙◌}
use native.Mathlib.Omega.{arith}
use Rattle.format.specs.Numbers.{share}
use Rattle.format.proofs.NumberLaws.{uint_part}
use Rattle.job.specs.Head.{arrangement_of, policy_of, options_of}
use Rattle.job.specs.HeadLaws.{same_options}
use Rattle.job.proofs.head.options_of.Goals as goal

pub returns : goal.returns
unfolding options_of
returns c =
    let s = c.args.s.now in
    let h = c.requires in
    let arrangement = c.uint.ensures.0 ∙ uint_part 1 s 5 6 refl (omega arith) in
    let policy = c.uint-2.ensures.0 ∙ uint_part 1 s 6 7 refl (omega arith) in
    let radius_kind = c.uint-3.ensures.0 ∙ uint_part 1 s 7 8 refl (omega arith) in
    let radius = c.uint-4.ensures.0 ∙ uint_part 4 s 8 12 refl (omega arith) in
    let gap = c.uint-5.ensures.0 ∙ uint_part 4 s 12 16 refl (omega arith) in
    let boundary_kind = c.uint-6.ensures.0 ∙ uint_part 1 s 16 17 refl (omega arith) in
    let boundary = c.uint-7.ensures.0 ∙ uint_part 4 s 17 21 refl (omega arith) in
    let precision = c.uint-8.ensures.0 ∙ uint_part 4 s 21 25 refl (omega arith) in
    same_options
    (c.arrangement_of-arrangement.ensures ∙ ap arrangement_of arrangement)
    (c.radius_of-radius.ensures ∙ rw (radius_kind, radius))
    (c.share-gap.ensures ∙ ap share gap)
    (c.boundary_of-boundary_gap.ensures ∙ rw (boundary_kind, boundary))
    (c.uint-seed.ensures.0 ∙ uint_part 8 s 29 37 refl h)
    (c.share-precision.ensures ∙ ap share precision)
    (c.uint-max_attempts.ensures.0 ∙ uint_part 4 s 25 29 refl (omega arith))
    (c.policy_of-obstacle_policy.ensures ∙ ap policy_of policy)
