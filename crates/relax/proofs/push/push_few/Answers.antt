-- `push_few` meets its contract: the marks before mark i and those after it that are near enough, gathered, push as all do.
-- Rests on the contracts of what it calls.
use Rattle.std.proofs.Common.{◌≡◌, ℕ, ◌+◌, ◌*◌, ◌/◌, ◌<◌, ◌≤◌, ◌-◌}
use Rattle.std.proofs.Common.{List, Float, length, take, drop, sym, ap, ◌∙◌, arith}
use Rattle.std.proofs.Common.{length-take, length-drop, length-take-le}
use mathlib.Core.List.{foldl}
use Rattle.glyphs.specs.declared.rect.Point.{Point}
use Rattle.glyphs.specs.Spots.{spots_of, spots_take, length_spots}
use Rattle.relax.specs.declared.push.Force.{Force}
use Rattle.relax.specs.Field.{push_of, no_force}
use Rattle.relax.proofs.push.push_few.Goals as goal

-- how many marks stand before mark i, and after it
before : (spots part : List Float) (i : ℕ) → spots_of part ≡ take i (spots_of spots) → length part / 2 ≤ i
before spots part i e =
    let n : length part / 2 ≡ length (take i (spots_of spots)) = sym (length_spots part) ∙ ap length e in
    rw n (simp length-take (omega arith))

after :
    (spots part : List Float) (i : ℕ) → spots_of part ≡ drop (i + 1) (spots_of spots) → i < length spots / 2
    → length part / 2 + (i + 1) ≤ length spots / 2
after spots part i e h =
    let n : length part / 2 ≡ length spots / 2 - (i + 1) = sym (length_spots part) ∙ ap length e ∙ simp (length-drop, length_spots) in
    omega (arith, n)

pub gather-before-requires : goal.gather-before-requires
gather-before-requires c = omega (arith, before c.args.mark.spots.now _ c.args.mark.i c.earlier.ensures)

pub gather-all-requires : goal.gather-all-requires
gather-all-requires c =
    let b = before c.args.mark.spots.now _ c.args.mark.i c.earlier.ensures in
    let a = after c.args.mark.spots.now _ c.args.mark.i c.later.ensures c.args.mark.within in
    omega (arith, b, a, c.gather-before.ensures.few, c.gather-before.ensures.room)

pub slice_bounds-near-end : goal.slice_bounds-near-end
slice_bounds-near-end c =
    let b = before c.args.mark.spots.now _ c.args.mark.i c.earlier.ensures in
    let a = after c.args.mark.spots.now _ c.args.mark.i c.later.ensures c.args.mark.within in
    omega (arith, b, a, c.gather-before.ensures.few, c.gather-before.ensures.room, c.gather-all.ensures.few, c.gather-all.ensures.room)

pub slice_bounds-push_near-end : goal.slice_bounds-push_near-end
slice_bounds-push_near-end c =
    let b = before c.args.mark.spots.now _ c.args.mark.i c.earlier.ensures in
    let a = after c.args.mark.spots.now _ c.args.mark.i c.later.ensures c.args.mark.within in
    let room : c.gather-all.result * 2 ≤ length c.gather-all.new.near =
    omega (arith, b, a, c.gather-before.ensures.few, c.gather-before.ensures.room, c.gather-all.ensures.few, c.gather-all.ensures.room) in
    sym (length-take-le _ _ room)

pub returns : goal.returns
returns c =
    let a = c.args in
    let g : Force → Point → Force = push_of a.influence a.p in
    c.push_near.ensures
    ∙ ap (foldl g no_force) (spots_take c.gather-all.result c.gather-all.new.near)
    ∙ c.gather-all.ensures.pushes no_force
    ∙ ap (λ (x : Force). foldl g x (spots_of c.later.result.now))
    (c.gather-before.ensures.pushes no_force ∙ ap (foldl g no_force) c.earlier.ensures)
    ∙ ap (foldl g (foldl g no_force (take a.mark.i (spots_of a.mark.spots.now)))) c.later.ensures
