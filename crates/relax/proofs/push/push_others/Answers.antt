-- `push_others` meets its contract: the marks before mark i push, then those after it.
-- Rests on the law that these are all others.
use Rattle.std.proofs.Common.{◌≡◌, ℕ, ◌+◌, ◌/◌, ◌<◌, List, Float, length, take, drop, sym, ◌∙◌}
use mathlib.Core.List.{foldl}
use Rattle.glyphs.specs.declared.rect.Point.{Point}
use Rattle.glyphs.specs.Spots.{spot_at, spots_of, spots_at_lem, length_spots}
use Rattle.relax.specs.Field.{at, no_force, push_of, pushes}
use Rattle.relax.specs.Others.{push_others}
use Rattle.relax.proofs.push.push_others.Goals as goal

others :
    (influence : Float) (i : ℕ) (spots : List Float) (p : Point) → i < length spots / 2 → p ≡ spot_at spots i
    → pushes influence i (at (spots_of spots) i) 0 (spots_of spots) no_force
    ≡ foldl (push_of influence p) (foldl (push_of influence p) no_force (take i (spots_of spots))) (drop (i + 1) (spots_of spots))
others influence i spots p h e =
    let n : i < length (spots_of spots) = simp length_spots h in
    let q : at (spots_of spots) i ≡ p = rw (spots_at_lem spots i _ h, e) in
    rw q (push_others influence p i (spots_of spots) no_force n)

pub returns-then-mark-le64 : goal.returns-then-mark-le64
returns-then-mark-le64 c =
    let a = c.args in
    c.push_few.ensures ∙ sym (others a.influence a.mark.i a.mark.spots.now c.place-p.result a.mark.within c.place-p.ensures)

pub returns : goal.returns
returns c =
    let a = c.args in
    rw (others a.influence a.mark.i a.mark.spots.now c.place-p.result a.mark.within c.place-p.ensures) (cc)
