-- `apart_from_eight` meets its contract. The invariant: `ok` is the answer for the first j of the eight.
-- Rests on the laws of `all` over the first elements.
use Rattle.std.proofs.Common.{◌≡◌, ◌<◌, length, get_or, take, refl, ◌∙◌, arith, take_all}
use Rattle.laws.specs.Any.{all}
use Rattle.laws.specs.Blocks.{all_next}
use Rattle.glyphs.specs.Spots.{apart, spots_of, spots_at_lem, length_spots}
use Rattle.glyphs.proofs.spots.apart_from_eight.Goals as goal

pub loop-j-init : goal.loop-j-init
unfolding all
loop-j-init c = refl

pub loop-j-preserved : goal.loop-j-preserved
loop-j-preserved c =
    let l = c.loop-j in
    let a = c.args in
    let s = spots_of a.block.now in
    let h : l.j < length s = simp length_spots (omega arith) in
    let d = c.spot.result in
    let at : get_or s l.j d ≡ d = rw (spots_at_lem a.block.now l.j d (omega arith)) (cc) in
    rw (all_next (apart a.p a.least) s l.j d h, at) (cc)

pub returns : goal.returns
returns c =
    let l = c.loop-j in
    let s = spots_of c.args.block.now in
    let e : take l.j s ≡ s = take_all l.j s (simp length_spots (omega arith)) in
    c.loop-j.invariant ∙ rw e
