-- `search_zone` finds the deepest points of the zone that a row names.
-- Rests on what its calls ensure and on the parts of slices that are lent.
use mathlib.Core.Path.{◌≡◌, sym, ◌∙◌}
use native.Mathlib.Omega.{arith}
use Rattle.std.specs.Prelude.{◌+◌, ◌≤◌, true, length, drop, replicate}
use Rattle.std.proofs.lemmas.List.{length-replicate}
use Rattle.deepest.specs.declared.search.Deepest.TheVariants.{Nothing}
use Rattle.discs.specs.Floor.{cut}
use Rattle.plan.specs.Walk.{length_pieces}
use Rattle.plan.specs.Found.{found_in}
use Rattle.plan.specs.Rows.{pieces_at, found_at, cut_is, length_cut, part_put, sets_whole, length_found_in, left_out, none_fit}
use Rattle.plan.proofs.searches.search_zone.Goals as goal

pub returns-then-not-is_left_in : goal.returns-then-not-is_left_in
unfolding found_at
returns-then-not-is_left_in c =
    let a = c.args in
    let row = a.zone.row in
    let at = a.zone.at in
    let r = c.requires.zone in
    let room : at.piece + row.pieces ≤ length a.deepest.now = omega (arith, r.pieces, c.requires.room) in
    let pieces = pieces_at a.job.layout.rings.now a.job.layout.sizes.now a.job.layout.points.now row at in
    let count : length pieces ≡ row.pieces =
    length_pieces (cut at.piece row.pieces a.job.layout.rings.now) (drop at.ring a.job.layout.sizes.now) (drop at.point a.job.layout.points.now)
    ∙ length_cut at.piece row.pieces a.job.layout.rings.now r.pieces in
    let n = length_cut at.piece row.pieces a.quotas.now (omega (arith, r.pieces, c.requires.quotas)) in
    let few : length pieces ≤ length (cut at.piece row.pieces a.quotas.now) = omega (arith, count, n) in
    let none = left_out a.job.options pieces (cut at.piece row.pieces a.quotas.now) few in
    let filled : c.fill.new.self ≡ replicate row.pieces Nothing =
    c.fill.ensures.after (λ y h. h) ∙ rw (cut_is at.piece row.pieces a.deepest.now, length_cut at.piece row.pieces a.deepest.now room) in
    rw (← c.is_left_in.ensures, c.if-not-is_left_in.true, none, count, filled) (record {
      fits = sym (none_fit row.pieces);
      put = λ e. part_put a.deepest.now (replicate row.pieces Nothing) at.piece row.pieces (length-replicate row.pieces Nothing) room;
    })

pub returns : goal.returns
unfolding found_at
returns c =
    let a = c.args in
    let row = a.zone.row in
    let at = a.zone.at in
    let r = c.requires.zone in
    let l = a.job.layout in
    let room : at.piece + row.pieces ≤ length a.deepest.now = omega (arith, r.pieces, c.requires.room) in
    let found = found_in a.job.options true (pieces_at l.rings.now l.sizes.now l.points.now row at) (cut at.piece row.pieces a.quotas.now) in
    let count : length found ≡ row.pieces =
    length_found_in l.rings.now l.sizes.now l.points.now row at r.pieces a.job.options true a.quotas.now (omega (arith, r.pieces, c.requires.quotas)) in
    let long = length_cut at.piece row.pieces a.deepest.now room in
    let part = rw (cut_is at.piece row.pieces a.deepest.now) at (rw (c.pieces.ensures.pieces, c.part.ensures) at c.search_pieces.ensures) in
    rw (← c.is_left_in.ensures, c.if-not-is_left_in.false) (record {
      fits = part.fits;
      put = λ e. rw (part.put e ∙ sets_whole found _ (long ∙ sym count)) (part_put a.deepest.now found at.piece row.pieces count room);
    })
