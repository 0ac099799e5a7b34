-- The outer ring is the first of a piece, and has as many vertices as the first of the sizes says.
-- Rests on the laws that take the first ring of a piece.
use Rattle.std.proofs.Common.{◌≡◌, ◌<◌, ◌≤◌, length, get_or, rules, arith, length-take, take, sym, List, ℕ}
use Rattle.glyphs.specs.declared.rect.Point.{Point}
use Rattle.regions.specs.Ring.{sum, outer_is, first_sum, part}
use Rattle.regions.proofs.piece.RegionPiece.outer.Goals as goal

first_length :
    (sizes : List ℕ) (points : List Point) → 0 < length sizes → sum sizes ≤ length points
    → get_or sizes 0 0 ≡ length (take (get_or sizes 0 0) points)
first_length sizes points some room =
    let whole = first_sum sizes some in
    rw length-take (omega arith)

pub slice_bounds-result-end : goal.slice_bounds-result-end
slice_bounds-result-end c = first_length _ _ c.args.self.outer_ring c.args.self.room

pub returns-clause-ring : goal.returns-clause-ring
unfolding part
returns-clause-ring c = rw (outer_is c.args.self.sizes.now c.args.self.points.now c.args.self.outer_ring) (search rules)

pub returns-clause-vertices : goal.returns-clause-vertices
returns-clause-vertices c = sym (first_length _ _ c.args.self.outer_ring c.args.self.room)
