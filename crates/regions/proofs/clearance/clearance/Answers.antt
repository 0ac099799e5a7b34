-- `clearance` meets its contract: a small ring on its own is walked once, and else distance and inside test are found one after the other.
-- Rests on the law of a piece without holes.
use Rattle.std.proofs.Common.{◌≡◌, ℕ, ◌≤◌, ◌&&◌, true, length, get_or, arith, eqb, leb}
use mathlib.Core.Bool.{and-true}
use lib.Dec.{eqb→eq, leb→le}
use Rattle.laws.specs.Truth.{yes, both_true}
use Rattle.regions.specs.Ring.{outer, holes}
use Rattle.regions.specs.Clearance.{in_any, within}
use Rattle.regions.specs.Pieces.{alone}
use Rattle.regions.specs.Squares.{least_of_rings}
use Rattle.regions.proofs.clearance.clearance.Goals as goal

-- what the test says
small : (many n : ℕ) → eqb many 1 && (leb 3 n && leb n 24) ≡ true → (many ≡ 1) × (3 ≤ n)
small many n e =
    let t = both_true (eqb many 1) (leb 3 n && leb n 24) e in
    (eqb→eq _ _ (yes t.0), leb→le _ _ (yes (both_true (leb 3 n) (leb n 24) t.1).0))

pub ring_clearance-requires : goal.ring_clearance-requires
ring_clearance-requires c =
    let s = small (length c.args.piece.sizes.now) (get_or c.args.piece.sizes.now 0 0) c.if-piece-n.true in
    omega (arith, s.1, c.outer.ensures.vertices)

pub returns-then-piece-n : goal.returns-then-piece-n
unfolding within outer holes in_any least_of_rings
returns-then-piece-n c =
    let s = small (length c.args.piece.sizes.now) (get_or c.args.piece.sizes.now 0 0) c.if-piece-n.true in
    rw (alone _ _ s.0, and-true, ← c.outer.ensures.ring) c.ring_clearance.ensures

pub returns : goal.returns
returns c = rw (← c.inside_piece-inside.ensures, ← c.rings.ensures, ← c.rings_square-square.ensures) c.with_root.ensures
