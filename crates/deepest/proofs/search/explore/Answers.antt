-- `explore` meets its contract. The invariant: what is left of the definition's search is that of the cells that wait. The measure is what they weigh.
-- Rests on the laws of the search's state.
use Rattle.std.proofs.Common.{◌<◌, ◌+◌, length, ◌≡◌, ◌-◌, true, false, refl, sym, ◌∙◌, arith}
use Rattle.deepest.specs.Deepest.{better_of, splits_at}
use Rattle.deepest.specs.Turns.{nodes_pos, nodes_split}
use Rattle.deepest.specs.Search.{search_start, search_keep, search_split, search_full, search_room, search_done, lighter}
use Rattle.deepest.proofs.search.explore.Goals as goal

pub loop-cell-init : goal.loop-cell-init
loop-cell-init c =
    let w = c.args.waiting.now in
    (refl, rw c.requires.entered (search_start _ _ _ _ _ _ _ w.heap c.requires.few))

pub returns-then-room-lt4 : goal.returns-then-room-lt4
returns-then-room-lt4 c =
    let a = c.args in
    let i = c.loop-cell.invariant in
    let out = c.in-Some.ensures in
    let p = rw i.0 at out.popped in
    let same = out.halves ∙ i.0 in
    let e : splits_at a.waiting.now.halves.now a.precision c.in-Some.cell (better_of c.loop-cell.best c.in-Some.cell) ≡ true = cc (c.splits.ensures.0) in
    let over : length a.waiting.now.cells.now < c.pop.new.self.len + 4 = omega (arith, p.long, i.1.long, c.room.ensures.places, c.if-room-lt4.true) in
    record { answer = λ q w. sym (search_full _ _ _ _ _ _ _ _ _ _ _ i.1 _ _ _ out.len p e over q w) }

pub push_four-requires : goal.push_four-requires
push_four-requires c =
    let i = c.loop-cell.invariant in
    let out = c.in-Some.ensures in
    let p = rw i.0 at out.popped in
    let heap = c.pop.new.self.heap in (
      omega (arith, heap.room, c.room.ensures.places, c.if-room-lt4.false),
      c.splits.ensures.1 c.if-splits.true,
      rw out.entered (search_room _ _ _ _ _ _ _ _ _ _ _ i.1 _ _ _ out.len p),
    )

pub loop-cell-smaller-then-splits : goal.loop-cell-smaller-then-splits
loop-cell-smaller-then-splits c =
    let i = c.loop-cell.invariant in
    let out = c.in-Some.ensures in
    let w = lighter _ _ _ _ _ _ _ _ _ _ _ i.1 _ _ _ out.len (rw i.0 at out.popped) in
    let k = c.splits.ensures.1 c.if-splits.true in
    rw c.push_four.ensures.len (omega (arith, c.push_four.ensures.quartered.weight, w, nodes_split c.in-Some.cell.halvings k))

pub loop-cell-preserved-then-splits : goal.loop-cell-preserved-then-splits
loop-cell-preserved-then-splits c =
    let a = c.args in
    let i = c.loop-cell.invariant in
    let out = c.in-Some.ensures in
    let p = rw i.0 at out.popped in
    let same = out.halves ∙ i.0 in
    let e : splits_at a.waiting.now.halves.now a.precision c.in-Some.cell (better_of c.loop-cell.best c.in-Some.cell) ≡ true = cc (c.splits.ensures.0) in
    let k = c.splits.ensures.1 c.if-splits.true in
    let four = c.push_four.ensures in
    let q = rw (same, out.entered) at four.quartered in (
      four.halves ∙ same,
      rw (four.len, four.entered, out.entered, c.better-best.ensures)
          (search_split _ _ _ _ _ _ _ _ _ _ _ i.1 _ _ _ out.len p _ e k (omega (arith, p.long, i.1.long, c.room.ensures.places, c.if-room-lt4.false)) q),
    )

pub loop-cell-smaller : goal.loop-cell-smaller
loop-cell-smaller c =
    let i = c.loop-cell.invariant in
    let out = c.in-Some.ensures in
    let w = lighter _ _ _ _ _ _ _ _ _ _ _ i.1 _ _ _ out.len (rw i.0 at out.popped) in
    omega (arith, w, nodes_pos (21 - c.in-Some.cell.halvings))

pub loop-cell-preserved : goal.loop-cell-preserved
loop-cell-preserved c =
    let a = c.args in
    let i = c.loop-cell.invariant in
    let out = c.in-Some.ensures in
    let same = out.halves ∙ i.0 in
    let e : splits_at a.waiting.now.halves.now a.precision c.in-Some.cell (better_of c.loop-cell.best c.in-Some.cell) ≡ false = cc (c.splits.ensures.0) in
    (same, rw (out.entered, c.better-best.ensures) (search_keep _ _ _ _ _ _ _ _ _ _ _ i.1 _ _ _ out.len (rw i.0 at out.popped) e))

pub returns : goal.returns
returns c =
    let i = c.loop-cell.invariant in
    record { answer = λ q w. c.answer.ensures ∙ sym (search_done _ _ _ _ _ _ _ _ _ _ _ i.1 c.in_default.ensures.0 q w) }
