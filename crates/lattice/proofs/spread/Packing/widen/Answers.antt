-- `widen` meets its contract. The invariant: the answer is that of the turns which are left.
-- Rests on the laws of a turn.
use Rattle.std.proofs.Common.{◌≡◌, ◌+◌, ◌-◌, sym, ◌∙◌, arith}
use Rattle.regions.specs.Pieces.{rings_of}
use Rattle.lattice.specs.Spread.{widen_stop, widen_up, widen_down, widen_end}
use Rattle.lattice.proofs.spread.Packing.widen.Goals as goal
use Rattle.lattice.proofs.spread.Packing.widen.Goals.{then-fits_at, else-fits_at}

pub returns-then-hi-lo : goal.returns-then-hi-lo
returns-then-hi-lo c =
    let l = c.loop-turn in
    let a = c.args in
    sym
    (l.invariant
    ∙ widen_stop (rings_of a.self.site.piece) a.self.site.margin.least a.self.site.near.now a.self.n a.self.field a.self.honoring a.s_max
    (24 - l._turn) l.lo l.hi
    (omega arith) c.if-hi-lo.true)

pub loop-turn-preserved : goal.loop-turn-preserved
loop-turn-preserved c =
    let l = c.loop-turn in
    let a = c.args in
    let rings = rings_of a.self.site.piece in
    let near = a.self.site.near.now in
    let e : 24 - (l._turn + 1) ≡ 24 - l._turn - 1 = omega arith in
    elim c.if-fits_at.branch [
      | then-fits_at w ↦
          rw (w.lo-is, w.hi-is, e)
          (l.invariant ∙ widen_up rings a.self.site.margin.least near a.self.n a.self.field a.self.honoring a.s_max (24 - l._turn) l.lo l.hi
          (omega arith) c.if-hi-lo.false (sym c.fits_at.ensures ∙ w.if-fits_at.true))
      | else-fits_at w ↦
          rw (w.lo-is, w.hi-is, e)
          (l.invariant ∙ widen_down rings a.self.site.margin.least near a.self.n a.self.field a.self.honoring a.s_max (24 - l._turn) l.lo l.hi
          (omega arith) c.if-hi-lo.false (sym c.fits_at.ensures ∙ w.if-fits_at.false))
    ]

pub returns : goal.returns
returns c =
    let l = c.loop-turn in
    let a = c.args in
    sym
    (l.invariant
    ∙ widen_end (rings_of a.self.site.piece) a.self.site.margin.least a.self.site.near.now a.self.n a.self.field a.self.honoring a.s_max
    (24 - l._turn) l.lo l.hi (omega arith))
