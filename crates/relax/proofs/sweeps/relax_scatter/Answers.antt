-- `relax_scatter` meets its contract: the notes, and then the sweeps where there is something to do.
-- Rests on the laws of what the lists hold in the end.
use Rattle.std.proofs.Common.{◌≡◌, true, false, length, refl, sym, ◌∙◌, arith, rules}
use Rattle.glyphs.specs.Spots.{spots_of, length_spots}
use Rattle.regions.specs.Pieces.{rings_of}
use Rattle.relax.specs.Field.{field_of}
use Rattle.relax.specs.Scatter.{idle, relax_sweeps, around, clearances_of}
use Rattle.relax.specs.Moves.{scatter_of}
use Rattle.relax.specs.Notes.{noted_roots}
use Rattle.relax.specs.Ends.{idle_end, busy_end}
use Rattle.relax.proofs.sweeps.relax_scatter.Goals as goal

pub returns-then-idle : goal.returns-then-idle
returns-then-idle c =
    let a = c.args in
    let points = spots_of a.spots.now in
    let n : length c.note_honoring.new.honoring ≡ length points = simp length_spots (omega arith) in
    let h : idle (length points) a.spacing ≡ true = rw (← n, ← c.idle.ensures) c.if-idle.true in
    let e = idle_end a.numbers points (rings_of a.piece) a.obstacles.now a.spacing a.inset a.spots.now (length a.unrooted.now)
    refl (omega arith) h in
    record { spots = e.0; unrooted = rw (c.note_unrooted.ensures, noted_roots) e.1; honoring = c.note_honoring.ensures }

pub invariant_of-field : goal.invariant_of-field
unfolding field_of
invariant_of-field c = record { inset_margin = rw c.of.ensures; reach_margin = rw c.of.ensures }

pub returns : goal.returns
returns c =
    let a = c.args in
    let points = spots_of a.spots.now in
    let piece = rings_of a.piece in
    let marks = c.relax_sweeps.new.marks in
    let n : length c.note_honoring.new.honoring ≡ length points =
    simp length_spots (omega (arith, c.note_honoring.auto.honoring, c.requires.0, c.requires.1)) in
    let h : idle (length points) a.spacing ≡ false = rw (← n, ← c.idle.ensures) c.if-idle.false in
    let s :
    scatter_of marks
    ≡ relax_sweeps a.numbers (around a.numbers points piece a.obstacles.now a.spacing a.inset)
    (record { points = points; clearance = clearances_of piece points }) =
    c.relax_sweeps.ensures.moved ∙ rw (c.of.ensures, c.note_honoring.ensures, c.note_unrooted.ensures, noted_roots) in
    let count : length marks.honoring.now ≡ length c.note_honoring.new.honoring = rw c.relax_sweeps.ensures.keeps.honoring in
    let e = busy_end a.numbers points piece a.obstacles.now a.spacing a.inset marks.spots.now marks.unrooted.now (length a.unrooted.now)
    (omega (arith, c.requires.1, c.note_honoring.auto.honoring, count, marks.pairs, marks.flags))
    h
    s in
    let spots = sym c.relax_sweeps.ensures.keeps.spots in
    let unrooted = sym c.relax_sweeps.ensures.keeps.unrooted in
    record { spots = search rules; unrooted = search rules; honoring = c.note_honoring.ensures }
