-- `auto_radius` meets its contract. The invariant: the answer is that of the search left.
-- Rests on the turns of the search.
use Rattle.std.proofs.Common.{◌≡◌, sym, ◌∙◌, arith}
use Rattle.discs.specs.Radius.{auto_radius}
use Rattle.discs.specs.Bundles.{fits_in, work_on, work_same}
use Rattle.discs.proofs.Halving.{halve_end, halve_stop, halve_turn}
use Rattle.discs.proofs.radius.auto_radius.Goals as goal

pub feasible-requires : goal.feasible-requires
feasible-requires c = c.requires

pub returns-then-feasible : goal.returns-then-feasible
unfolding auto_radius
returns-then-feasible c = record { search = rw (← c.feasible.ensures.fits, c.if-feasible.true); same = c.feasible.ensures.same }

pub loop-made-init : goal.loop-made-init
unfolding auto_radius
loop-made-init c = (work_same _, rw (← c.feasible.ensures.fits, c.if-feasible.false))

pub returns-then-b-r_hi : goal.returns-then-b-r_hi
returns-then-b-r_hi c =
    let l = c.loop-made in
    let a = c.args in
    let fits = fits_in a.packing a.zones a.packing.obstacles.now in
    record {
      search = sym (l.invariant.1 ∙ halve_stop fits a.r_hi l.b l.made (omega arith) c.if-b-r_hi.true);
      same = work_on c.feasible.ensures.same l.invariant.0;
    }

pub feasible-fits-requires : goal.feasible-fits-requires
feasible-fits-requires c = omega (arith, c.requires, c.feasible.ensures.same.lent.near_long, c.loop-made.invariant.0.lent.near_long)

pub loop-made-preserved : goal.loop-made-preserved
loop-made-preserved c =
    let l = c.loop-made in
    let a = c.args in
    let fits = fits_in a.packing a.zones a.packing.obstacles.now in (
      work_on l.invariant.0 c.feasible-fits.ensures.same,
      l.invariant.1
          ∙ halve_turn fits a.r_hi l.b l.made (omega arith) c.if-b-r_hi.false
          ∙ rw (c.narrowed-b.ensures, c.feasible-fits.ensures.fits),
    )

pub returns : goal.returns
returns c =
    let l = c.loop-made in
    let a = c.args in
    let fits = fits_in a.packing a.zones a.packing.obstacles.now in
    let e : l.made ≡ 25 = omega arith in
    record {
      search = sym (l.invariant.1 ∙ halve_end fits a.r_hi l.b l.made (omega arith) ∙ rw e);
      same = work_on c.feasible.ensures.same l.invariant.0;
    }
