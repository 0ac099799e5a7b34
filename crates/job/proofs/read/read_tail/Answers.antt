-- `read_tail` reads the zones to the job's end.
-- Rests on what `item` and `read_zones` ensure, and on the flat lists being the job's.
use mathlib.Core.Path.{◌≡◌, refl, ◌∙◌}
use Prim.Native.Nat.{ℕ, ◌+◌}
use native.Mathlib.Omega.{arith}
use mathlib.Core.List.{List}
use Rattle.std.specs.Prelude.{length, leb}
use Rattle.format.specs.Rows.{◌unless◌, ◌or_else◌, faults}
use Rattle.format.specs.Numbers.{u16}
use Rattle.format.specs.RowLaws.{last_has, last_lacks}
use Rattle.format.specs.RefusalLaws.{fails, passes}
use Rattle.job.specs.Zones.{zone_fault, zone_next}
use Rattle.job.specs.Job.{zones_at, first_zone, zones_end, zones_fault}
use Rattle.job.specs.Steps.{ZonesPut}
use Rattle.job.proofs.Flat.{job_put}
use Rattle.job.proofs.Reading.{Left, start, went, stops}
use Rattle.job.proofs.read.read_tail.Given.{Over}
use Rattle.job.proofs.read.read_tail.Goals as goal
use Rattle.job.proofs.read.read_tail.Goals.{In_ok-n, In_ok-read_zones}

-- the rows of the zones and of what follows them
abbrev zones_left : List ℕ → ℕ
zones_left s = faults (zone_fault s) (zone_next s) (u16 s (zones_at s)) (first_zone s) or_else 7 unless leb (length s) (zones_end s)

-- where the reader stands after the count, and the rows that are left
counted : (g : Over) (c : In_ok-n g) → let s = c.args.job.now.bytes.now in let to = c.item.new.self in
    Left s (zones_fault s) (zones_left s) (zones_at s + 2) to.bytes to.at
unfolding zones_fault
counted g c =
    let j = c.args.job.now in
    let o = c.in_ok-n.ensures in
    let e = c.requires.start in
    went (start j.bytes (zones_fault j.bytes.now) {n = zones_at j.bytes.now} e) (o.fault ∙ rw e) o.bytes (o.next ∙ rw e)

count_is : (g : Over) (c : In_ok-n g) → let s = c.args.job.now.bytes.now in c.in_ok-n.n ≡ u16 s (zones_at s)
count_is g c = rw c.requires.start at c.in_ok-n.ensures.value.0

-- what the zones' reading ensures, at their place
read : (g : Over) (c : In_ok-read_zones g) → let s = c.args.job.now.bytes.now in let n = u16 s (zones_at s) in let to = c.read_zones.new in
    (0 ≡ faults (zone_fault s) (zone_next s) n (first_zone s))
    × ZonesPut s n (zones_at s + 2) c.args.pieces.now c.args.rows.now.items to.job.at to.pieces to.rows.items
    × (length to.job.bytes.now ≡ length s)
read g c =
    let at = c.before.before.before.before.before.before in
    let p = counted g at in
    let u = count_is g at in
    let z = c.in_ok-read_zones.ensures in
    (rw (p.of, p.is, u) at z.fault, rw (p.of, p.is, u) at z.read, rw z.bytes (rw p.of refl))

pub returns-in_err-n-clause-fault : goal.returns-in_err-n-clause-fault
unfolding zones_fault
returns-in_err-n-clause-fault g c =
    fails _ _ _ _ (c.in_err-n.ensures.fault ∙ rw c.requires.start) c.from_residual.ensures.1

pub returns-in_err-read_zones-clause-fault : goal.returns-in_err-read_zones-clause-fault
returns-in_err-read_zones-clause-fault g c =
    let at = (goal.at.returns-in_err-read_zones-clause-fault g c).In_ok-n in
    let p = counted g at in
    stops _ p _ _ (c.in_err-read_zones.ensures.fault ∙ rw (p.of, p.is, count_is g at)) c.from_residual-in_err-read_zones.ensures.1

pub returns-then-job-clause-fault : goal.returns-then-job-clause-fault
unfolding zones_end
returns-then-job-clause-fault g c =
    let e = goal.at.returns-then-job-clause-fault g c in
    let z = read g e.In_ok-read_zones in
    passes _ _ z.0 (last_lacks _ _ 7 (omega (arith, z.1.put.at, z.2, c.if-job.true)) refl) ∙ (counted g e.In_ok-n).rows

pub returns-clause-fault : goal.returns-clause-fault
unfolding zones_end
returns-clause-fault g c =
    let e = goal.at.returns-clause-fault g c in
    let z = read g e.In_ok-read_zones in
    passes _ _ z.0 (last_has _ _ 7 (omega (arith, z.1.put.at, z.2, c.if-job.false)) refl) ∙ (counted g e.In_ok-n).rows

pub returns-clause-read : goal.returns-clause-read
returns-clause-read g c =
    let e = goal.at.returns-clause-read g c in
    job_put c.args.job.now.bytes.now c.args.pieces.now c.args.rows.now.items _ c.read_zones.new.pieces c.read_zones.new.rows.items (read g e.In_ok-read_zones).1
