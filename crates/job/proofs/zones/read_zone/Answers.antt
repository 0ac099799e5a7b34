-- `read_zone` reads a zone.
-- Rests on what its calls ensure, and on a key without fault being whole.
use mathlib.Core.Path.{◌≡◌, refl, sym, ap, ◌∙◌}
use Prim.Native.Nat.{ℕ, ◌+◌, ◌≤◌}
use native.Mathlib.Omega.{arith}
use mathlib.Core.List.{List}
use Rattle.std.specs.Prelude.{length, leb}
use Rattle.std.proofs.Common.{Bor, rules}
use Rattle.format.specs.Rows.{◌unless◌, ◌or_else◌, faults}
use Rattle.format.specs.Numbers.{u8, u16, u8_in, u16_in}
use Rattle.format.specs.Pieces.{piece_fault, piece_end}
use Rattle.format.specs.RowLaws.{row_has, row_lacks, or_else_assoc}
use Rattle.format.specs.NumberLaws.{length_part}
use Rattle.job.specs.Zones.{Place, key_at, key_fault, counts_fault, opening_fault, count_at, pieces_at, row_at, zone_fault, zone_next, zone_end}
use Rattle.job.specs.Zones.{zone_points, zone_sizes, zone_rings}
use Rattle.job.specs.ZoneLaws.{key_inside, count_at_lem}
use Rattle.job.specs.Steps.{place_of}
use Rattle.job.proofs.Reading.{Left, went, stops, ends}
use Rattle.job.proofs.zones.read_zone.Given.{Over}
use Rattle.job.proofs.zones.read_zone.Goals as goal
use Rattle.job.proofs.zones.read_zone.Goals.{In_ok-before, In_ok-count, In_ok-item}

-- ---- the rows of a zone, one after the other: those from its pieces on, whose mark count stands at `at`, and those before

abbrev pieces_left : List ℕ → ℕ → ℕ
pieces_left s at = faults (piece_fault s) (piece_end s) (u8 s (at + 2)) (at + 3)

abbrev number_left : List ℕ → ℕ → ℕ
number_left s at = u8_in s (at + 2) 0 16 9 or_else pieces_left s at

abbrev total_left : List ℕ → ℕ → ℕ → ℕ
total_left s at marks = 12 unless leb (marks + u16 s at) 2000 or_else number_left s at

abbrev counts_left : List ℕ → ℕ → ℕ → ℕ
counts_left s at marks = u16_in s at 0 2000 9 or_else total_left s at marks

rows : (s : List ℕ) (z : Place) → key_fault s z.at z.last or_else counts_left s (count_at s z.at) z.marks ≡ zone_fault s z
unfolding zone_fault opening_fault counts_fault
rows s z =
    sym (
    or_else_assoc _ _ _
    ∙ ap (λ (x : ℕ). key_fault s z.at z.last or_else x)
    (or_else_assoc _ _ _ ∙ ap (λ (x : ℕ). u16_in s (count_at s z.at) 0 2000 9 or_else x) (or_else_assoc _ _ _))
    )

-- ---- where the reader stands after each of them

none : (bytes : Bor (List ℕ)) (z : Place) → let s = bytes.now in
    Left s (zone_fault s z) (key_fault s z.at z.last or_else counts_left s (count_at s z.at) z.marks) z.at bytes z.at
none bytes z = record { of = refl; is = refl; rows = rows bytes.now z }

keyed : (g : Over) (c : In_ok-before g) → let j = c.args.job.now in let z = place_of j.at c.args.before.now in let to = c.read_key.new.job in
    Left j.bytes.now (zone_fault j.bytes.now z) (counts_left j.bytes.now (count_at j.bytes.now j.at) z.marks) (count_at j.bytes.now j.at) to.bytes to.at
keyed g c =
    let o = c.in_ok-before.ensures in
    went (none c.args.job.now.bytes (place_of c.args.job.now.at c.args.before.now)) o.fault o.bytes o.next

counted : (g : Over) (c : In_ok-count g) → let j = c.args.job.now in let z = place_of j.at c.args.before.now in let to = c.item.new.self in
    Left j.bytes.now (zone_fault j.bytes.now z) (total_left j.bytes.now (count_at j.bytes.now j.at) z.marks) (count_at j.bytes.now j.at + 2) to.bytes to.at
counted g c =
    let p = keyed g c.before.before.before.before in
    let o = c.in_ok-count.ensures in
    went p (o.fault ∙ rw (p.of, p.is)) o.bytes (o.next ∙ rw p.is)

-- the count that was read
count_is : (g : Over) (c : In_ok-count g) → let j = c.args.job.now in c.in_ok-count.count ≡ u16 j.bytes.now (count_at j.bytes.now j.at)
count_is g c =
    let p = keyed g c.before.before.before.before in
    rw (p.of, p.is) at c.in_ok-count.ensures.value.0

-- the marks are few enough
under :
    {s : List ℕ} {all n at : ℕ} {bytes : Bor (List ℕ)} (count marks : ℕ) → Left s all (total_left s count marks) n bytes at → marks + u16 s count ≤ 2000
    → Left s all (number_left s count) n bytes at
under {s} count marks p h = record { of = p.of; is = p.is; rows = row_has (marks + u16 s count) 2000 12 _ h refl ∙ p.rows }

numbered : (g : Over) (c : In_ok-item g) → let j = c.args.job.now in let z = place_of j.at c.args.before.now in let to = c.item-2.new.self in
    Left j.bytes.now (zone_fault j.bytes.now z) (pieces_left j.bytes.now (count_at j.bytes.now j.at)) (count_at j.bytes.now j.at + 3) to.bytes to.at
numbered g c =
    let j = c.args.job.now in
    let at = c.before.before.before.before.before.before in
    let p = under (count_at j.bytes.now j.at) c.args.before.now.marks (counted g at) (omega (arith, count_is g at)) in
    let o = c.in_ok-item.ensures in
    went p (o.fault ∙ rw (p.of, p.is)) o.bytes (omega (arith, o.next, p.is))

pub returns-in_err-before-clause-fault : goal.returns-in_err-before-clause-fault
returns-in_err-before-clause-fault g c =
    stops _ (none c.args.job.now.bytes (place_of c.args.job.now.at c.args.before.now)) _ _ c.in_err-before.ensures.fault c.from_residual.ensures.1

pub returns-in_err-count-clause-fault : goal.returns-in_err-count-clause-fault
returns-in_err-count-clause-fault g c =
    let p = keyed g (goal.at.returns-in_err-count-clause-fault g c).In_ok-before in
    stops _ p _ _ (c.in_err-count.ensures.fault ∙ rw (p.of, p.is)) c.from_residual-in_err-count.ensures.1

pub returns-then-too_many-clause-fault : goal.returns-then-too_many-clause-fault
returns-then-too_many-clause-fault g c =
    let at = (goal.at.returns-then-too_many-clause-fault g c).In_ok-count in
    let p = counted g at in
    row_lacks _ 2000 12 _ (omega (arith, count_is g at)) (omega arith) refl ∙ p.rows

pub returns-in_err-item-clause-fault : goal.returns-in_err-item-clause-fault
returns-in_err-item-clause-fault g c =
    let j = c.args.job.now in
    let at = (goal.at.returns-in_err-item-clause-fault g c).In_ok-count in
    let p = under (count_at j.bytes.now j.at) c.args.before.now.marks (counted g at) (omega (arith, count_is g at)) in
    stops _ p _ _ (c.in_err-item.ensures.fault ∙ rw (p.of, p.is)) c.from_residual-in_err-item.ensures.1

pub read_pieces-requires : goal.read_pieces-requires
unfolding count_at
read_pieces-requires g c =
    let p = numbered g (goal.at.read_pieces-requires g c).In_ok-item in
    let r = c.requires in
    let n = c.in_ok-item.ensures.value.2 in
    (search rules, (rw p.of (omega (arith, r.point_room, p.is)), (omega (arith, r.ring_room, n), omega (arith, r.piece_room, n))))

-- the number of pieces that was read
number_is : (g : Over) (c : In_ok-item g) → let j = c.args.job.now in c.in_ok-item.field-0 ≡ pieces_at j.bytes.now j.at
number_is g c =
    let p = counted g c.before.before.before.before.before.before in
    rw (p.of, p.is) at c.in_ok-item.ensures.value.0

pub overflow_add-row : goal.overflow_add-row
overflow_add-row g c =
    let j = c.args.job.now in
    let l = key_inside j.bytes.now j.at _ (sym c.in_ok-before.ensures.fault) in
    omega (arith, l)

pub returns-in_err-read_pieces-clause-fault : goal.returns-in_err-read_pieces-clause-fault
returns-in_err-read_pieces-clause-fault g c =
    let at = (goal.at.returns-in_err-read_pieces-clause-fault g c).In_ok-item in
    let p = numbered g at in
    ends p _ _ (c.in_err-read_pieces.ensures.fault ∙ rw (p.of, p.is, number_is g at)) c.from_residual-in_err-read_pieces.ensures.1

pub returns-clause-fault : goal.returns-clause-fault
returns-clause-fault g c =
    let at = (goal.at.returns-clause-fault g c).In_ok-item in
    let p = numbered g at in
    rw (p.of, p.is, number_is g at) at c.in_ok-read_pieces.ensures.fault ∙ p.rows

pub returns-clause-read : goal.returns-clause-read
unfolding zone_end zone_points zone_sizes zone_rings row_at zone_next
returns-clause-read g c =
    let e = goal.at.returns-clause-read g c in
    let p = numbered g e.In_ok-item in
    let u = count_is g e.In_ok-count in
    let v = number_is g e.In_ok-item in
    let o = c.in_ok-before.ensures in
    let r = rw (p.of, p.is, v) at c.in_ok-read_pieces.ensures.read in
    let s = c.args.job.now.bytes.now in
    let at = c.args.job.now.at in
    let l : length (key_at s at) ≡ u8 s at = unfold key_at in length_part s (at + 1) (u8 s at) (key_inside s at _ (sym o.fault)) in
    record {
      put = record { at = r.at; few = omega (arith, r.few, count_at_lem s at); points = r.points; sizes = r.sizes; rings = r.rings };
      numbers = rw (o.key, l, u, v);
      place = rw (r.at, o.key, u);
    }
