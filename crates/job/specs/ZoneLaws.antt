-- Laws of keys and zones.
-- Rests on the laws of rows and items, and the kit's laws of lists.
use Rattle.std.specs.Prelude.{ℕ, zero, suc, ◌+◌, ◌-◌, ◌<◌, ◌≤◌, ◌≡◌, refl, true, false, List, length, get_or, take, drop}
use Rattle.std.proofs.Common.{arith}
use borrow.Author.Tests.{lt-ltb, le-ltb, leb-true}
use Rattle.format.specs.Rows.{faults}
use Rattle.format.specs.Numbers.{u8, u16}
use Rattle.format.specs.RowLaws.{both, passed, past_within, length_each}
use Rattle.format.specs.NumberLaws.{item_passed, next_byte_lem}
use Rattle.format.specs.Pieces.{piece_fault, piece_end}
use Rattle.format.specs.PieceLaws.{piece_inside, few_rings_each}
use Rattle.job.specs.Zones.{Place, letter_fault, next_byte, above, key_fault, counts_fault, count_at, pieces_at, opening_fault, zone_fault}
use Rattle.job.specs.Zones.{zone_end, zone_sizes, zone_rings}

-- ---- what has no fault is whole

pub letter_inside : (s : List ℕ) (at : ℕ) → letter_fault s at ≡ 0 → at + 1 ≤ length s
unfolding letter_fault
letter_inside s at e = leb-true (at + 1) (length s) (passed 6 _ (omega arith) (both _ _ e).0)

pub letters_inside : (s : List ℕ) (n at : ℕ) → at ≤ length s → faults (letter_fault s) next_byte n at ≡ 0 → at + n ≤ length s
unfolding faults
letters_inside s zero at h e = omega arith
letters_inside s (suc n) at h e =
    let p = both _ _ e in
    omega (arith, letters_inside s n (at + 1) (letter_inside s at p.0) p.1)

pub key_inside : (s : List ℕ) (at : ℕ) (last : List ℕ) → key_fault s at last ≡ 0 → at + 1 + u8 s at ≤ length s
unfolding key_fault
key_inside s at last e =
    let p = both _ _ e in
    letters_inside s (u8 s at) (at + 1) (item_passed 1 s at 1 32 9 (omega arith) p.0).inside (both _ _ p.1).0

-- the counts are whole and in their ranges
pub record Counted (s : List ℕ) (at marks : ℕ) : Type 0 where
  pub inside : at + 3 ≤ length s
  pub total : marks + u16 s at ≤ 2000
  pub pieces : u8 s (at + 2) ≤ 16

pub counts_passed : (s : List ℕ) (at marks : ℕ) → counts_fault s at marks ≡ 0 → Counted s at marks
unfolding counts_fault
counts_passed s at marks e =
    let p = (both _ _ e).1 in
    let q = item_passed 1 s (at + 2) 0 16 9 (omega arith) (both _ _ p).1 in
    record {
      inside = omega (arith, q.inside);
      total = leb-true (marks + u16 s at) 2000 (passed 12 _ (omega arith) (both _ _ p).0);
      pieces = q.to;
    }

pub opening_passed : (s : List ℕ) (z : Place) → opening_fault s z ≡ 0 → Counted s (count_at s z.at) z.marks
unfolding opening_fault
opening_passed s z e = counts_passed s (count_at s z.at) z.marks (both _ _ e).1

pub zone_inside : (s : List ℕ) (z : Place) → zone_fault s z ≡ 0 → zone_end s z.at ≤ length s
unfolding zone_fault zone_end
zone_inside s z e =
    let p = both _ _ e in
    past_within (piece_fault s) (piece_end s) (length s) (piece_inside s) (pieces_at s z.at) (count_at s z.at + 3) (opening_passed s z p.0).inside p.1

pub count_at_lem : (s : List ℕ) (at : ℕ) → count_at s at ≡ at + 1 + u8 s at
unfolding count_at
count_at_lem s at = refl

-- ---- how much a zone without fault puts into the slices

pub record Few (s : List ℕ) (at : ℕ) : Type 0 where
  pub sizes : length (zone_sizes s at) ≤ 144
  pub rings : length (zone_rings s at) ≤ 16

pub zone_few : (s : List ℕ) (z : Place) → zone_fault s z ≡ 0 → Few s z.at
unfolding zone_fault zone_sizes zone_rings
zone_few s z e =
    let p = both _ _ e in
    let c = opening_passed s z p.0 in
    record {
      sizes = omega (arith, c.pieces, few_rings_each s (pieces_at s z.at) (count_at s z.at + 3) p.1);
      rings = omega (arith, c.pieces, length_each (piece_end s) (u8 s) (pieces_at s z.at) (count_at s z.at + 3));
    }

-- ---- one turn of a comparison of keys

pub above_none : (s : List ℕ) (p x : ℕ) (y : List ℕ) → x ≤ 0 → above (take x (drop p s)) y ≡ false
unfolding above
above_none s p zero y h = refl
above_none s p (suc x) y h = absurd (omega arith)

module _ (s : List ℕ) (p x q y : ℕ) (some : 0 < x) (in_p : p + x ≤ length s) where
  pub above_short : y ≡ 0 → above (take x (drop p s)) (take y (drop q s)) ≡ true
  unfolding above
  above_short h = rw (h, next_byte_lem s p x some in_p)

  module _ (also : 0 < y) (in-q : q + y ≤ length s) where
    pub above_more : get_or s q 0 < get_or s p 0 → above (take x (drop p s)) (take y (drop q s)) ≡ true
    unfolding above
    above_more h = rw (next_byte_lem s p x some in_p, next_byte_lem s q y also in-q, lt-ltb (get_or s q 0) (get_or s p 0) h)

    pub above_less : get_or s p 0 < get_or s q 0 → above (take x (drop p s)) (take y (drop q s)) ≡ false
    unfolding above
    above_less h =
        let below = le-ltb (get_or s q 0) (get_or s p 0) (omega arith) in
        rw (next_byte_lem s p x some in_p, next_byte_lem s q y also in-q, below, lt-ltb (get_or s p 0) (get_or s q 0) h)

    pub above_same :
        get_or s p 0 ≤ get_or s q 0 → get_or s q 0 ≤ get_or s p 0
        → above (take x (drop p s)) (take y (drop q s)) ≡ above (take (x - 1) (drop (p + 1) s)) (take (y - 1) (drop (q + 1) s))
    unfolding above
    above_same h g =
        rw (next_byte_lem s p x some in_p, next_byte_lem s q y also in-q, le-ltb (get_or s q 0) (get_or s p 0) h, le-ltb (get_or s p 0) (get_or s q 0) g)
