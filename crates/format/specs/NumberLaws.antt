-- Laws of numbers and items.
-- Rests on the laws of rows.
use Rattle.std.specs.Prelude.{ℕ, zero, suc, ◌+◌, ◌-◌, ◌*◌, ◌/◌, ◌%◌, ◌^◌, ◌<◌, ◌≤◌, min, ◌≡◌, Bool, ◌&&◌, List, [], ◌∷◌, length, get_or, take, drop, set}
use Rattle.std.specs.Prelude.{leb, Float}
use Rattle.std.proofs.Math.Path.{refl}
use Rattle.std.proofs.Common.{◌∙◌, arith, add-one, length-append, length-take, length-drop, drop-cons, leb→le, pow-suc}
use Rattle.std.proofs.Math.Bool.{true, false}
use Rattle.std.proofs.lemmas.List.Edits.{sets}
use Rattle.std.proofs.lemmas.List.{set_comm}
use Rattle.std.specs.Float.{nan, inf, fin, binary64}
use Rattle.std.specs.Float.Ieee.{is_nan, to_bits}
use Rattle.std.proofs.Math.Nat.{pow-le-pow_right}
use borrow.Author.Tests.{leb-true, le-leb, lt-leb}
use Rattle.std.proofs.Math.Facts.{and_yes}
use Rattle.laws.specs.Truth.{yes}
use Rattle.format.specs.Rows.{faults, past}
use Rattle.format.specs.Numbers.{uint, bytes, item, coord_in, next_coord, point_in, next_point}
use Rattle.format.specs.RowLaws.{passed, both, row_has, row_lacks, last_true, last_false, sets_append, faults_by}

-- one digit more
pub digit_room : (n v b : ℕ) → n < 8 → v < 256 ^ n → b < 256 → (v * 256 + b < 256 ^ (n + 1)) × (v * 256 + b < 2 ^ 64)
digit_room n v b h l d =
    let e : 256 ^ (n + 1) ≡ 256 ^ n * 256 = rw add-one (pow-suc 256 n) in
    let m : 256 ^ (n + 1) ≤ 256 ^ 8 = pow-le-pow_right {n = 256} (omega arith) {i = n + 1} {j = 8} (omega arith) in
    (omega arith, omega arith)

and_false : (a : Bool) → false ≡ a && false
and_false true = refl
and_false false = refl

-- an item without fault is whole and in its range
pub record Passed (n : ℕ) (s : List ℕ) (at least most : ℕ) : Type 0 where
  pub inside : at + n ≤ length s
  pub from : least ≤ uint n s at
  pub to : uint n s at ≤ most

pub item_passed : (n : ℕ) (s : List ℕ) (at least most number : ℕ) → 0 < number → item n s at least most number ≡ 0 → Passed n s at least most
unfolding item
item_passed n s at least most number h e =
    let p = both _ _ e in
    let q = and_yes (leb least (uint n s at)) (leb (uint n s at) most) (yes (passed number _ h p.1)) in
    record {
      inside = leb-true (at + n) (length s) (passed 6 _ (omega arith) p.0);
      from = leb→le least (uint n s at) q.0;
      to = leb→le (uint n s at) most q.1;
    }

-- what an item's fault is, v being its number
module _ {r : ℕ} (n : ℕ) (s : List ℕ) (at least most number : ℕ) where
  pub item_cut : length s < at + n → r ≡ 6 → r ≡ item n s at least most number
  unfolding item
  item_cut h e = row_lacks (at + n) (length s) 6 _ h (omega arith) e

  module _ (v : ℕ) (inside : at + n ≤ length s) (is : v ≡ uint n s at) where
    pub item_low : v < least → r ≡ number → r ≡ item n s at least most number
    unfolding item
    item_low h e = row_has (at + n) (length s) 6 _ inside (last_false _ false number (rw (← is, lt-leb least v h)) refl e)

    pub item_high : most < v → r ≡ number → r ≡ item n s at least most number
    unfolding item
    item_high h e = row_has (at + n) (length s) 6 _ inside (last_false _ false number (rw (← is, lt-leb v most h) (and_false (leb least v))) refl e)

    pub item_fine : least ≤ v → v ≤ most → r ≡ 0 → r ≡ item n s at least most number
    unfolding item
    item_fine g h e = row_has (at + n) (length s) 6 _ inside (last_true _ true number (rw (← is, le-leb least v g, le-leb v most h)) refl e)

pub coord_inside : (s : List ℕ) (number at : ℕ) → coord_in s number at ≡ 0 → at + 4 ≤ length s
unfolding coord_in
coord_inside s number at e = leb-true (at + 4) (length s) (passed 6 _ (omega arith) (both _ _ e).0)

pub coords_inside : (s : List ℕ) (number n at : ℕ) → at ≤ length s → faults (coord_in s number) next_coord n at ≡ 0 → at + 4 * n ≤ length s
unfolding faults
coords_inside s number zero at h e = omega arith
coords_inside s number (suc n) at h e =
    let p = both (coord_in s number at) (faults (coord_in s number) next_coord n (at + 4)) e in
    omega (arith, coords_inside s number n (at + 4) (coord_inside s number at p.0) p.1)

pub point_inside : (s : List ℕ) (number at : ℕ) → point_in s number at ≡ 0 → at + 8 ≤ length s
unfolding point_in faults
point_inside s number at e = omega (arith, coord_inside s number (at + 4) (both _ _ (both _ _ e).1).0)

-- the faults of points are those of their coordinates, in order
pub faults_points : (s : List ℕ) (number n at : ℕ) → faults (coord_in s number) next_coord (2 * n) at ≡ faults (point_in s number) next_point n at
unfolding point_in
faults_points s number = faults_by (coord_in s number) next_coord next_point 2 (λ at. unfold past in omega arith)

-- ---- bytes written, the last first

set_behind : {A : Type 0} (l : List A) (k : ℕ) (xs : List A) (j : ℕ) (b : A) → k + length xs ≤ j → set (sets l k xs) j b ≡ sets (set l j b) k xs
set_behind l k [] j b h = refl
set_behind l k (x ∷ xs) j b h = rw (set_behind (set l k x) (suc k) xs j b (omega arith), set_comm l k j x b (λ e. omega arith))

-- two runs of stores, one behind the other, in either order
pub sets_behind : {A : Type 0} (l : List A) (k : ℕ) (xs : List A) (j : ℕ) (ys : List A) → k + length xs ≤ j → sets (sets l j ys) k xs ≡ sets (sets l k xs) j ys
sets_behind l k xs j [] h = refl
sets_behind l k xs j (y ∷ ys) h = sets_behind (set l j y) k xs (suc j) ys (omega arith) ∙ rw (set_behind l k xs j y h)

pub length_bytes : (n v : ℕ) → length (bytes n v) ≡ n
unfolding bytes
length_bytes zero v = refl
length_bytes (suc n) v = simp length-append (omega (arith, length_bytes n (v / 256)))

pub put_last :
    (out : List ℕ) (at n v : ℕ) → 0 < n
    → sets out at (bytes n v) ≡ sets (set out (at + (n - 1)) (v % 256)) at (bytes (n - 1) (v / 256))
unfolding bytes
put_last out at zero v h = absurd (omega arith)
put_last out at (suc n) v h =
    let e : suc n - 1 ≡ n = omega arith in
    let l = length_bytes n (v / 256) in
    rw (e, sets_append out at (bytes n (v / 256)) (v % 256 ∷ []), l) (set_behind out at (bytes n (v / 256)) (at + n) (v % 256) (omega arith))

pub bytes_none : (out : List ℕ) (at n v : ℕ) → n ≤ 0 → sets out at (bytes n v) ≡ out
unfolding bytes
bytes_none out at zero v h = refl
bytes_none out at (suc n) v h = absurd (omega arith)

-- ---- a float's bits

pub nan_bits : (x : Float) → is_nan x ≡ true → to_bits binary64 x ≡ 0x7ff8_0000_0000_0000
unfolding is_nan to_bits
nan_bits nan h = refl
nan_bits (inf s) h = let z : false ≡ true = h in cc
nan_bits (fin s m e) h = let z : false ≡ true = h in cc

-- ---- room for the points that the bytes can hold

pub room_first : (k at from len room n : ℕ) → 8 * k ≤ at → at ≤ from → from ≤ len → len ≤ 8 * room → k + min n ((len - from) / 8) ≤ room
room_first k at from len room n b h i e = omega arith

pub room_turn :
    (k left at len room : ℕ) → 0 < left → at + 8 ≤ len → k + min left ((len - at) / 8) ≤ room
    → (k < room) × (k + 1 + min (left - 1) ((len - (at + 8)) / 8) ≤ room)
room_turn k left at len room m h r =
    let e : (len - at) / 8 ≡ suc ((len - (at + 8)) / 8) = omega arith in
    let q : k + min left (suc ((len - (at + 8)) / 8)) ≤ room = rw e at r in
    (omega arith, omega arith)

-- ---- some bytes: how many, and the first and those after it

pub length_part : (s : List ℕ) (at n : ℕ) → at + n ≤ length s → length (take n (drop at s)) ≡ n
length_part s at n h = simp (length-take, length-drop) (omega arith)

pub next_byte_lem : (s : List ℕ) (at n : ℕ) → 0 < n → at + n ≤ length s → take n (drop at s) ≡ get_or s at 0 ∷ take (n - 1) (drop (at + 1) s)
next_byte_lem s at zero m h = absurd (omega arith)
next_byte_lem s at (suc n) m h =
    let e : suc n - 1 ≡ n = omega arith in
    let l : at < length s = omega arith in
    rw (e, add-one, drop-cons s at 0 l)
