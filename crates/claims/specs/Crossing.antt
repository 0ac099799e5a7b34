-- Where an edge of a job's coordinates crosses a height between its ends, as computed: a number of size 5,120 at most; so is a place inside a ring.
-- Rests on the rounding laws. The ends' heights differ by 1/1024 at least, so the added epsilon hardly changes the divisor.
use Rattle.std.specs.Prelude.{◌≡◌, refl, ◌⊎◌, Bool, true, false, not, T, Float}
use Rattle.std.proofs.Common.{sym, ap, ◌∙◌, inl, inr, le_trans, mul-le-mul, mul-le-mul_right, mul-le-mul_left, mul_left_comm, lit<, pow-add}
use Rattle.std.specs.Bool.{beq}
use Prim.Native.Nat.{ℕ, zero, suc, ◌+◌, ◌*◌, ◌^◌, ◌≤◌, ◌<◌}
use native.Mathlib.Omega.{arith}
use Rattle.std.proofs.Math.Dec.{lit≤}
use Rattle.std.specs.Float.{binary64}
use Rattle.std.specs.Float.Ieee.{fits, of_bits}
use Rattle.float.specs.Ops.{◌+ᶠ◌, ◌-ᶠ◌, ◌*ᶠ◌, ◌/ᶠ◌, ◌<ᶠ◌, ε}
use Rattle.float.specs.Laws.Nan.{lt_number}
use Rattle.float.specs.Laws.Compare.{lt_le, not_lt_le}
use Rattle.rounding.specs.Signed.{Exact, signed, signed_le, ◌⊕◌, ◌⊖◌, ◌≼◌, ◌≺◌, ◌≈◌}
use Rattle.rounding.specs.Value.{U, sgn, mag, val, Num, Digits, digits, digits_at, digits_whole}
use Rattle.rounding.specs.Comparison.{lt→≺, ¬lt→≼}
use Rattle.rounding.specs.Errors.{Rounding, Product, Quotient}
use Rattle.rounding.proofs.Errors.{sub_of_finite, add_of_finite, mul_of_finite, div_law}
use Rattle.rounding.specs.Bounds.{Sized, ranged}
use Rattle.rounding.proofs.Bounds.{add_sized, sub_sized, mul_sized}
use Rattle.rounding.specs.Exactness.{Sum}
use Rattle.rounding.proofs.Exactness.{sub_exact}
use Rattle.regions.specs.Sizes.{sized_number}
use Rattle.format.specs.Exact.{Coordinate, coordinate_sized}
use Rattle.claims.specs.Straddle.{straddles, crossing}

-- ---- which end is above y
unfoldable pub Spans : Float → Float → Float → Type 0
Spans y yi yj = (T (y <ᶠ yi) × T (not (y <ᶠ yj))) ⊎ (T (y <ᶠ yj) × T (not (y <ᶠ yi)))

pub spans : (y yi yj : Float) → straddles y yi yj ≡ true → Spans y yi yj
unfolding Spans
spans y yi yj e = go (y <ᶠ yi) (y <ᶠ yj) e
  where
    go : (a b : Bool) → not (beq a b) ≡ true → (T a × T (not b)) ⊎ (T b × T (not a))
    go true false e = inl (tt, tt)
    go false true e = inr (tt, tt)
    go true true e = let z : ◌≡◌ {A = ℕ} 0 1 = cc in absurd (omega arith)
    go false false e = let z : ◌≡◌ {A = ℕ} 0 1 = cc in absurd (omega arith)

pub height_sized : (y yi yj : Float) → T (fits binary64 y) → Coordinate yi → Coordinate yj → Spans y yi yj → Sized y 1024
unfolding Spans
height_sized y yi yj f ci cj (inl h) =
    ranged f (coordinate_sized cj) (coordinate_sized ci) (not_lt_le yj y (sized_number (coordinate_sized cj)) (lt_number y yi h.0).0 h.1) (lt_le y yi h.0)
height_sized y yi yj f ci cj (inr h) =
    ranged f (coordinate_sized ci) (coordinate_sized cj) (not_lt_le yi y (sized_number (coordinate_sized ci)) (lt_number y yj h.0).0 h.1) (lt_le y yj h.0)

-- the exact heights, in order
abbrev pub Ordered : Exact → Exact → Exact → Type 0
Ordered y i j = ((y ≺ i) × (j ≼ y)) ⊎ ((y ≺ j) × (i ≼ y))

pub ordered : (y yi yj : Float) → Num y → Num yi → Num yj → Spans y yi yj → Ordered (val y) (val yi) (val yj)
unfolding Spans
ordered y yi yj p q r (inl h) = inl (lt→≺ y yi p q h.0, ¬lt→≼ y yj p r h.1)
ordered y yi yj p q r (inr h) = inr (lt→≺ y yj p r h.0, ¬lt→≼ y yi p q h.1)

-- ---- numbers only: D of size d is j - i, and y lies between
rise_above : (y i j D : Exact) (d : ℕ) → Ordered y i j → D ≈ j ⊖ i → D.p ≤ d → D.n ≤ d → 0 < d
rise_above y i j D d (inl h) e p n = omega arith
rise_above y i j D d (inr h) e p n = omega arith

part_below : (y i j D : Exact) (d : ℕ) → Ordered y i j → D ≈ j ⊖ i → D.p ≤ d → D.n ≤ d → (signed true d ≼ y ⊖ i) × (y ⊖ i ≼ signed false d)
part_below y i j D d (inl h) e p n = (omega arith, omega arith)
part_below y i j D d (inr h) e p n = (omega arith, omega arith)

size_inside : (s : Bool) (m g : ℕ) → signed true g ≼ signed s m → signed s m ≼ signed false g → m ≤ g
size_inside false m g l h = omega arith
size_inside true m g l h = omega arith

-- 1/1024 and its half, and epsilon, in units
pub epsilon_mag : mag ε ≡ 2 ^ 1022
unfolding of_bits mag U
epsilon_mag = refl

epsilon_plus : sgn ε ≡ false
unfolding of_bits sgn
epsilon_plus = refl

pub epsilon_sized : Sized ε 1
epsilon_sized = record { num = unfold of_bits fits in record { fit = tt; fine = tt }; size = unfold of_bits mag U in lit≤ tt }

-- half of 1/1024, in units
unfoldable half : ℕ
half = 2 ^ 1063

halves : (c : ℕ) → c * 2 ^ 1064 ≡ 2 * (c * half)
unfolding half
halves c = ap (λ (z : ℕ). c * z) (pow-add 2 1 1063) ∙ mul_left_comm c 2 (2 ^ 1063)

epsilon_small : mag ε ≤ half
unfolding half
epsilon_small = rw epsilon_mag (lit≤ tt)

-- A is 2 h in size, and h at most is added to it: h at least is left
left_over :
    (s t d : Bool) (A h e m : ℕ) → A ≡ 2 * h → t ≡ false → e ≤ h
    → ((b : Bool) → signed b h ≼ signed s A ⊕ signed t e → signed b h ≼ signed d m)
    → ((b : Bool) → signed s A ⊕ signed t e ≼ signed b h → signed d m ≼ signed b h) → h ≤ m
left_over false false false A h e m q p l least most = omega (arith, least false (omega arith))
left_over false false true A h e m q p l least most = omega (arith, least false (omega arith))
left_over true false false A h e m q p l least most = omega (arith, most true (omega arith))
left_over true false true A h e m q p l least most = omega (arith, most true (omega arith))
left_over s true d A h e m q p l least most = let z : ◌≡◌ {A = ℕ} 0 1 = cc in absurd (omega arith)

digits_scaled : {g : ℕ} → Digits g → Digits (2048 * g)
digits_scaled {g} d =
    record {
      q = d.q;
      j = 11 + d.j;
      small = d.small;
      is = ap (λ (z : ℕ). 2048 * z) d.is ∙ mul_left_comm 2048 d.q (2 ^ d.j) ∙ ap (λ (z : ℕ). d.q * z) (sym (pow-add 2 11 d.j));
    }

-- ---- the floats
pub record Crossed (y xi yi xj yj : Float) : Type 0 where
  pub high : Sized y 1024
  pub rise : Sum (yj -ᶠ yi) (val yj ⊖ val yi) 1064 2097152
  pub above : 0 < rise.count
  pub run : Sum (xj -ᶠ xi) (val xj ⊖ val xi) 1064 2097152
  pub run_sized : Sized (xj -ᶠ xi) 2048
  pub part : Rounding (y -ᶠ yi) (val y ⊖ val yi)
  pub part_size : mag (y -ᶠ yi) ≤ mag (yj -ᶠ yi)
  pub divisor : Rounding (yj -ᶠ yi +ᶠ ε) (val (yj -ᶠ yi) ⊕ val ε)
  pub divisor_size : mag (yj -ᶠ yi) ≤ 2 * mag (yj -ᶠ yi +ᶠ ε)
  pub product : Product (xj -ᶠ xi) (y -ᶠ yi) ((xj -ᶠ xi) *ᶠ (y -ᶠ yi))
  pub quotient : Quotient ((xj -ᶠ xi) *ᶠ (y -ᶠ yi)) (yj -ᶠ yi +ᶠ ε) ((xj -ᶠ xi) *ᶠ (y -ᶠ yi) /ᶠ (yj -ᶠ yi +ᶠ ε))
  pub quotient_size : Sized ((xj -ᶠ xi) *ᶠ (y -ᶠ yi) /ᶠ (yj -ᶠ yi +ᶠ ε)) 4096
  pub sized : Sized (crossing y xi yi xj yj) 5120

pub difference : {x y : Float} → Coordinate x → Coordinate y → Sum (x -ᶠ y) (val x ⊖ val y) 1064 2097152
difference c d =
    let s = sub_exact c.multiple d.multiple (omega (arith, c.few, d.few)) (omega arith) in
    record { value = s.value; count = s.count; few = omega (arith, s.few, c.few, d.few); multiple = s.multiple }

pub crossed :
    (y xi yi xj yj : Float) → T (fits binary64 y) → Coordinate xi → Coordinate yi → Coordinate xj → Coordinate yj → Spans y yi yj → Crossed y xi yi xj yj
crossed y xi yi xj yj f cxi cyi cxj cyj h =
    let A = yj -ᶠ yi in
    let d = A +ᶠ ε in
    let X = xj -ᶠ xi in
    let w = y -ᶠ yi in
    let p = X *ᶠ w in
    let Y = height_sized y yi yj f cyi cyj h in
    let o = ordered y yi yj Y.num cyi.multiple.num cyj.multiple.num h in
    let rise = difference cyj cyi in
    let a = signed_le (sgn A) (mag A) in
    let a0 : 0 < mag A = rise_above (val y) (val yi) (val yj) (val A) (mag A) o rise.value a.0 a.1 in
    let c0 : 0 < rise.count = positive rise.count (2 ^ 1064) (mag A) rise.multiple.is a0 in
    let A' : Sized A 2048 = sub_sized (coordinate_sized cyj) (coordinate_sized cyi) (lit< tt) in
    let X' : Sized X 2048 = sub_sized (coordinate_sized cxj) (coordinate_sized cxi) (lit< tt) in
    let w' : Sized w 2048 = sub_sized Y (coordinate_sized cyi) (lit< tt) in
    let d' : Sized d 2049 = add_sized A' epsilon_sized (lit< tt) in
    let p' : Sized p 4194304 = mul_sized X' w' (lit< tt) in
    let part = sub_of_finite y yi Y.num cyi.multiple.num w'.num.fine in
    let between = part_below (val y) (val yi) (val yj) (val A) (mag A) o rise.value a.0 a.1 in
    let dg = digits A A'.num in
    let part_size : mag w ≤ mag A = size_inside (sgn w) (mag w) (mag A) (part.least true (mag A) dg between.0) (part.most false (mag A) dg between.1) in
    let divisor = add_of_finite A ε A'.num epsilon_sized.num d'.num.fine in
    let twice : mag A ≡ 2 * (rise.count * half) = rise.multiple.is ∙ halves rise.count in
    let dh : Digits (rise.count * half) = unfold half in digits_at rise.count 1063 (omega (arith, rise.few)) in
    let l : rise.count * half ≤ mag d = left_over (sgn A) (sgn ε) (sgn d) (mag A) (rise.count * half) (mag ε) (mag d) twice epsilon_plus
    (le_trans epsilon_small (least_of rise.count half c0))
    (λ b k. divisor.least b (rise.count * half) dh k) (λ b k. divisor.most b (rise.count * half) dh k) in
    let divisor_size : mag A ≤ 2 * mag d = omega (arith, twice, l) in
    let product = mul_of_finite X w X'.num w'.num p'.num.fine in
    let p-size : mag p ≤ 2048 * mag A = product.most (2048 * mag A) (digits_scaled dg) (le_trans (mul-le-mul X'.size part_size) (omega arith)) in
    let quotient = div_law p d p'.num d'.num (omega (arith, a0, divisor_size)) (omega (arith, p-size, divisor_size)) in
    let q' : Sized (p /ᶠ d) 4096 =
    record {
      num = quotient.num;
      size =
          quotient.most (4096 * U) (digits_whole 4096 (lit< tt))
          (le_trans (mul-le-mul_right U (le_trans p-size (mul-le-mul_left 2048 divisor_size))) (omega arith));
    } in
    record {
      high = Y;
      rise = rise;
      above = c0;
      run = difference cxj cxi;
      run_sized = X';
      part = part;
      part_size = part_size;
      divisor = divisor;
      divisor_size = divisor_size;
      product = product;
      quotient = quotient;
      quotient_size = q';
      sized = add_sized q' (coordinate_sized cxi) (lit< tt);
    }
  where
    positive : (c g m : ℕ) → m ≡ c * g → 0 < m → 0 < c
    positive zero g m e h = absurd (omega arith)
    positive (suc c) g m e h = omega arith

    least_of : (c g : ℕ) → 0 < c → g ≤ c * g
    least_of zero g h = absurd (omega arith)
    least_of (suc c) g h = omega arith
