-- The square of the distance from a place to a point of an edge, against that to where the edge crosses the place's height, in exact numbers.
-- Rests on an identity: a point of the edge on the foot's side of the crossing, but for an error, is no farther than the crossing, but for that error.
use Rattle.std.specs.Prelude.{◌≡◌, ◌⊎◌, ℕ, ◌+◌, ◌*◌, ◌≤◌, ◌<◌}
use Rattle.std.proofs.Common.{ap, inl, inr, le_trans, le_of_eq, le_of_mul-le-mul_right, mul-le-mul, mul-le-mul_left, mul-le-mul_right, mul-pos, arith}
use Rattle.std.proofs.Math.Nat.{le_dest}
use Rattle.laws.specs.Orders.{lt_or_le}
use Rattle.rounding.specs.Signed.{Exact, nat, opp, abs, abs_square, ◌⊕◌, ◌⊖◌, ◌⊗◌, ◌≼◌, ◌≈◌}

-- ---- products of signed numbers
pub square_le : (X : Exact) (m : ℕ) → X ≼ nat m → opp X ≼ nat m → X ⊗ X ≼ nat (m * m)
square_le X m h k =
    let l : abs X ≤ m = omega arith in
    omega (arith, abs_square X, mul-le-mul l l)

product_le : (B R : Exact) (b r : ℕ) → nat 0 ≼ B → B ≼ nat b → R ≼ nat r → B ⊗ R ≼ nat (b * r)
product_le B R b r o h k = let l : B.n ≤ B.p = omega arith in let d = le_dest l in go B.p B.n d.0 R.p R.n d.1 (omega (arith, d.1)) (omega arith)
  where
    go : (p n β p' n' : ℕ) → n + β ≡ p → β ≤ b → p' ≤ r + n' → p * p' + n * n' + 0 ≤ b * r + (p * n' + n * p')
    go p n β p' n' e l m = rw (← e) (omega (arith, mul-le-mul_left β m, mul-le-mul_right r l))

times : (A B : Exact) (a b : ℕ) → A ≈ nat a → B ≈ nat b → A ⊗ B ≈ nat (a * b)
times A B a b e f = go A.p A.n B.p B.n (omega arith) (omega arith)
  where
    go : (p n p' n' : ℕ) → p ≡ a + n → p' ≡ b + n' → p * p' + n * n' + 0 ≡ a * b + (p * n' + n * p')
    go p n p' n' e f = rw (e, f) (omega arith)

-- (a b)² is a² b²
squares : (A B : Exact) → (A ⊗ B) ⊗ (A ⊗ B) ≈ (A ⊗ A) ⊗ (B ⊗ B)
squares A B = omega arith

swapped : (A B C D : Exact) → (A ⊗ B) ⊗ (C ⊗ D) ≈ (C ⊗ B) ⊗ (A ⊗ D)
swapped A B C D = omega arith

less_square : (A C : Exact) → (A ⊖ C) ⊗ (A ⊖ C) ≈ A ⊗ A ⊕ C ⊗ C ⊖ A ⊗ C ⊖ A ⊗ C
less_square A C = omega arith

spread : (B F : Exact) → B ⊗ (F ⊕ B) ≈ B ⊗ F ⊕ B ⊗ B
spread B F = omega arith

-- ---- (P, Q) leads from a point of the edge's line to the place, and (dx, dy) along the edge, dy of size w
sum_up :
    (AA CC Ac BF BB X Y A' B' : Exact) (a b c m r : ℕ)
    → X ≈ AA ⊕ CC ⊖ Ac ⊖ Ac → Y ≈ BF ⊕ BB → Ac ≈ BF → AA ≈ A' → A' ≈ nat a
    → BB ≈ B' → B' ≈ nat b → nat c ≈ CC → X ≼ nat m → Y ≼ nat r → a + b ≤ m + 2 * r
sum_up AA CC Ac BF BB X Y A' B' a b c m r e f g h h' i i' j k l = omega arith

pub closest :
    (P Q dx dy : Exact) (w m b r : ℕ) → dy ⊗ dy ≈ nat (w * w) → P ⊗ dy ⊖ Q ⊗ dx ≼ nat m → opp (P ⊗ dy ⊖ Q ⊗ dx) ≼ nat m
    → (Q ⊗ dy) ⊗ (P ⊗ dx ⊕ Q ⊗ dy) ≼ nat (b * r)
    → (abs P * abs P + abs Q * abs Q) * (w * w) ≤ m * m + 2 * (b * r)
closest P Q dx dy w m b r W h k l =
    let a = abs P * abs P in
    let q = abs Q * abs Q in
    let A = P ⊗ dy in
    let B = Q ⊗ dy in
    let C = Q ⊗ dx in
    let F = P ⊗ dx in
    let pp : P ⊗ P ≈ nat a = omega (arith, abs_square P) in
    let qq : Q ⊗ Q ≈ nat q = omega (arith, abs_square Q) in
    le_trans (le_of_eq (apart a q (w * w)))
    (sum_up (A ⊗ A) (C ⊗ C) (A ⊗ C) (B ⊗ F) (B ⊗ B) ((A ⊖ C) ⊗ (A ⊖ C)) (B ⊗ (F ⊕ B)) ((P ⊗ P) ⊗ (dy ⊗ dy)) ((Q ⊗ Q) ⊗ (dy ⊗ dy)) (a * (w * w)) (q * (w * w))
    (abs C * abs C) (m * m) (b * r)
    (less_square A C) (spread B F) (swapped P dy Q dx) (squares P dy) (times (P ⊗ P) (dy ⊗ dy) a (w * w) pp W) (squares Q dy)
    (times (Q ⊗ Q) (dy ⊗ dy) q (w * w) qq W) (abs_square C) (square_le (A ⊖ C) m h k) l)
  where
    apart : (a q v : ℕ) → (a + q) * v ≡ a * v + q * v
    apart a q v = omega arith

-- B of size b at most and R: above r only where B is not above 0, below -r only where it is not below
pub record Leans (B R : Exact) (b r : ℕ) : Type 0 where
  pub small : (B ≼ nat b) × (opp B ≼ nat b)
  pub side : ((nat 0 ≼ B) × (R ≼ nat r)) ⊎ ((B ≼ nat 0) × (opp R ≼ nat r))

pub leans : (B R : Exact) (b r : ℕ) → Leans B R b r → B ⊗ R ≼ nat (b * r)
leans B R b r l =
    elim l.side [
      | inl h ↦ product_le B R b r h.0 l.small.0 h.1
      | inr h ↦ let k = product_le (opp B) (opp R) b r (omega (arith, h.0)) l.small.1 h.1 in omega (arith, k)
    ]

-- ---- T / u along an edge from a to b, as the nearest point is found: D is (place - a) times (b - a), L the edge's square, e an error
pub data Foot (D L : Exact) (u T e : ℕ) : Type 0 where
  first : T ≡ 0 → D ≼ nat e → Foot D L u T e
  last : T ≡ u → L ⊖ D ≼ nat e → Foot D L u T e
  inner : nat u ⊗ D ⊖ nat T ⊗ L ≼ nat (u * e) → nat T ⊗ L ⊖ nat u ⊗ D ≼ nat (u * e) → Foot D L u T e

scale_le : (X : Exact) (u m : ℕ) → X ≼ nat m → nat u ⊗ X ≼ nat (u * m)
scale_le X u m h = omega (arith, mul-le-mul_left u h)

sides :
    (z D L B R : Exact) (u T w e : ℕ) → B ≈ nat u ⊗ z ⊖ nat (T * w) → R ≈ nat u ⊗ D ⊖ nat T ⊗ L → nat 0 ≼ z → z ≼ nat w → T ≤ u → Foot D L u T e
    → Leans B R (u * w) (u * e)
sides z D L B R u T w e b r o h l f =
    let t = scale_le z u w h in
    let s : 0 ≤ u * w = omega arith in
    let k = mul-le-mul_right w l in
    let n = mul-le-mul_left u o in
    record { small = (omega arith, omega arith); side = side f }
  where
    side : Foot D L u T e → ((nat 0 ≼ B) × (R ≼ nat (u * e))) ⊎ ((B ≼ nat 0) × (opp R ≼ nat (u * e)))
    side (first q d) =
        inl (omega (arith, mul-le-mul_left u o, ap (λ (y : ℕ). y * w) q), omega (arith, scale_le D u e d, ap (λ (y : ℕ). y * L.p) q, ap (λ (y : ℕ). y * L.n) q))
    side (last q d) =
        inr (
          omega (arith, scale_le z u w h, ap (λ (y : ℕ). y * w) q),
          omega (arith, scale_le (L ⊖ D) u e d, ap (λ (y : ℕ). y * L.p) q, ap (λ (y : ℕ). y * L.n) q),
        )
    side (inner p q) = elim (lt_or_le B.p B.n) [ inl g ↦ inr (omega arith, omega arith) | inr g ↦ inl (omega arith, omega arith) ]

-- g and v lead from a to the place; the crossing is K at most from it
pub record Across (g v dx dy : Exact) (w K : ℕ) : Type 0 where
  pub height : dy ⊗ dy ≈ nat (w * w)
  pub above : 0 < w
  pub from : nat 0 ≼ v ⊗ dy
  pub to : v ⊗ dy ≼ nat (w * w)
  pub right : g ⊗ dy ⊖ v ⊗ dx ≼ nat (K * w)
  pub left : opp (g ⊗ dy ⊖ v ⊗ dx) ≼ nat (K * w)

module _ (g v dx dy : Exact) (u T : ℕ) where
  -- from the point T / u along the edge to the place, times u
  abbrev pub across_from : Exact
  across_from = nat u ⊗ g ⊖ nat T ⊗ dx

  abbrev pub along_from : Exact
  along_from = nat u ⊗ v ⊖ nat T ⊗ dy

  part : (g d m : Exact) → (nat u ⊗ g ⊖ nat T ⊗ d) ⊗ m ≈ nat u ⊗ (g ⊗ m) ⊖ nat T ⊗ (d ⊗ m)
  part g d m = omega arith

  turn : across_from ⊗ dy ⊖ along_from ⊗ dx ≈ nat u ⊗ (g ⊗ dy ⊖ v ⊗ dx)
  turn = join (across_from ⊗ dy) (along_from ⊗ dx) (g ⊗ dy) (v ⊗ dx) (dx ⊗ dy) (dy ⊗ dx) (part g dx dy) (part v dy dx) (both dx dy)
    where
      both : (x y : Exact) → nat T ⊗ (x ⊗ y) ≈ nat T ⊗ (y ⊗ x)
      both x y = omega arith

      join : (A C a c x y : Exact) → A ≈ nat u ⊗ a ⊖ nat T ⊗ x → C ≈ nat u ⊗ c ⊖ nat T ⊗ y → nat T ⊗ x ≈ nat T ⊗ y → A ⊖ C ≈ nat u ⊗ (a ⊖ c)
      join A C a c x y e f h = omega arith

  rest : across_from ⊗ dx ⊕ along_from ⊗ dy ≈ nat u ⊗ (g ⊗ dx ⊕ v ⊗ dy) ⊖ nat T ⊗ (dx ⊗ dx ⊕ dy ⊗ dy)
  rest = join (across_from ⊗ dx) (along_from ⊗ dy) (g ⊗ dx) (v ⊗ dy) (dx ⊗ dx) (dy ⊗ dy) (part g dx dx) (part v dy dy)
    where
      join : (A C a c x y : Exact) → A ≈ nat u ⊗ a ⊖ nat T ⊗ x → C ≈ nat u ⊗ c ⊖ nat T ⊗ y → A ⊕ C ≈ nat u ⊗ (a ⊕ c) ⊖ nat T ⊗ (x ⊕ y)
      join A C a c x y e f = omega arith

  pub reached :
      (w K e : ℕ) → Across g v dx dy w K → T ≤ u → Foot (g ⊗ dx ⊕ v ⊗ dy) (dx ⊗ dx ⊕ dy ⊗ dy) u T e
      → abs across_from * abs across_from + abs along_from * abs along_from ≤ u * u * (K * K + 2 * e)
  reached w K e a l f =
      let X = g ⊗ dy ⊖ v ⊗ dx in
      let B = along_from ⊗ dy in
      let R = across_from ⊗ dx ⊕ along_from ⊗ dy in
      let W = w * w in
      let b : B ≈ nat u ⊗ (v ⊗ dy) ⊖ nat (T * W) = level B (nat u ⊗ (v ⊗ dy)) (dy ⊗ dy) T W (part v dy dy) a.height in
      let s = leans B R (u * W) (u * e) (sides (v ⊗ dy) (g ⊗ dx ⊕ v ⊗ dy) (dx ⊗ dx ⊕ dy ⊗ dy) B R u T W e b rest a.from a.to l f) in
      let p = under (across_from ⊗ dy ⊖ along_from ⊗ dx) (nat u ⊗ X) (u * (K * w)) turn (scale_le X u (K * w) a.right) in
      let n = over (across_from ⊗ dy ⊖ along_from ⊗ dx) X (u * (K * w)) turn (scale_le (opp X) u (K * w) a.left) in
      le_of_mul-le-mul_right {k = W} (le_trans (closest across_from along_from dx dy w (u * (K * w)) (u * W) (u * e) a.height p n s) (omega arith))
      (mul-pos a.above a.above)
    where
      level : (B Z Y : Exact) (T W : ℕ) → B ≈ Z ⊖ nat T ⊗ Y → Y ≈ nat W → B ≈ Z ⊖ nat (T * W)
      level B Z Y T W h y = omega (arith, ap (λ (z : ℕ). T * z) y)

      under : (A Z : Exact) (m : ℕ) → A ≈ Z → Z ≼ nat m → A ≼ nat m
      under A Z m e h = omega arith

      over : (A X : Exact) (m : ℕ) → A ≈ nat u ⊗ X → nat u ⊗ opp X ≼ nat m → opp A ≼ nat m
      over A X m e h = omega arith
