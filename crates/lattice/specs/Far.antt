-- An edge that is far above or below a place is not nearer to it than a clearance c: no error is estimated, since rounding keeps the order.
-- Rests on the rounding laws, on how far along the edge the nearest point lies, and on what the square from which a root is at least c says.
use Rattle.std.specs.Prelude.{◌≡◌, ℕ, ◌≤◌, Bool, true, false, not, ◌&&◌, T, ◌⊎◌, Float}
use Rattle.std.proofs.Math.Path.{refl}
use Rattle.std.proofs.Common.{ap, subst, mul-le-mul, mul-le-mul_right, arith, lit<, lit≤}
use Rattle.std.proofs.Math.Logic.{inl, inr}
use Rattle.std.proofs.Math.Dec.{not_T}
use Rattle.std.specs.Float.Ieee.{nan, add, sub, mul, neg, lt, le, is_nan, unlike, of_bits, fits}
use Rattle.std.specs.Float.{inf, fin, binary64}
use Rattle.std.specs.Float.Ieee.Bits.{is_true, is_false}
use Rattle.std.specs.Float.Ieee.Scale.{finite}
use Rattle.laws.specs.Truth.{yes}
use Rattle.float.specs.Ops.{◌+ᶠ◌, ◌-ᶠ◌, ◌*ᶠ◌, ◌/ᶠ◌, ◌<ᶠ◌, ◌≤ᶠ◌, literal, 0ᶠ}
use Rattle.float.specs.Order.{sqrt}
use Rattle.float.specs.Root.{root_of}
use Rattle.float.specs.Laws.Nan.{Number, lt_nan, le_number}
use Rattle.float.specs.Laws.Zero.{origin, origin_is}
use Rattle.float.specs.Laws.Compare.{le_trans, lt_not_le, neg_number, neg_twice}
use Rattle.float.specs.Laws.Square.{Square, times_self}
use Rattle.rounding.specs.Signed.{Exact, signed, nat, opp, ◌≼◌}
use Rattle.rounding.specs.Value.{U, sgn, mag, val, Num, digits, digits_zero, neg_num, neg_val}
use Rattle.rounding.specs.Comparison.{le→≼, ≼→le, ¬lt→≼}
use Rattle.rounding.proofs.Errors.{add_of_finite, mul_of_finite}
use Rattle.rounding.proofs.Monotone.{add_mono, sub_mono, mul_mono}
use Rattle.rounding.specs.Bounds.{Sized, neg_sized, ranged}
use Rattle.rounding.proofs.Bounds.{add_sized, sub_sized, mul_sized}
use Rattle.rounding.specs.Signs.{Nonneg, zero_num, zero_val, square_plus, add_case}
use Rattle.regions.specs.Clearance.{edge_square}
use Rattle.regions.specs.Margin.{high_square, none, high_square_lem}
use Rattle.lattice.specs.Along.{Part, along_part}

-- what makes sure that whatever is `reach` off the coordinate v of a place keeps the clearance c
pub record Reaches (c v reach : Float) : Type 0 where
  pub place : Sized v 1048576
  pub sized : Sized reach 1048576
  pub least : T (0ᶠ ≤ᶠ reach)
  pub square : T (high_square c ≤ᶠ reach *ᶠ reach)

abbrev pub Sure : Float → Float → Float → Type 0
Sure c v reach = Number reach → Reaches c v reach

-- both ends of an edge from a to b are `reach` or more below v, or above it
abbrev pub Off : Float → Float → Float → Float → Type 0
Off v reach a b =
    let top = a +ᶠ (b -ᶠ a) in
    (T (reach ≤ᶠ v -ᶠ a) × T (reach ≤ᶠ v -ᶠ top)) ⊎ (T (v -ᶠ a ≤ᶠ neg reach) × T (v -ᶠ top ≤ᶠ neg reach))

pub record Beyond (v reach a b : Float) : Type 0 where
  pub from : Sized a 1048576
  pub to : Sized b 1048576
  pub off : Off v reach a b

-- ---- what the code's tests say
bound_sized : Sized (literal 0x4130_0000_0000_0000) 1048576
unfolding of_bits fits mag U
bound_sized = record { num = record { fit = tt; fine = tt }; size = lit≤ tt }

pub modest :
    (v : Float) → T (fits binary64 v) → neg (literal 0x4130_0000_0000_0000) ≤ᶠ v ≡ true → v ≤ᶠ literal 0x4130_0000_0000_0000 ≡ true → Sized v 1048576
modest v f l h = ranged f (neg_sized bound_sized) bound_sized (yes l) (yes h)

-- the code's 0.0 / 0.0
pub unsure : (c v : Float) → Sure c v (0ᶠ /ᶠ 0ᶠ)
unfolding is_nan
unsure c v n = absurd (subst Number none n)

both : (a b : Bool) → a && b ≡ true → T a × T b
both true b e = (tt, yes e)
both false b e = absurd (yes e)

pub beyond :
    (v reach a b : Float) (s t : Bool) → (s ≡ true → Sized a 1048576) → (t ≡ true → Sized b 1048576) → Off v reach a b → s && t ≡ true → Beyond v reach a b
beyond v reach a b s t f g o e =
    let h = both s t e in
    record { from = f (is_true s h.0); to = g (is_true t h.1); off = o }

-- ---- numbers only
-- k at most of n, with n's sign or none
part_of : (s t b : Bool) (m n k : ℕ) → b ≡ unlike s t → nat 0 ≼ signed s m → (m ≡ 0 → k ≡ 0) → k ≤ n
    → ((nat 0 ≼ signed b k) × (signed b k ≼ signed t n)) ⊎ ((signed t n ≼ signed b k) × (signed b k ≼ nat 0))
part_of false false b m n k e h z l = inl (rw e (omega arith, omega arith))
part_of false true b m n k e h z l = inr (rw e (omega arith, omega arith))
part_of true false b m n k e h z l = let q = z (omega arith) in inl (rw e (omega arith, omega arith))
part_of true true b m n k e h z l = let q = z (omega arith) in inr (rw e (omega arith, omega arith))

-- what is off by r at least is r at least in size
size_above : (s t : Bool) (r m : ℕ) → nat 0 ≼ signed s r → signed s r ≼ signed t m → r ≤ m
size_above false false r m h l = omega arith
size_above false true r m h l = omega arith
size_above true t r m h l = omega arith

size_below : (s t : Bool) (r m : ℕ) → nat 0 ≼ signed s r → signed t m ≼ opp (signed s r) → r ≤ m
size_below false false r m h l = omega arith
size_below false true r m h l = omega arith
size_below true t r m h l = omega arith

-- ---- one coordinate
module _ (c v reach a b t : Float) (R : Reaches c v reach) (B : Beyond v reach a b) (P : Part t) where
  abbrev d : Float
  d = b -ᶠ a

  abbrev top : Float
  top = a +ᶠ d

  abbrev q : Float
  q = a +ᶠ t *ᶠ d

  abbrev e : Float
  e = v -ᶠ q

  d_sized : Sized d 2097152
  d_sized = sub_sized B.to B.from (lit< tt)

  p_sized : Sized (t *ᶠ d) 2097152
  p_sized = mul_sized P.sized d_sized (lit< tt)

  top_sized : Sized top 3145728
  top_sized = add_sized B.from d_sized (lit< tt)

  q_sized : Sized q 3145728
  q_sized = add_sized B.from p_sized (lit< tt)

  here_sized : Sized (v -ᶠ a) 2097152
  here_sized = sub_sized R.place B.from (lit< tt)

  there_sized : Sized (v -ᶠ top) 4194304
  there_sized = sub_sized R.place top_sized (lit< tt)

  e_sized : Sized e 4194304
  e_sized = sub_sized R.place q_sized (lit< tt)

  square_sized : Sized (e *ᶠ e) 17592186044416
  square_sized = mul_sized e_sized e_sized (lit< tt)

  -- the part of the edge's extent
  part : ((nat 0 ≼ val (t *ᶠ d)) × (val (t *ᶠ d) ≼ val d)) ⊎ ((val d ≼ val (t *ᶠ d)) × (val (t *ᶠ d) ≼ nat 0))
  part =
      let r = mul_of_finite t d P.sized.num d_sized.num p_sized.num.fine in
      part_of (sgn t) (sgn d) (sgn (t *ᶠ d)) (mag t) (mag d) (mag (t *ᶠ d)) r.sign P.nonneg
      (λ (z : mag t ≡ 0). none (r.most 0 digits_zero (rw z (omega arith))))
      (r.most (mag d) (digits d d_sized.num) (omega (arith, mul-le-mul_right (mag d) P.sized.size)))
    where
      none : mag (t *ᶠ d) ≤ 0 → mag (t *ᶠ d) ≡ 0
      none h = omega arith

  -- the nearest point lies between the ends, as computed
  between_ends : ((val a ≼ val q) × (val q ≼ val top)) ⊎ ((val top ≼ val q) × (val q ≼ val a))
  between_ends =
      let s = add_of_finite a (t *ᶠ d) B.from.num p_sized.num q_sized.num.fine in
      let own = digits a B.from.num in
      let b = B.from.num in
      let u = p_sized.num in
      let w = d_sized.num in
      let f = q_sized.num.fine in
      let g = top_sized.num.fine in
      elim part [
        | inl h ↦ inl (s.least (sgn a) (mag a) own (omega (arith, h.0)), add_mono a (t *ᶠ d) a d b u b w f g (omega (arith, h.1)))
        | inr h ↦ inr (add_mono a d a (t *ᶠ d) b w b u g f (omega (arith, h.0)), s.most (sgn a) (mag a) own (omega (arith, h.1)))
      ]

  -- and so its distance from the place between theirs
  between_gaps : ((val (v -ᶠ top) ≼ val e) × (val e ≼ val (v -ᶠ a))) ⊎ ((val (v -ᶠ a) ≼ val e) × (val e ≼ val (v -ᶠ top)))
  between_gaps =
      let n = R.place.num in
      let b = B.from.num in
      let u = top_sized.num in
      let w = q_sized.num in
      let f = here_sized.num.fine in
      let g = there_sized.num.fine in
      let k = e_sized.num.fine in
      elim between_ends [
        | inl h ↦ inl (sub_mono v top v q n u n w g k (omega (arith, h.1)), sub_mono v q v a n w n b k f (omega (arith, h.0)))
        | inr h ↦ inr (sub_mono v a v q n b n w f k (omega (arith, h.1)), sub_mono v q v top n w n u k g (omega (arith, h.0)))
      ]

  reach_nonneg : Nonneg reach
  reach_nonneg = rw zero_val at (le→≼ 0ᶠ reach zero_num R.sized.num R.least)

  gap_least : mag reach ≤ mag e
  gap_least =
      elim B.off [
        | inl h ↦
            let i = le→≼ reach (v -ᶠ a) R.sized.num here_sized.num h.0 in
            let j = le→≼ reach (v -ᶠ top) R.sized.num there_sized.num h.1 in
            size_above (sgn reach) (sgn e) (mag reach) (mag e) reach_nonneg
            (elim between_gaps [ inl g ↦ omega (arith, j, g.0) | inr g ↦ omega (arith, i, g.0) ])
        | inr h ↦
            let n = neg_num reach R.sized.num in
            let i = le→≼ (v -ᶠ a) (neg reach) here_sized.num n h.0 in
            let j = le→≼ (v -ᶠ top) (neg reach) there_sized.num n h.1 in
            let k = neg_val reach R.sized.num in
            let kp : (val (neg reach)).p ≡ (val reach).n = ap (λ (z : Exact). z.p) k in
            let kn : (val (neg reach)).n ≡ (val reach).p = ap (λ (z : Exact). z.n) k in
            size_below (sgn reach) (sgn e) (mag reach) (mag e) reach_nonneg
            (elim between_gaps [ inl g ↦ omega (arith, i, g.1) | inr g ↦ omega (arith, j, g.1) ])
      ]

  square_far : T (high_square c ≤ᶠ e *ᶠ e)
  square_far =
      let s = mul_sized R.sized R.sized (lit< tt) in
      let m = R.sized.num in
      let n = e_sized.num in
      let le = mul_mono reach reach e e m m n n square_sized.num.fine (mul-le-mul gap_least gap_least) in
      let i = square_plus (mul_of_finite reach reach m m s.num.fine) in
      let j = square_plus (mul_of_finite e e n n square_sized.num.fine) in
      le_trans (high_square c) (reach *ᶠ reach) (e *ᶠ e) R.square (≼→le (reach *ᶠ reach) (e *ᶠ e) s.num square_sized.num (rw (i, j) (omega (arith, le))))

  square_nonneg : Nonneg (e *ᶠ e)
  square_nonneg = rw (square_plus (mul_of_finite e e e_sized.num e_sized.num square_sized.num.fine)) (omega arith)

-- ---- NaN stays
add_nan : (x : Float) → x +ᶠ nan ≡ nan
unfolding add
add_nan nan = refl
add_nan (inf s) = refl
add_nan (fin s m e) = refl

sub_nan : (x : Float) → x -ᶠ nan ≡ nan
unfolding sub neg
sub_nan x = add_nan x

-- ---- a square added to one that is h at least
module _ (h w : Float) (n : Num w) (o : Nonneg w) (l : T (le h w)) where
  to_infinity : T (le h (inf false))
  unfolding le
  to_infinity = le_trans h w (inf false) l (go w n.fine)
    where
      go : (w : Float) → T (finite w) → T (le w (inf false))
      go nan f = absurd f
      go (inf s) f = absurd f
      go (fin s m e) f = tt

  infinite_sum : (w : Float) → T (finite w) → inf false +ᶠ w ≡ inf false
  unfolding add
  infinite_sum nan f = absurd f
  infinite_sum (inf s) f = absurd f
  infinite_sum (fin s m e) f = refl

  finite_sum : (u : Float) → Num u → T (not (lt u origin)) → T (le h (u +ᶠ w))
  finite_sum u p b =
      let z : Nonneg u = rw zero_val at (¬lt→≼ u 0ᶠ p zero_num (rw origin_is b)) in
      elim (add_case u w p n z o) [
        | inl f ↦
            let r = add_of_finite u w p n f in
            le_trans h w (u +ᶠ w) l (≼→le w (u +ᶠ w) n r.num (r.least (sgn w) (mag w) (digits w n) (omega arith)))
        | inr e ↦ rw e to_infinity
      ]

  added : (u : Float) → Square u → (u +ᶠ w ≡ nan) ⊎ T (le h (u +ᶠ w))
  unfolding add lt
  added nan s = inl refl
  added (inf true) s = absurd s.not_below
  added (inf false) s = inr (rw (infinite_sum w n.fine) to_infinity)
  added (fin t m e) s = inr (finite_sum (fin t m e) (record { fit = s.fit; fine = tt }) s.not_below)

-- ---- the law: the sum of the squares is NaN, or from the high square on
kept : (c z : Float) → (z ≡ nan) ⊎ T (high_square c ≤ᶠ z) → sqrt z <ᶠ c ≡ false
unfolding root_of
kept c z (inl e) = rw e (lt_nan c).1
kept c z (inr h) = is_false (sqrt z <ᶠ c) (not_T (sqrt z <ᶠ c) (λ (l : T (sqrt z <ᶠ c)). lt_not_le (sqrt z) c l (high_square_lem c z h)))

off_number : (v reach a b : Float) → Off v reach a b → Number reach
off_number v reach a b (inl h) = (le_number reach (v -ᶠ a) h.0).0
off_number v reach a b (inr h) = rw neg_twice at (neg_number (neg reach) (le_number (v -ᶠ a) (neg reach) h.0).1)

module _ (c x y ax ay bx by reach : Float) (s : Sure c y reach) (b : Beyond y reach ay by) where
  sure : Reaches c y reach
  sure = s (off_number y reach ay by b.off)

  lost : (t u : Float) → t ≡ nan → u +ᶠ (y -ᶠ (ay +ᶠ t *ᶠ (by -ᶠ ay))) *ᶠ (y -ᶠ (ay +ᶠ t *ᶠ (by -ᶠ ay))) ≡ nan
  unfolding mul
  lost t u e = rw e (rw (add_nan ay, sub_nan y, add_nan u))

  pub far_edge : sqrt (edge_square x y ax ay bx by) <ᶠ c ≡ false
  unfolding edge_square
  far_edge =
      kept c _
      (elim (along_part ((x -ᶠ ax) *ᶠ (bx -ᶠ ax) +ᶠ (y -ᶠ ay) *ᶠ (by -ᶠ ay)) ((bx -ᶠ ax) *ᶠ (bx -ᶠ ax) +ᶠ (by -ᶠ ay) *ᶠ (by -ᶠ ay))) [
        | inl e ↦ inl (lost _ _ e)
        | inr p ↦
            added (high_square c) _ (square_sized c y reach ay by _ sure b p).num (square_nonneg c y reach ay by _ sure b p)
            (square_far c y reach ay by _ sure b p) _ (times_self _)
      ])
