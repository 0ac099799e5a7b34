-- The radius under a ceiling of 2 ^ -10 at least is 2 ^ -21 at least, and the ceiling at most.
-- Rests on the search's least success: a 1,024th of the ceiling, and half of it where there are obstacles.
use Rattle.std.specs.Prelude.{◌≡◌, refl, Bool, true, false, cond, List, [], ℕ, ◌*◌, ◌^◌, ◌≤◌, ◌<◌, eqb, length, None, Some, Option, Float}
use Rattle.std.proofs.Common.{sym, ap, inl, inr, le_trans, le_of_eq, mul-le-mul_left, mul-le-mul_right, arith, lit<}
use Rattle.std.proofs.Math.Dec.{lit≤}
use Rattle.std.specs.Float.Ieee.{Float, of_bits, fits}
use Rattle.float.specs.Ops.{◌*ᶠ◌, 0ᶠ, ½ᶠ}
use Rattle.float.specs.Order.{max}
use Rattle.rounding.specs.Signed.{plain}
use Rattle.rounding.specs.Value.{U, sgn, mag, Digits, digits, digits_at}
use Rattle.rounding.proofs.Errors.{mul_of_finite}
use Rattle.rounding.specs.Bounds.{Sized, wider}
use Rattle.rounding.proofs.Bounds.{mul_sized}
use Rattle.rounding.specs.Signs.{Nonneg, zero_sized, zero_val, product_nonneg}
use Rattle.rounding.specs.Selection.{max_case}
use Rattle.glyphs.specs.declared.rect.Rectangle.{Rectangle}
use Rattle.std.specs.Option.{unwrap_or}
use Rattle.discs.specs.declared.radius.Size.{Size}
use Rattle.discs.specs.Radius.{auto_radius}
use Rattle.discs.specs.PlaceGlyphs.{¼ᶠ, size_under}
use Rattle.claims.specs.Middle.{half_twice, half_sized, half_nonneg}
use Rattle.claims.specs.Halved.{Ceiling, part, part_is, Found, Good}
use Rattle.claims.proofs.Halved.{searched}
use Rattle.claims.specs.Radii.{Usable}

-- ---- a quarter of the ceiling
quarter_sized : Sized ¼ᶠ 1
quarter_sized = record { num = unfold of_bits fits in record { fit = tt; fine = tt }; size = unfold of_bits mag U in lit≤ tt }

quarter_nonneg : Nonneg ¼ᶠ
unfolding of_bits sgn
quarter_nonneg = omega arith

quarter_least : U ≤ mag ¼ᶠ * 1024
unfolding of_bits mag U
quarter_least = lit≤ tt

-- 2 ^ -21, in units
unfoldable fine : ℕ
fine = 1 * 2 ^ 1053

fine_is : fine * 2097152 ≡ U
unfolding fine U
fine_is = refl

fine_digits : Digits fine
unfolding fine
fine_digits = digits_at 1 1053 (lit< tt)

enough : (g a m u : ℕ) → a * 2 ≡ u → g * 2097152 ≡ u → u ≤ 1048576 * m → g * u ≤ a * m
enough g a m u e f h = le_trans (le_of_eq (ap (λ (z : ℕ). g * z) (sym e))) (le_trans (omega arith) (mul-le-mul_left a (twice g m (omega arith))))
  where
    twice : (g m : ℕ) → g * 2097152 ≤ 1048576 * m → 2 * g ≤ m
    twice g m h = omega arith

module _ (r-hi : Float) (c : Ceiling r-hi) where
  quarter : Found r-hi c (¼ᶠ *ᶠ r-hi)
  quarter =
      let s : Sized (¼ᶠ *ᶠ r-hi) 65536 = mul_sized quarter_sized c.sized (lit< tt) in
      let p = mul_of_finite ¼ᶠ r-hi quarter_sized.num c.sized.num s.num.fine in
      record {
        sized = s;
        nonneg = product_nonneg ¼ᶠ r-hi (¼ᶠ *ᶠ r-hi) p quarter_nonneg c.nonneg;
        low = p.least (part c) (digits_at c.q c.b c.small) (scaled (part c) (mag ¼ᶠ) (mag r-hi) U (part_is c) quarter_least);
        high = p.most (mag r-hi) (digits r-hi c.sized.num) (le_trans (mul-le-mul_right (mag r-hi) quarter_sized.size) (omega arith));
      }
    where
      scaled : (a m r u : ℕ) → r ≡ 1024 * a → u ≤ m * 1024 → a * u ≤ m * r
      scaled a m r u e h = le_trans (mul-le-mul_left a h) (omega (arith, ap (λ (z : ℕ). m * z) e))

  free : (best : Option Float) → Good r-hi c best → Found r-hi c (unwrap_or best (¼ᶠ *ᶠ r-hi))
  free None g = quarter
  free (Some r) g = g

  -- ---- half of what is free of obstacles
  usable : (r : Float) (k : ℕ) → Sized r-hi k → Found r-hi c r → Usable r k
  usable r k S f = record { sized = record { num = f.sized.num; size = le_trans f.high S.size }; nonneg = f.nonneg; least = omega (arith, f.low, c.least) }

  halved : (r : Float) (k : ℕ) → k < 65536 → Sized r-hi k → Found r-hi c r → Usable (½ᶠ *ᶠ r) k
  halved r k few S f =
      let R = (usable r k S f).sized in
      let s : Sized (½ᶠ *ᶠ r) (1 * k) = mul_sized half_sized R (omega arith) in
      let p = mul_of_finite ½ᶠ r half_sized.num R.num s.num.fine in
      record {
        sized = wider (omega arith) s;
        nonneg = product_nonneg ½ᶠ r (½ᶠ *ᶠ r) p half_nonneg f.nonneg;
        least =
            le_trans (le_of_eq (sym fine_is))
            (mul-le-mul_right 2097152 (p.least fine fine_digits (enough fine (mag ½ᶠ) (mag r) U half_twice fine_is (omega (arith, f.low, c.least)))));
      }

  -- the greater of two, of which the second will do
  greater : (a b : Float) (k : ℕ) → Sized a k → Nonneg a → Usable b k → Usable (max a b) k
  greater a b k A o h = elim (max_case a b A.num h.sized.num) [
    | inl m ↦ rw m.0 h
    | inr m ↦ rw m.0
        (record {
          sized = A;
          nonneg = o;
          least = le_trans h.least (mul-le-mul_right 2097152 (omega (arith, m.1, plain (sgn a) (mag a) o, plain (sgn b) (mag b) h.nonneg)));
        })
  ]

  walled : (best : Option Float) (b : Float) (k : ℕ) → Sized r-hi k → Good r-hi c best → Usable b k → Usable (max (unwrap_or best 0ᶠ) b) k
  walled None b k S g h = greater 0ᶠ b k (wider (omega arith) zero_sized) (rw zero_val (omega arith)) h
  walled (Some r) b k S g h = let u = usable r k S g in greater r b k u.sized u.nonneg h

-- THE RADIUS UNDER A CEILING, whatever the trials say
module _ (fit : List Rectangle → Float → Bool) (obstacles : List Rectangle) (r-hi : Float) (c : Ceiling r-hi) where
  abbrev best : List Rectangle → Option Float
  best among = (auto_radius (fit among) r-hi).best

  pub under_ceiling : (k : ℕ) → k < 65536 → Sized r-hi k → Usable (size_under fit obstacles r-hi).radius k
  unfolding size_under
  under_ceiling k few S = go (eqb (length obstacles) 0)
    where
      r_free : Float
      r_free = unwrap_or (best []) (¼ᶠ *ᶠ r-hi)

      f : Found r-hi c r_free
      f = free r-hi c (best []) (searched (fit []) r-hi c)

      w : Usable (max (unwrap_or (best obstacles) 0ᶠ) (½ᶠ *ᶠ r_free)) k
      w = walled r-hi c (best obstacles) (½ᶠ *ᶠ r_free) k S (searched (fit obstacles) r-hi c) (halved r-hi c r_free k few S f)

      go : (t : Bool) → Usable (cond {A = Size} t (record { radius = r_free; free_trials = (auto_radius (fit []) r-hi).trials; obstacle_trials = 0 })
          (record {
            radius = max (unwrap_or (best obstacles) 0ᶠ) (½ᶠ *ᶠ r_free);
            free_trials = (auto_radius (fit []) r-hi).trials;
            obstacle_trials = (auto_radius (fit obstacles) r-hi).trials;
          })).radius k
      go true = usable r-hi c r_free k S f
      go false = w
