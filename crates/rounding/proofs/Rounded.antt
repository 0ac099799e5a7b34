-- One rounding: what `round` makes of num / den with a sign, by exact values. It is near, it keeps the order, and a number
-- of 53 digits stays on its side; so such a number does not change.
-- Rests on `Nearest` (how far), the kit's `round_mono` (the order) and `round_exact` (no change).
use Rattle.std.specs.Prelude.{◌≡◌, refl, Bool, false, ℕ, ◌*◌, ◌^◌, ◌≤◌, ◌<◌, T, Float}
use Rattle.std.proofs.Common.{sym, ap, subst, inl, inr, le_trans, le_of_eq, le_of_lt, lt_of_not-le, mul-le-mul_right, pow_pos}
use Rattle.std.specs.Float.{inf, binary64}
use Rattle.std.specs.Float.Ieee.{low, round, le}
use Rattle.std.specs.Float.Ieee.Exact.{round_exact}
use Rattle.std.specs.Float.Ieee.Order.{round_mono}
use Rattle.std.specs.Float.Ieee.Scale.{overflow, finite}
use Rattle.laws.specs.Orders.{lt_or_le}
use Rattle.rounding.specs.Relative.{Near}
use Rattle.rounding.proofs.Rounds.{rounds, rounds_whole}
use Rattle.rounding.specs.Value.{U, U_pos, E, H, mag, Digits}
use Rattle.rounding.specs.Rounded.{Made, Rounded, RoundedUnits, made, not_above, of_value, ordered, round_mag, under}

-- ---- a number of 53 digits
kept_exact : (s : Bool) (g : ℕ) → Digits g → g < overflow binary64 → Made (round binary64 s g U) s g
unfolding U
kept_exact s g d h =
    of_value s g (2 ^ low binary64) g
    (round_exact binary64 s g (2 ^ low binary64) d.q d.j (pow_pos (low binary64)) d.small
    (subst (λ (z : ℕ). z < overflow binary64) d.is h) (ap (λ (z : ℕ). z * 2 ^ low binary64) d.is))

from_overflow : round binary64 false (overflow binary64) (2 ^ low binary64) ≡ inf false
unfolding round
from_overflow = refl

under_overflow : (g : ℕ) → T (finite (round binary64 false g U)) → g < overflow binary64
unfolding U
under_overflow g f =
    lt_of_not-le (λ (h : overflow binary64 ≤ g).
    not_above (round binary64 false g U) f
    (subst (λ (z : Float). T (le z (round binary64 false g U))) from_overflow
    (round_mono binary64 (overflow binary64) (2 ^ low binary64) g (2 ^ low binary64)
    (pow_pos (low binary64)) (pow_pos (low binary64)) (mul-le-mul_right (2 ^ low binary64) h))))

pub rounded : (s : Bool) (num den : ℕ) → 0 < den → T (finite (round binary64 s num den)) → Rounded (round binary64 s num den) s (num * U) den
unfolding U
rounded s num den d0 f =
    let z = round binary64 s num den in
    let u = under s num den f in
    let m = made s num den u in
    record {
      num = m.num;
      sign = m.sign;
      near = subst (λ (g : ℕ). Near E 1 (den * H) (g * den) (num * U)) (sym m.size) (rounds 52 (num * U) den d0);
      least = λ g d h.
          let o = ordered false s g U num den U_pos d0 h f in
          subst (λ (w : ℕ). w ≤ mag z) (kept_exact false g d (under_overflow g o.fine)).size o.size;
      most = λ g d h. elim (lt_or_le g (overflow binary64)) [
        | inl l ↦ let k = kept_exact false g d l in subst (λ (w : ℕ). mag z ≤ w) k.size (round_mag s false num den g U d0 U_pos h k.num.fine)
        | inr l ↦ le_trans (le_of_eq m.size) (le_trans (le_of_lt u) l)
      ];
    }

pub rounded_units : (s : Bool) (w : ℕ) → T (finite (round binary64 s w U)) → RoundedUnits (round binary64 s w U) s w
rounded_units s w f =
    let r = rounded s w U U_pos f in
    record {
      num = r.num;
      sign = r.sign;
      near = near;
      least = λ g d h. r.least g d (mul-le-mul_right U h);
      most = λ g d h. r.most g d (mul-le-mul_right U h);
    }
  where
    near : Near E 1 0 (mag (round binary64 s w U)) w
    near = subst (λ (g : ℕ). Near E 1 0 g w) (sym (made s w U (under s w U f)).size) (unfold U in rounds_whole 52 w U U_pos)
