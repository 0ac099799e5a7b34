-- QUOTAS, of up to 2,000 marks by up to 16 finite weights of at least 0 and a finite computed sum above 0: they add up, each within 1 + 2 ^ -20 of its share.
-- Rests on `Shares` (a computed share is 2 ^ -25 from the exact one at most), so no sum is taken to be exact; and on `HandOut`.
use Rattle.std.specs.Prelude.{ℕ, zero, suc, ◌+◌, ◌*◌, ◌≤◌, ◌<◌, T, get_or, Float}
use mathlib.Core.List.{List, [], ◌∷◌}
use native.Mathlib.Omega.{arith}
use Rattle.std.proofs.Math.ListN.{length}
use Rattle.std.specs.Float.{nan}
use Rattle.std.specs.Float.Ieee.Scale.{finite}
use Rattle.float.specs.Ops.{◌<ᶠ◌, 0ᶠ}
use Rattle.rounding.specs.Value.{mag}
use Rattle.rounding.specs.Shares.{Weight, Weights, none, more, sum}
use Rattle.glyphs.specs.Apportion.{total}

-- ---- the claim's words
-- up to 16 weights that are finite and not negative, of a computed sum above 0 and finite
pub record Weighed (weights : List Float) : Type 0 where
  pub few : length weights ≤ 16
  pub each : Weights weights
  pub above : T (0ᶠ <ᶠ total weights)
  pub fine : T (finite (total weights))

-- q is less than 1 + 2 ^ -20 away from n * w / W: both times W and 2 ^ 20
pub record Fair (q n w W : ℕ) : Type 0 where
  pub low : q * W * 1048576 < n * w * 1048576 + W * 1048577
  pub high : n * w * 1048576 < q * W * 1048576 + W * 1048577

-- a weight of the list is at most the sum
pub member : (ws : List Float) → Weights ws → (i : ℕ) → i < length ws → Weight (get_or ws i nan) × (mag (get_or ws i nan) ≤ sum ws)
unfolding sum
member [] none i l = absurd (omega (arith, l))
member (w ∷ ws) (more p ps) zero l = (p, omega arith)
member (w ∷ ws) (more p ps) (suc i) l = let m = member ws ps i (omega (arith, l)) in (m.0, omega (arith, m.1))
