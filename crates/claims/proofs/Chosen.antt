-- THE RADIUS OF A JOB: where spots are placed it is from 2 ^ -21 to k, for a stated radius up to 1,024 in 1/1024 and a ceiling from 2 ^ -10 to k.
-- Rests on the law of the radius under a ceiling.
use Rattle.std.specs.Prelude.{◌≡◌, refl, Bool, cond, ◌&&◌, List, T, Float, None, Some, Option}
use Rattle.std.proofs.Common.{◌∙◌, zero-mul}
use Rattle.std.proofs.Math.Bool.{true, false}
use Prim.Native.Nat.{ℕ, zero, suc, ◌*◌, ◌^◌, ◌≤◌, ◌<◌}
use native.Mathlib.Omega.{arith}
use Rattle.float.specs.Ops.{◌<ᶠ◌, ◌>ᶠ◌, 0ᶠ}
use Rattle.rounding.specs.Signed.{signed, nat, ◌≺◌}
use Rattle.rounding.specs.Value.{U, sgn, mag}
use Rattle.rounding.specs.Comparison.{lt→≺}
use Rattle.rounding.specs.Bounds.{wider}
use Rattle.rounding.specs.Signs.{zero_num, zero_val}
use Rattle.glyphs.specs.declared.rect.Rectangle.{Rectangle}
use Rattle.glyphs.specs.Rect.{is_finite}
use Rattle.format.specs.Numbers.{share}
use Rattle.format.specs.Exact.{Coordinate, coordinate_sized, share_exact, share_value}
use Rattle.discs.specs.declared.options.Radius.{Radius}
use Rattle.discs.specs.declared.options.Radius.TheVariants.{Auto, Stated}
use Rattle.discs.specs.PlaceGlyphs.{size_for}
use Rattle.job.specs.Known.{RadiusKnown}
use Rattle.claims.specs.Halved.{ceiling}
use Rattle.claims.specs.Radii.{Usable}
use Rattle.claims.proofs.Radii.{under_ceiling}
use Rattle.claims.specs.Chosen.{SizingUsable, TopKnown, share_nonneg}

-- ---- a stated radius

-- 1/1024, in units
unfoldable step : ℕ
step = 2 ^ 1064

step_is : step * 1024 ≡ U
unfolding step U
step_is = refl

share_coordinate : (n : ℕ) → n ≤ 1048576 → Coordinate (share n)
share_coordinate n h = record { sign = false; count = n; few = h; multiple = share_exact n (omega arith); value = share_value n (omega arith) }

module _ (k : ℕ) (big : 1024 ≤ k) (few : k < 65536) where
  share_usable : (n : ℕ) → n ≤ 1048576 → T (0ᶠ <ᶠ share n) → Usable (share n) k
  share_usable zero h t =
      absurd (nothing (sgn (share 0)) (mag (share 0)) ((share_exact 0 (omega arith)).is ∙ zero-mul (2 ^ 1064))
      (rw zero_val at (lt→≺ 0ᶠ (share 0) zero_num (share_exact 0 (omega arith)).num t)))
    where
      nothing : (b : Bool) (m : ℕ) → m ≡ 0 → nat 0 ≺ signed b m → ⊥
      nothing true m z l = omega (arith, z, l)
      nothing false m z l = omega (arith, z, l)
  share_usable (suc n) h t =
      record { sized = wider big (coordinate_sized (share_coordinate (suc n) h)); nonneg = share_nonneg (suc n) h; least = omega (arith, at_least, step_is) }
    where
      at_least : step ≤ mag (share (suc n))
      at_least = unfold step in (rw (share_exact (suc n) (omega arith)).is (one_of n (2 ^ 1064)))
        where
          one_of : (n g : ℕ) → g ≤ suc n * g
          one_of n g = omega arith

  stated_usable : (r : Float) → RadiusKnown (Stated r) → T (0ᶠ <ᶠ r) → Usable r k
  stated_usable r s t = rw s.is (share_usable s.number s.to (rw s.is at t))

  pub sizing_usable :
      (fit : List Rectangle → Float → Bool) (obstacles : List Rectangle) (radius : Radius) → RadiusKnown radius → (top : Option Float) → TopKnown k radius top
      → SizingUsable k (size_for fit obstacles radius top)
  unfolding size_for
  sizing_usable fit obstacles Auto s None t = tt
  sizing_usable fit obstacles Auto s (Some r-hi) t =
      under_ceiling fit obstacles r-hi (ceiling r-hi (wider (omega (arith, few)) t.sized) t.nonneg t.least) k few t.sized
  sizing_usable fit obstacles (Stated r) s top t = go (r >ᶠ 0ᶠ) (is_finite r) (stated_usable r s)
    where
      go : (a b : Bool) → (T a → Usable r k) → SizingUsable k (cond (a && b) (Some (record { radius = r; free_trials = 0; obstacle_trials = 0 })) None)
      go true true u = u tt
      go true false u = tt
      go false b u = tt
