-- The quotas of a zone left in add up to its count; and where some piece has positive computed area, each is less than 1 + 2 ^ -20 away from its exact share.
-- Rests on the law of quotas, and on the areas of a job's pieces being numbers that are not negative.
use Rattle.std.specs.Prelude.{◌≡◌, Bool, List, ◌∷◌, ℕ, zero, suc, ◌+◌, ◌*◌, ◌≤◌, ◌<◌, T, get_or, set, replicate, Float}
use Rattle.std.proofs.Math.Path.{refl}
use Rattle.std.proofs.Common.{◌∙◌, arith, ne_eqb}
use Rattle.std.proofs.Math.Bool.{true, false}
use Rattle.std.proofs.Math.ListN.{length}
use Rattle.std.proofs.lemmas.List.{length-map}
use Rattle.std.specs.Float.{nan}
use Rattle.std.specs.Float.Ieee.Bits.{is_true}
use Rattle.laws.specs.Sorted.{weigh}
use Rattle.laws.specs.Truth.{yes, no}
use Rattle.float.specs.Ops.{◌<ᶠ◌, ◌≤ᶠ◌, ◌>ᶠ◌, 0ᶠ}
use Rattle.float.specs.Laws.Nan.{Number}
use Rattle.float.specs.Laws.Compare.{not_lt_le}
use Rattle.rounding.specs.Signed.{plain, nat, ◌≺◌}
use Rattle.rounding.specs.Value.{E, sgn, mag, val}
use Rattle.rounding.specs.Comparison.{lt→≺, ≺→lt}
use Rattle.rounding.specs.Signs.{zero_num, zero_val, positive}
use Rattle.rounding.specs.Selection.{finite_not_nan}
use Rattle.rounding.specs.Shares.{Weight, Weights, sum, Summed}
use Rattle.rounding.proofs.Shares.{summed}
use Rattle.regions.specs.Area.{piece_area}
use Rattle.regions.specs.Facts.{zero_number}
use Rattle.glyphs.specs.Apportion.{total, no_weight, assigned, apportion}
use Rattle.discs.specs.Region.{Zone, areas, quotas}
use Rattle.format.specs.Known.{All, PieceKnown}
use Rattle.claims.specs.HandOut.{assigned_sum}
use Rattle.claims.specs.HandOut as HandOut
use Rattle.claims.specs.Fair.{Weighed, Fair, member}
use Rattle.claims.proofs.Fair.{quotas_sum, quotas_fair}
use Rattle.claims.specs.Areas.{areas_known, total_finite}

-- ---- all to the first
zeros : (k : ℕ) → HandOut.sum (replicate k 0) ≡ 0
unfolding weigh
zeros zero = refl
zeros (suc k) = omega (arith, zeros k)

first_all : (n k : ℕ) → 0 < k → assigned (set (replicate k 0) 0 n) ≡ n
first_all n zero h = absurd (omega arith)
first_all n (suc k) h = assigned_sum (n ∷ replicate k 0) ∙ unfold weigh in omega (arith, zeros k)

-- ---- a positive weight makes the sum positive
above : (x : Float) → Weight x → T (0ᶠ <ᶠ x) → 0 < mag x
above x w t = go (rw zero_val at (lt→≺ 0ᶠ x zero_num w.num t))
  where
    go : nat 0 ≺ val x → 0 < mag x
    go l = omega (arith, l, plain (sgn x) (mag x) w.nonneg)

module _ (zone : Zone) (k : All PieceKnown zone.pieces) (few : length zone.pieces ≤ 16) (some : 0 < length zone.pieces) (n0 : zone.count ≤ 2000) where
  abbrev ws : List Float
  ws = areas zone.pieces

  long : length ws ≡ length zone.pieces
  long = length-map zone.pieces piece_area

  weights : Weights ws
  weights = areas_known zone.pieces k

  total_known : Summed (total ws) (sum ws)
  unfolding total
  total_known = summed ws (rw long few) weights (total_finite zone.pieces k few)

  weighed : T (0ᶠ <ᶠ total ws) → Weighed ws
  weighed t = record { few = rw long few; each = weights; above = t; fine = total_finite zone.pieces k few }

  -- no area at all: everything goes to the first
  no_weight_lem : 0ᶠ <ᶠ total ws ≡ false → no_weight (total ws) ≡ true
  unfolding no_weight
  no_weight_lem e =
      let f = total_finite zone.pieces k few in
      let number : Number (total ws) = rw (finite_not_nan (total ws) f) tt in
      rw (finite_not_nan (total ws) f) (is_true (total ws ≤ᶠ 0ᶠ) (not_lt_le (total ws) 0ᶠ number zero_number (no e)))

  unshared : no_weight (total ws) ≡ true → assigned (apportion zone.count ws) ≡ zone.count
  unfolding apportion
  unshared e = rw (ne_eqb (length ws) 0 (λ (z : length ws ≡ 0). omega (arith, long, some, z)), e) (first_all zone.count (length ws) (rw long some))

  -- THE SUM
  pub zone_sum : assigned (quotas zone) ≡ zone.count
  unfolding quotas
  zone_sum = go (0ᶠ <ᶠ total ws) refl
    where
      go : (t : Bool) → 0ᶠ <ᶠ total ws ≡ t → assigned (apportion zone.count ws) ≡ zone.count
      go true e = quotas_sum zone.count ws n0 (weighed (yes e))
      go false e = unshared (no_weight_lem e)

  positive_total : (j : ℕ) → j < length zone.pieces → T (get_or ws j nan >ᶠ 0ᶠ) → T (0ᶠ <ᶠ total ws)
  positive_total j h t =
      let s = total_known in
      let m = member ws weights j (rw long h) in
      let a = above (get_or ws j nan) m.0 t in
      let z : 0 < mag (total ws) = some_of (mag (total ws)) (sum ws) (omega (arith, a, m.1)) s.near.below in
      ≺→lt 0ᶠ (total ws) zero_num s.num (rw (zero_val, positive (total ws) z s.nonneg) (omega (arith, z)))
    where
      some_of : (m W : ℕ) → 0 < W → W * E ≤ m * (E + 32) + 0 → 0 < m
      some_of zero W w l = absurd (omega (arith, w, l))
      some_of (suc m) W w l = omega arith

  -- EACH
  pub zone_fair : (j : ℕ) → j < length zone.pieces → T (get_or ws j nan >ᶠ 0ᶠ) → (i : ℕ) → i < length zone.pieces
      → Fair (get_or (quotas zone) i 0) zone.count (mag (get_or ws i nan)) (sum ws)
  unfolding quotas
  zone_fair j h t i l = quotas_fair zone.count ws n0 (weighed (positive_total j h t)) i (rw long l)
