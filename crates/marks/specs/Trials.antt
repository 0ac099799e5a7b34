-- A radius search makes at most 25 trials, and so does the call, free of obstacles and with them.
-- Rests on the definition of the search: one trial, and at most 24 further ones.
use Rattle.std.specs.Prelude.{Bool, cond, ◌&&◌, List, [], eqb, length, Float, None, Some, Option}
use Rattle.std.proofs.Math.Bool.{true, false}
use Prim.Native.Nat.{ℕ, zero, suc, ◌+◌, ◌≤◌}
use native.Mathlib.Omega.{arith}
use Rattle.float.specs.Ops.{◌+ᶠ◌, ◌-ᶠ◌, ◌*ᶠ◌, ◌≤ᶠ◌, ◌>ᶠ◌, 0ᶠ, ½ᶠ}
use Rattle.glyphs.specs.declared.rect.Rectangle.{Rectangle}
use Rattle.glyphs.specs.Rect.{is_finite, rectangles}
use Rattle.discs.specs.declared.radius.Size.{Size}
use Rattle.discs.specs.declared.options.Radius.{Radius}
use Rattle.discs.specs.declared.options.Radius.TheVariants.{Auto, Stated}
use Rattle.discs.specs.declared.radius.Search.{Search}
use Rattle.relax.specs.declared.Spreading.{Spreading}
use Rattle.lattice.specs.Uniform.{1e-3ᶠ}
use Rattle.discs.specs.declared.options.GlyphOptions.{GlyphOptions}
use Rattle.discs.specs.Region.{Zone}
use Rattle.discs.specs.Radius.{halve, auto_radius}
use Rattle.discs.specs.PlaceGlyphs.{Placements, work_of, size_under, size_for, pack_at, sizing, place_glyphs}
use Rattle.job.specs.Job.{Job}
use Rattle.relax.specs.Scatter.{source}
use Rattle.job.specs.Plan.{room, placements_of}

-- ---- one search
module _ (fits : Float → Bool) (r-hi : Float) where
  halve_few : (turns : ℕ) (lo hi : Float) (best : Option Float) (made : ℕ) → (halve fits r-hi turns lo hi best made).trials ≤ made + turns
  unfolding halve
  halve_few zero lo hi best made = omega arith
  halve_few (suc turns) lo hi best made =
      let mid = ½ᶠ *ᶠ (lo +ᶠ hi) in
      go (hi -ᶠ lo ≤ᶠ 1e-3ᶠ *ᶠ r-hi) (fits mid) (halve fits r-hi turns mid hi (Some mid) (made + 1)) (halve fits r-hi turns lo mid best (made + 1))
      (halve_few turns mid hi (Some mid) (made + 1)) (halve_few turns lo mid best (made + 1))
    where
      go :
          (ended fit : Bool) (x y : Search) → x.trials ≤ made + 1 + turns → y.trials ≤ made + 1 + turns
          → (cond ended (record { best = best; trials = made }) (cond fit x y)).trials ≤ made + suc turns
      go true fit x y p q = omega arith
      go false true x y p q = omega (arith, p)
      go false false x y p q = omega (arith, q)

  auto_few : (auto_radius fits r-hi).trials ≤ 25
  unfolding auto_radius
  auto_few = go (fits r-hi) (halve fits r-hi 24 0ᶠ r-hi None 1) (halve_few 24 0ᶠ r-hi None 1)
    where
      go : (fit : Bool) (x : Search) → x.trials ≤ 25 → (cond fit (record { best = Some r-hi; trials = 1 }) x).trials ≤ 25
      go true x p = omega arith
      go false x p = p

-- ---- both
pub record Few (free-trials obstacle-trials : ℕ) : Type 0 where
  pub free : free-trials ≤ 25
  pub walled : obstacle-trials ≤ 25

no_trials : Few 0 0
no_trials = record { free = omega arith; walled = omega arith }

abbrev FewIn : Option Size → Type 0
FewIn None = Unit {0}
FewIn (Some size) = Few size.free_trials size.obstacle_trials

module _ (fits : List Rectangle → Float → Bool) (obstacles : List Rectangle) where
  under_few : (r-hi : Float) → FewIn (Some (size_under fits obstacles r-hi))
  unfolding size_under
  under_few r-hi = go (eqb (length obstacles) 0) _ _
    where
      go :
          (none : Bool) (r s : Float)
          → FewIn (Some
          (cond none (record { radius = r; free_trials = (auto_radius (fits []) r-hi).trials; obstacle_trials = 0 })
          (record { radius = s; free_trials = (auto_radius (fits []) r-hi).trials; obstacle_trials = (auto_radius (fits obstacles) r-hi).trials })))
      go true r s = record { free = auto_few (fits []) r-hi; walled = omega arith }
      go false r s = record { free = auto_few (fits []) r-hi; walled = auto_few (fits obstacles) r-hi }

  size_few : (radius : Radius) (ceiling : Option Float) → FewIn (size_for fits obstacles radius ceiling)
  unfolding size_for
  size_few (Stated r) ceiling = go (r >ᶠ 0ᶠ && is_finite r)
    where
      go : (t : Bool) → FewIn (cond t (Some (record { radius = r; free_trials = 0; obstacle_trials = 0 })) None)
      go true = no_trials
      go false = tt
  size_few Auto None = tt
  size_few Auto (Some r-hi) = under_few r-hi

module _ (room : ℕ) (numbers : Spreading) (options : GlyphOptions) (given : List Rectangle) (zones : List Zone) where
  pack_few :
      (size : Option Size) → FewIn size
      → Few (pack_at room numbers options given zones size).free_trials (pack_at room numbers options given zones size).obstacle_trials
  unfolding pack_at
  pack_few None h = no_trials
  pack_few (Some size) h = h

  place_few : Few (place_glyphs room numbers options given zones).free_trials (place_glyphs room numbers options given zones).obstacle_trials
  unfolding place_glyphs sizing
  place_few = go (eqb (length (work_of zones)) 0) _ _ no_trials (pack_few (sizing room numbers options given zones) (size_few _ _ options.radius _))
    where
      go :
          (t : Bool) (x y : Placements) → Few x.free_trials x.obstacle_trials → Few y.free_trials y.obstacle_trials
          → Few (cond t x y).free_trials (cond t x y).obstacle_trials
      go true x y p q = p
      go false x y p q = q

pub few_trials : (job : Job) → Few (placements_of job).free_trials (placements_of job).obstacle_trials
unfolding placements_of
few_trials job = place_few room source job.options (rectangles job.obstacles) job.zones
