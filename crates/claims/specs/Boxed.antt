-- The box of a ring of a job's coordinates lies within 1,024.
-- Rests on the extents of a ring of such coordinates being within 1,024.
use Rattle.std.specs.Prelude.{◌≡◌, refl, Bool, true, false, cond, ◌&&◌, ℕ, ◌<◌, ◌≤◌, ltb, Float, Some, None}
use Rattle.std.proofs.Common.{subst, arith, ltb-false}
use Rattle.float.specs.Ops.{◌>ᶠ◌}
use Rattle.rounding.specs.Bounds.{Sized}
use Rattle.glyphs.specs.Points.{Ring, vertices, x_at, y_at}
use Rattle.glyphs.specs.declared.bounds.Extents.{Extents}
use Rattle.glyphs.specs.Bounds.{extents_of, box_of, ring_bounds}
use Rattle.deepest.specs.Whole.{framed}
use Rattle.format.specs.Exact.{coordinate_sized}
use Rattle.format.specs.Known.{RingKnown}
use Rattle.claims.specs.Within.{vertex_x, vertex_y}

-- ---- the sides of a box
pub record Boxed (min-x max-x min-y max-y : Float) : Type 0 where
  pub left : Sized min-x 1024
  pub right : Sized max-x 1024
  pub bottom : Sized min-y 1024
  pub top : Sized max-y 1024

module _ (v : Ring) (r : RingKnown v) where
  abbrev n : ℕ
  n = vertices v

  xs : (i : ℕ) → i < n → Sized (x_at v i) 1024
  xs i h = coordinate_sized (vertex_x v r i h)

  ys : (i : ℕ) → i < n → Sized (y_at v i) 1024
  ys i h = coordinate_sized (vertex_y v r i h)

  pub boxed : (bounds : Extents) → ring_bounds v ≡ Some bounds → Boxed bounds.min_x bounds.max_x bounds.min_y bounds.max_y
  unfolding ring_bounds box_of
  boxed bounds e = go (ltb n 3) (x.max_x >ᶠ x.min_x && x.max_y >ᶠ x.min_y) (ltb-false n 3) e
    where
      x : Extents
      x = extents_of v

      sides : 3 ≤ n → Boxed x.min_x x.max_x x.min_y x.max_y
      sides h =
          let f = framed v (record { two = omega (arith, h); xs = xs; ys = ys }) in
          record { left = f.left; right = f.right; bottom = f.bottom; top = f.top }

      same : x ≡ bounds → Boxed x.min_x x.max_x x.min_y x.max_y → Boxed bounds.min_x bounds.max_x bounds.min_y bounds.max_y
      same q s = subst (λ (z : Extents). Boxed z.min_x z.max_x z.min_y z.max_y) q s

      go :
          (few wide : Bool) → (few ≡ false → 3 ≤ n) → cond few None (cond wide (Some x) None) ≡ Some bounds
          → Boxed bounds.min_x bounds.max_x bounds.min_y bounds.max_y
      go true wide t q = let z : ◌≡◌ {A = ℕ} 0 1 = cc in absurd (omega arith)
      go false true t q = let p : x ≡ bounds = cc in same p (sides (t refl))
      go false false t q = let z : ◌≡◌ {A = ℕ} 0 1 = cc in absurd (omega arith)
