-- discs.rs, `pack_random_piece`: darts thrown from a stream, and the scatter relaxed. Definitions only.
use Rattle.std.specs.Prelude.{Bool, true, false, not, cond, ◌&&◌, ◌||◌, List, [], ◌∷◌, ◌++◌, ℕ, zero, suc, ◌-◌, eqb, length, Float, Option, Some, None}
use Rattle.laws.specs.Any.{all}
use Rattle.float.specs.Ops.{◌*ᶠ◌, ◌≥ᶠ◌}
use Rattle.glyphs.specs.declared.rect.Point.{Point}
use Rattle.glyphs.specs.declared.rect.Rectangle.{Rectangle}
use Rattle.glyphs.specs.declared.stream.Stream.{Stream}
use Rattle.glyphs.specs.declared.bounds.Extents.{Extents}
use Rattle.glyphs.specs.Bounds.{ring_bounds}
use Rattle.glyphs.specs.Rect.{clear_of_obstacles}
use Rattle.glyphs.specs.Spots.{squared_distance}
use Rattle.glyphs.specs.Stream.{random_range}
use Rattle.regions.specs.Ring.{Piece, outer}
use Rattle.regions.specs.Clearance.{signed_clearance}
use Rattle.relax.specs.declared.Spreading.{Spreading}
use Rattle.relax.specs.Scatter.{relax_scatter}
use Rattle.lattice.specs.Context.{inset, spacing}
use Rattle.lattice.specs.Escape.{point}
use Rattle.lattice.specs.Uniform.{local_to}
use Rattle.lattice.specs.declared.context.PackCtx.{PackCtx}

-- the marks placed, and the stream after them
pub record Thrown : Type 0 where
  pub placed : List Point
  pub rng : Stream

-- an attempt: hit with the place, or a miss
pub data Dart : Type 0 where
  hit : Point → Stream → Dart
  miss : Stream → Dart

-- a hit goes on with the next glyph; a miss ends the pass
abbrev pub after_dart : (Thrown → Thrown) → Thrown → Dart → Thrown
after_dart next t (hit p rng) = next (record { placed = t.placed ++ p ∷ []; rng = rng })
after_dart next t (miss rng) = record { placed = t.placed; rng = rng }

module _ (piece : Piece) (n : ℕ) (attempts : ℕ) (ctx : PackCtx) (near : List Rectangle) (min-x max-x min-y max-y : Float) where
  unfoldable pub lands : Bool → List Point → Point → Bool
  lands honor placed p =
      all (λ (q : Point). squared_distance p q ≥ᶠ spacing ctx *ᶠ spacing ctx) placed
      && signed_clearance p.x p.y piece ≥ᶠ inset ctx
      && (not honor || clear_of_obstacles p.x p.y near (inset ctx))

  -- for _ in 0..max_attempts: x, then y, for each
  unfoldable pub throw : Bool → ℕ → List Point → Stream → Dart
  throw honor zero placed rng = miss rng
  throw honor (suc left) placed rng =
      let x = random_range rng min-x max-x in
      let y = random_range x.next min-y max-y in
      let p = point x.value y.value in
      cond (lands honor placed p) (hit p y.next) (throw honor left placed y.next)

  -- 'glyphs: while placed.len() < n, with `left` to place
  unfoldable pub glyphs : Bool → ℕ → Thrown → Thrown
  glyphs honor zero t = t
  glyphs honor (suc left) t = after_dart (glyphs honor left) t (throw honor attempts t.placed t.rng)

  -- for honor_obstacles in [true, false]
  unfoldable pub throws : Stream → Thrown
  throws rng =
      let first = glyphs true n (record { placed = []; rng = rng }) in
      cond (ctx.mode.strict_obstacles || eqb (length near) 0) first (glyphs false (n - length first.placed) first)

unfoldable pub throw_within : Option Extents → Spreading → Piece → ℕ → ℕ → PackCtx → List Rectangle → Stream → Thrown
throw_within None numbers piece n attempts ctx obstacles rng = record { placed = []; rng = rng }
throw_within (Some e) numbers piece n attempts ctx obstacles rng =
    let near = local_to piece obstacles (inset ctx) in
    let thrown = throws piece n attempts ctx near e.min_x e.max_x e.min_y e.max_y rng in
    cond ctx.mode.spread (record { placed = relax_scatter numbers thrown.placed piece near (spacing ctx) (inset ctx); rng = thrown.rng }) thrown

unfoldable pub pack_random_piece : Spreading → Piece → ℕ → ℕ → PackCtx → List Rectangle → Stream → Thrown
pack_random_piece numbers piece n attempts ctx obstacles rng = throw_within (ring_bounds (outer piece)) numbers piece n attempts ctx obstacles rng
