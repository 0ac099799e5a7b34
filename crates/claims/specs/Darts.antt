-- What the random packer places in a piece, and relaxes, keeps what is claimed of it.
-- Rests on `Thrown` and `Relaxed`: each mark passed the computed test where it stands.
use Rattle.std.specs.Prelude.{◌≡◌, Bool, true, false, not, cond, List, ℕ, ◌≤◌, T, length, Some, None, Option}
use Rattle.std.proofs.Common.{subst}
use native.Mathlib.Omega.{arith}
use Rattle.glyphs.specs.declared.rect.Point.{Point}
use Rattle.glyphs.specs.declared.rect.Rectangle.{Rectangle}
use Rattle.glyphs.specs.declared.stream.Stream.{Stream}
use Rattle.glyphs.specs.declared.bounds.Extents.{Extents}
use Rattle.glyphs.specs.Bounds.{ring_bounds}
use Rattle.regions.specs.Ring.{Piece, outer}
use Rattle.regions.specs.Facts.{clearance_number}
use Rattle.relax.specs.declared.Spreading.{Spreading}
use Rattle.relax.specs.Scatter.{relax_scatter}
use Rattle.relax.specs.Kept.{length_relaxed}
use Rattle.lattice.specs.declared.context.PackCtx.{PackCtx}
use Rattle.lattice.specs.Context.{inset, spacing}
use Rattle.lattice.specs.Uniform.{local_to}
use Rattle.scatter.specs.Random.{Thrown, throws, throw_within, pack_random_piece}
use Rattle.claims.specs.Kept.{Kept, none_kept, kept_by, Sited, Apart, apart_sym, computed_apart}
use Rattle.claims.specs.Measures.{Measures}
use Rattle.claims.specs.Thrown.{Distant, darts}
use Rattle.claims.specs.Relaxed.{relaxed}
use Rattle.claims.specs.Counts.{thrown_count}

module _ (numbers : Spreading) (piece : Piece) (n attempts : ℕ) (ctx : PackCtx) (obstacles : List Rectangle) (m : Measures piece ctx) where
  abbrev near : List Rectangle
  near = local_to piece obstacles (inset ctx)

  -- exact, once it is known where the two stand
  abbrev Apart' : Point → Point → Type 0
  Apart' p q = Sited p → Sited q → Apart (spacing ctx) p q

  abbrev Kept' : (Point → Point → Type 0) → List Point → Type 0
  Kept' R placed = Kept piece (inset ctx) near R ctx.mode.strict_obstacles placed

  within_kept :
      (b : Option Extents) (rng : Stream) → ctx.mode.spread ≡ true
      → Kept' (Apart (spacing ctx)) (throw_within b numbers piece n attempts ctx obstacles rng).placed
  unfolding throw_within
  within_kept None rng e = none_kept piece (inset ctx) near (Apart (spacing ctx)) ctx.mode.strict_obstacles
  within_kept (Some bounds) rng e = go ctx.mode.spread e
    where
      thrown : Thrown
      thrown = throws piece n attempts ctx near bounds.min_x bounds.max_x bounds.min_y bounds.max_y rng

      strict : Bool
      strict = ctx.mode.strict_obstacles

      spread : List Point
      spread = relax_scatter numbers thrown.placed piece near (spacing ctx) (inset ctx)

      go : (b : Bool) → b ≡ true → Kept' (Apart (spacing ctx)) (cond b (record { placed = spread; rng = thrown.rng }) thrown).placed
      go false e = absurd (subst (λ (b : Bool). T (not b)) e tt)
      go true e =
          kept_by piece (inset ctx) near Apart' (Apart (spacing ctx)) strict spread (λ p q a b h. h (m.sited p a) (m.sited q b))
          (relaxed numbers piece near (spacing ctx) (inset ctx) strict Apart' (λ p q h b a. apart_sym (spacing ctx) p q (h a b))
          (λ p q t a b. computed_apart (spacing ctx) m.length.sized p q a b t)
          (λ x y. clearance_number x y piece)
          m.number
          thrown.placed
          (kept_by piece (inset ctx) near (Distant piece n attempts ctx near bounds.min_x bounds.max_x bounds.min_y bounds.max_y) Apart' strict thrown.placed
          (λ q p a b t c d. apart_sym (spacing ctx) p q (computed_apart (spacing ctx) m.length.sized p q d c t))
          (darts piece n attempts ctx near bounds.min_x bounds.max_x bounds.min_y bounds.max_y rng)))

  within_count : (b : Option Extents) (rng : Stream) → length (throw_within b numbers piece n attempts ctx obstacles rng).placed ≤ n
  unfolding throw_within
  within_count None rng = omega arith
  within_count (Some bounds) rng = go ctx.mode.spread
    where
      thrown : Thrown
      thrown = throws piece n attempts ctx near bounds.min_x bounds.max_x bounds.min_y bounds.max_y rng

      few : length thrown.placed ≤ n
      few = thrown_count piece n attempts ctx near bounds.min_x bounds.max_x bounds.min_y bounds.max_y rng

      go :
          (b : Bool)
          → length (cond b (record { placed = relax_scatter numbers thrown.placed piece near (spacing ctx) (inset ctx); rng = thrown.rng }) thrown).placed ≤ n
      go true = rw (length_relaxed numbers thrown.placed piece near (spacing ctx) (inset ctx)) few
      go false = few

  pub darts_kept : (rng : Stream) → ctx.mode.spread ≡ true → Kept' (Apart (spacing ctx)) (pack_random_piece numbers piece n attempts ctx obstacles rng).placed
  unfolding pack_random_piece
  darts_kept rng e = within_kept (ring_bounds (outer piece)) rng e

  pub darts_count : (rng : Stream) → length (pack_random_piece numbers piece n attempts ctx obstacles rng).placed ≤ n
  unfolding pack_random_piece
  darts_count rng = within_count (ring_bounds (outer piece)) rng
