-- The spacing that a lattice is widened to is the least spacing at least, and within the limits of the lattice laws; so its cells are the least spacing apart.
-- Rests on a bisection's middle lying between its ends, and on the box's diagonal being 2,897 at most.
use Rattle.std.proofs.Common.{inl, inr, arith, lit<, lit≤}
use Rattle.std.specs.Prelude.{Bool, true, false, cond, List, Float}
use Prim.Native.Nat.{ℕ, zero, suc, ◌*◌, ◌≤◌}
use Rattle.std.proofs.Math.Nat.{le_trans}
use Rattle.float.specs.Ops.{◌+ᶠ◌, ◌-ᶠ◌, ◌*ᶠ◌, ◌≤ᶠ◌}
use Rattle.float.specs.Order.{max}
use Rattle.rounding.specs.Signed.{plain}
use Rattle.rounding.specs.Value.{U, sgn, mag}
use Rattle.rounding.specs.Bounds.{Sized, wider}
use Rattle.rounding.proofs.Bounds.{sub_sized}
use Rattle.rounding.specs.Signs.{Nonneg}
use Rattle.rounding.proofs.Signs.{squares_sized, squares_nonneg}
use Rattle.rounding.specs.Selection.{max_case}
use Rattle.rounding.specs.Sqrt.{sqrt_law}
use Rattle.rounding.proofs.Sqrt.{sqrt_sized}
use Rattle.rounding.specs.Distance.{Length}
use Rattle.glyphs.specs.declared.rect.Point.{Point}
use Rattle.glyphs.specs.declared.rect.Rectangle.{Rectangle}
use Rattle.regions.specs.Ring.{Piece}
use Rattle.lattice.specs.declared.context.PackCtx.{PackCtx}
use Rattle.lattice.specs.Uniform.{1e-3ᶠ, fits_at, widen}
use Rattle.claims.specs.Middle.{Middle, middle, middle_between}
use Rattle.claims.specs.Widened.{Widened, diagonal}

-- ---- a bisection
module _ (piece : Piece) (n : ℕ) (ctx : PackCtx) (rectangular : Bool) (near : List Rectangle) (anchor : Point) (honoring : Bool) (s_max : Float) where
  turn :
      (lo hi : Float) (stop fit : Bool) (wide narrow : Float) → Sized lo 65536 → Nonneg lo → mag lo ≤ mag hi → Middle lo hi wide 65536
      → Middle lo hi narrow 65536 → Middle lo hi (cond stop lo (cond fit wide narrow)) 65536
  turn lo hi true fit wide narrow L o h w v = record { sized = L; nonneg = o; low = omega arith; high = h }
  turn lo hi false true wide narrow L o h w v = w
  turn lo hi false false wide narrow L o h w v = v

  pub widen_between :
      (turns : ℕ) (lo hi : Float) → Sized lo 65536 → Sized hi 65536 → Nonneg lo → Nonneg hi → mag lo ≤ mag hi
      → Middle lo hi (widen piece n ctx rectangular near anchor honoring s_max turns lo hi) 65536
  unfolding widen
  widen_between zero lo hi L G ol og h = record { sized = L; nonneg = ol; low = omega arith; high = h }
  widen_between (suc turns) lo hi L G ol og h =
      let mid = middle lo hi in
      let m = middle_between lo hi 65536 L G (lit< tt) ol og h in
      let w = widen_between turns mid hi m.sized G m.nonneg og m.high in
      let v = widen_between turns lo mid L m.sized ol m.nonneg m.low in
      turn lo hi (hi -ᶠ lo ≤ᶠ 1e-3ᶠ *ᶠ s_max) (fits_at piece n ctx rectangular near anchor honoring mid) _ _ L ol h
      (record { sized = w.sized; nonneg = w.nonneg; low = le_trans m.low w.low; high = w.high })
      (record { sized = v.sized; nonneg = v.nonneg; low = v.low; high = le_trans v.high m.high })

record Diagonal (d : Float) : Type 0 where
  sized : Sized d 2897
  nonneg : Nonneg d

diagonal_law :
    (min-x max-x min-y max-y : Float) → Sized min-x 1024 → Sized max-x 1024 → Sized min-y 1024 → Sized max-y 1024 → Diagonal (diagonal min-x max-x min-y max-y)
diagonal_law min-x max-x min-y max-y a b c d =
    let w = max-x -ᶠ min-x in
    let h = max-y -ᶠ min-y in
    let W : Sized w 2048 = sub_sized b a (lit< tt) in
    let H : Sized h 2048 = sub_sized d c (lit< tt) in
    let S : Sized (w *ᶠ w +ᶠ h *ᶠ h) (2897 * 2897) = wider (lit≤ tt) (squares_sized w h 2048 W H (lit< tt)) in
    let o = squares_nonneg w h 2048 W H (lit< tt) in
    record { sized = sqrt_sized (w *ᶠ w +ᶠ h *ᶠ h) 2897 S o (lit< tt); nonneg = (sqrt_law (w *ᶠ w +ᶠ h *ᶠ h) S.num o).nonneg }

longer : (s w : Float) → Length s → Sized w 65536 → Nonneg w → mag w ≤ 36864 * U → mag s ≤ mag w → Widened s w
longer s w L W o f l = record { length = record { sized = W; nonneg = o; least = omega (arith, L.least, l) }; few = f; least = l }

top : (d s : Float) → Diagonal d → Length s → mag s ≤ 36864 * U → Widened s (max d s)
top d s D L B = elim (max_case d s D.sized.num L.sized.num) [
  | inl c ↦ rw c.0 (longer s s L L.sized L.nonneg B (omega arith))
  | inr c ↦ rw c.0
      (longer s d L (wider (lit≤ tt) D.sized) D.nonneg (omega (arith, D.sized.size))
      (omega (arith, c.1, plain (sgn d) (mag d) D.nonneg, plain (sgn s) (mag s) L.nonneg)))
]

module _
    (piece : Piece) (n : ℕ) (ctx : PackCtx) (rectangular : Bool) (near : List Rectangle) (anchor : Point) (honoring : Bool)
    (min-x max-x min-y max-y : Float) (LX : Sized min-x 1024) (GX : Sized max-x 1024) (LY : Sized min-y 1024) (GY : Sized max-y 1024)
    (s : Float) (L : Length s) (B : mag s ≤ 36864 * U) where
  abbrev s_max : Float
  s_max = diagonal min-x max-x min-y max-y

  pub widened :
      Widened s
      (cond (fits_at piece n ctx rectangular near anchor honoring (max s_max s)) (max s_max s)
      (widen piece n ctx rectangular near anchor honoring s_max 24 s (max s_max s)))
  widened = go (fits_at piece n ctx rectangular near anchor honoring (max s_max s))
    where
      hi : Widened s (max s_max s)
      hi = top s_max s (diagonal_law min-x max-x min-y max-y LX GX LY GY) L B

      go : (b : Bool) → Widened s (cond b (max s_max s) (widen piece n ctx rectangular near anchor honoring s_max 24 s (max s_max s)))
      go true = hi
      go false =
          let m =
          widen_between piece n ctx rectangular near anchor honoring s_max 24 s (max s_max s) L.sized hi.length.sized L.nonneg hi.length.nonneg hi.least in
          longer s _ L m.sized m.nonneg (le_trans m.high hi.few) m.low
