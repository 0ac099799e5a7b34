-- No packer places more marks than it is asked for; that relaxation keeps their number is a law of its crate.
-- Rests on the lengths of parts and sorted lists.
use Rattle.std.specs.Prelude.{◌≡◌, refl, Bool, false, cond, ◌||◌, leb, take, Float, Option}
use Rattle.std.proofs.Math.Bool.{true}
use Rattle.std.proofs.Math.Logic.{inl, inr}
use mathlib.Core.List.{List, [], ◌∷◌, ◌++◌}
use Prim.Native.Nat.{ℕ, zero, suc, ◌+◌, ◌-◌, ◌<◌, ◌≤◌}
use native.Mathlib.Omega.{arith}
use Rattle.std.proofs.Common.{eq-or-lt_of_le, length-append, length-take, leb-false, eq-eqb, ne_eqb}
use Rattle.std.proofs.Math.Dec.{eqb}
use Rattle.std.proofs.Math.ListN.{length}
use Rattle.glyphs.specs.declared.rect.Point.{Point}
use Rattle.glyphs.specs.declared.rect.Rectangle.{Rectangle}
use Rattle.glyphs.specs.declared.stream.Stream.{Stream}
use Rattle.regions.specs.Ring.{Piece}
use Rattle.lattice.specs.declared.context.PackCtx.{PackCtx}
use Rattle.lattice.specs.Lattice.{HexCells, sort_by_anchor, take_cells}
use Rattle.lattice.specs.Spread.{length_sort}
use Rattle.scatter.specs.LowDiscrepancy.{budget, candidate, admits, pass, passes}
use Rattle.scatter.specs.Random.{Thrown, Dart, hit, miss, after_dart, throw, glyphs, throws}

-- ---- the lattice
pub taken_count : (cells : HexCells) (n : ℕ) (anchor : Point) (honoring : Bool) → length (take_cells cells n anchor honoring) ≤ n
unfolding take_cells
taken_count cells n anchor honoring = go honoring (leb n (length cells.free)) refl
  where
    free : List Point
    free = sort_by_anchor anchor cells.free

    more : List Point
    more = take (n - length cells.free) (sort_by_anchor anchor cells.blocked)

    some : length (take n free) ≤ n
    some = rw (length-take n free) (omega arith)

    go : (h b : Bool) → leb n (length cells.free) ≡ b → length (cond (h || b) (take n free) (free ++ more)) ≤ n
    go true b e = some
    go false true e = some
    go false false e =
        let l : length cells.free < n = leb-false n (length cells.free) e in
        rw (length-append free more, length-take (n - length cells.free) (sort_by_anchor anchor cells.blocked), length_sort anchor cells.free) (omega arith)

-- ---- low discrepancy
module _ (piece : Piece) (n : ℕ) (ctx : PackCtx) (near : List Rectangle) (anchor : Option Point) (min-x max-x min-y max-y : Float) where
  grown : (b : Bool) (placed : List Point) (p : Point) → length placed < n → length (cond b (placed ++ p ∷ []) placed) ≤ n
  grown true placed p h = rw (length-append placed (p ∷ [])) (omega arith)
  grown false placed p h = omega arith

  pass_count :
      (honor : Bool) (turns index : ℕ) (placed : List Point) → length placed ≤ n
      → length (pass piece n ctx near anchor min-x max-x min-y max-y honor turns index placed) ≤ n
  unfolding pass
  pass_count honor zero index placed h = h
  pass_count honor (suc turns) index placed h =
      let p = candidate piece n ctx near anchor min-x max-x min-y max-y index in
      let b = admits piece n ctx near anchor min-x max-x min-y max-y honor placed p in
      elim (eq-or-lt_of_le h) [
        | inl e ↦ rw (eq-eqb (length placed) n e) h
        | inr l ↦ rw (ne_eqb (length placed) n (λ (e : length placed ≡ n). omega arith))
            (pass_count honor turns (index + 1) (cond b (placed ++ p ∷ []) placed) (grown b placed p l))
      ]

  pub scattered_count : length (passes piece n ctx near anchor min-x max-x min-y max-y) ≤ n
  unfolding passes
  scattered_count = go (ctx.mode.strict_obstacles || eqb (length near) 0)
    where
      first : List Point
      first = pass piece n ctx near anchor min-x max-x min-y max-y true (budget n) 0 []

      go : (b : Bool) → length (cond b first (pass piece n ctx near anchor min-x max-x min-y max-y false (budget n) 0 first)) ≤ n
      go true = pass_count true (budget n) 0 [] (omega arith)
      go false = pass_count false (budget n) 0 first (pass_count true (budget n) 0 [] (omega arith))

-- ---- random
module _ (piece : Piece) (n attempts : ℕ) (ctx : PackCtx) (near : List Rectangle) (min-x max-x min-y max-y : Float) where
  dart_count :
      (t : Thrown) (d : Dart) (next : Thrown → Thrown) (m : ℕ) → length t.placed ≤ m
      → ((u : Thrown) → length u.placed ≤ suc (length t.placed) → length (next u).placed ≤ m) → length (after_dart next t d).placed ≤ m
  dart_count t (hit p rng) next m h f = f (record { placed = t.placed ++ p ∷ []; rng = rng }) (rw (length-append t.placed (p ∷ [])) (omega arith))
  dart_count t (miss rng) next m h f = h

  glyphs_count :
      (honor : Bool) (left m : ℕ) (t : Thrown) → length t.placed + left ≤ m
      → length (glyphs piece n attempts ctx near min-x max-x min-y max-y honor left t).placed ≤ m
  unfolding glyphs
  glyphs_count honor zero m t h = omega arith
  glyphs_count honor (suc left) m t h =
      dart_count t (throw piece n attempts ctx near min-x max-x min-y max-y honor attempts t.placed t.rng)
      (glyphs piece n attempts ctx near min-x max-x min-y max-y honor left) m (omega arith)
      (λ u l. glyphs_count honor left m u (omega arith))

  pub thrown_count : (rng : Stream) → length (throws piece n attempts ctx near min-x max-x min-y max-y rng).placed ≤ n
  unfolding throws
  thrown_count rng = go (ctx.mode.strict_obstacles || eqb (length near) 0)
    where
      first : Thrown
      first = glyphs piece n attempts ctx near min-x max-x min-y max-y true n (record { placed = []; rng = rng })

      l : length first.placed ≤ n
      l = glyphs_count true n n (record { placed = []; rng = rng }) (omega arith)

      go : (b : Bool) → length (cond b first (glyphs piece n attempts ctx near min-x max-x min-y max-y false (n - length first.placed) first)).placed ≤ n
      go true = l
      go false = glyphs_count false (n - length first.placed) n first (omega (arith, l))
