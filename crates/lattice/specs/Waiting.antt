-- Free cells on their way to those that are kept in order: a few wait in a run of their own, in order too, and are put among the others together.
-- Rests on the laws of a run put among others, and of points written to a slice and read back.
use Rattle.std.specs.Prelude.{◌≡◌, ℕ, suc, ◌+◌, ◌*◌, ◌<◌, ◌≤◌, min, List, length, take, refl, Float}
use Rattle.std.proofs.Math.Path.{sym, ap, subst}
use Rattle.std.proofs.Common.{◌∙◌, arith, length-take, take_all}
use Rattle.std.proofs.Math.Seq.{take-take}
use Rattle.laws.specs.Bounded.{insert_behind, length_behind, take_ascending, behind_ascending}
use Rattle.laws.specs.Lists.{written, length_written}
use Rattle.laws.specs.Sorted.{Ascending}
use Rattle.glyphs.specs.declared.rect.Point.{Point}
use Rattle.glyphs.specs.Spots.{flat, length_flat}
use Rattle.lattice.specs.Flat.{points, length_points, written_points, written_same}
use Rattle.lattice.specs.Keys.{linear_by}
use Rattle.lattice.specs.Lattice.{by_anchor}
use Rattle.lattice.specs.Merge.{inserted, inserted_none, length_inserted, inserted_ascending, kept_more}
use Rattle.lattice.specs.declared.waiting.Free.{Free}

-- what is asked of the two slices
pub record Line (anchor : Point) (nf : ℕ) (t : Free) (free run : List Float) : Type 0 where
  pub kept_le : t.kept ≤ nf
  pub room : nf * 2 ≤ length free
  pub order : Ascending (by_anchor anchor) (points t.kept free)
  pub waiting_le : t.waiting ≤ 32
  pub run_order : Ascending (by_anchor anchor) (points t.waiting run)

-- the cells, once those that wait are among the others
abbrev pub lined : Point → ℕ → Free → List Float → List Float → List Point
lined anchor nf t free run = take nf (inserted (by_anchor anchor) (points t.kept free) (points t.waiting run))

-- more cells are kept, and behind them the slice is as it was
pub record Onward (t r : Free) (free₀ free : List Float) : Type 0 where
  pub grown : t.kept ≤ r.kept
  pub as_long : length free ≡ length free₀
  pub free_is : free ≡ written (flat (points r.kept free)) free₀

module _ (anchor : Point) (nf : ℕ) (t : Free) (f g : List Float) (h : Line anchor nf t f g) where
  pub onward_same : Onward t t f f
  onward_same = record { grown = omega arith; as_long = refl; free_is = sym (written_same t.kept f (omega (arith, h.kept_le, h.room))) }

  abbrev all : List Point
  all = inserted (by_anchor anchor) (points t.kept f) (points t.waiting g)

  pub lined_order : Ascending (by_anchor anchor) (lined anchor nf t f g)
  lined_order =
      take_ascending (by_anchor anchor) nf all (inserted_ascending (by_anchor anchor) (linear_by anchor) (points t.kept f) (points t.waiting g) h.order)

  module _ (room : 64 ≤ length g) where
    pub length_lined : length (lined anchor nf t f g) ≡ min (t.kept + t.waiting) nf
    length_lined =
        let n = length_points t.kept f (omega (arith, h.kept_le, h.room)) in
        let m = length_points t.waiting g (omega (arith, h.waiting_le, room)) in
        omega (arith, length-take nf all, length_inserted (by_anchor anchor) (points t.kept f) (points t.waiting g), n, m)

    -- those that wait put among the others
    pub flushed :
        (m : ℕ) (f' : List Float) → m ≡ min (t.kept + t.waiting) nf → f' ≡ written (flat (lined anchor nf t f g)) f
        → let r : Free = record { kept = m; waiting = 0 } in
        Line anchor nf r f' g × (lined anchor nf r f' g ≡ lined anchor nf t f g) × Onward t r f f'
    unfolding points
    flushed m f' n e =
        let c : length (lined anchor nf t f g) ≡ m = length_lined ∙ sym n in
        let ps = lined anchor nf t f g in
        let k : length f' ≡ length f = ap length e ∙ length_written (flat ps) f (omega (arith, length_flat ps, h.room)) in
        let q : points m f' ≡ lined anchor nf t f g =
        ap (λ (l : List Float). points m l) e ∙ ap (λ (i : ℕ). points i (written (flat ps) f)) (sym c) ∙ written_points ps f in (
          record {
            kept_le = omega arith;
            room = omega (arith, h.room);
            order = subst (Ascending (by_anchor anchor)) (sym q) lined_order;
            waiting_le = omega arith;
            run_order = tt;
          },
          ap (take nf) (inserted_none (by_anchor anchor) (points m f') ∙ q) ∙ take-take nf nf all (omega arith),
          record { grown = omega (arith, h.kept_le); as_long = k; free_is = e ∙ ap (λ (ps : List Point). written (flat ps) f) (sym q) },
        )

    -- one more waits
    pub one_more :
        (p : Point) → t.waiting < 32
        → (n : ℕ) (g' : List Float) → n ≡ min (suc t.waiting) 32 → g' ≡ written (flat (take 32 (insert_behind (by_anchor anchor) p (points t.waiting g)))) g
        → let r : Free = record { kept = t.kept; waiting = n } in
        Line anchor nf r f g' × (lined anchor nf r f g' ≡ take nf (insert_behind (by_anchor anchor) p (lined anchor nf t f g)))
    one_more p s n g' m e =
        let ps = insert_behind (by_anchor anchor) p (points t.waiting g) in
        let k = length_points t.waiting g (omega (arith, h.waiting_le, room)) in
        let c : length ps ≡ n = omega (arith, length_behind (by_anchor anchor) p (points t.waiting g), k) in
        let d : g' ≡ written (flat ps) g = e ∙ ap (λ (l : List Point). written (flat l) g) (take_all 32 ps (omega arith)) in
        let q : points n g' ≡ ps = ap (λ (l : List Float). points n l) d ∙ ap (λ (i : ℕ). points i (written (flat ps) g)) (sym c) ∙ written_points ps g in (
          record {
            kept_le = h.kept_le;
            room = h.room;
            order = h.order;
            waiting_le = omega arith;
            run_order =
                subst (Ascending (by_anchor anchor)) (sym q)
                (behind_ascending (by_anchor anchor) (linear_by anchor) p (points t.waiting g) h.run_order);
          },
          ap (λ (l : List Point). take nf (inserted (by_anchor anchor) (points t.kept f) l)) q
              ∙ kept_more (by_anchor anchor) (linear_by anchor) nf (points t.kept f) (points t.waiting g) p h.order h.run_order,
        )
