-- The cells that two slices hold while a walk gathers them, free ones in the one and blocked ones in the other, with their numbers.
-- Rests on the laws of points written to a slice and read back.
use Rattle.std.specs.Prelude.{◌≡◌, ℕ, suc, ◌+◌, ◌-◌, ◌*◌, ◌≤◌, min, true, false, List, ◌++◌, length, take, drop, refl, Float}
use Rattle.std.proofs.Common.{sym, ap, ◌∙◌, subst, arith, length-take, drop-drop}
use Rattle.std.proofs.Math.Seq.{drop-append-add}
use Rattle.laws.specs.Bounded.{insert_behind, length_behind}
use Rattle.laws.specs.Lists.{written, length_written}
use Rattle.float.specs.Ops.{◌≥ᶠ◌}
use Rattle.glyphs.specs.declared.rect.Point.{Point}
use Rattle.glyphs.specs.declared.rect.Rectangle.{Rectangle}
use Rattle.glyphs.specs.Rect.{clear_of_obstacles}
use Rattle.regions.specs.Ring.{Piece}
use Rattle.regions.specs.Clearance.{signed_clearance}
use Rattle.glyphs.specs.Spots.{flat, length_flat}
use Rattle.lattice.specs.Flat.{points, written_points, written_same}
use Rattle.lattice.specs.Gather.{Fit, Grown, gather_cell}
use Rattle.lattice.specs.Lattice.{HexCells, no_cells, by_anchor}
use Rattle.lattice.specs.Tally.{counts_of, none}
use Rattle.lattice.specs.declared.count.Counts.{Counts}

-- the cells in two slices
abbrev pub held_in : Counts → List Float → List Float → HexCells
held_in t free blocked = record { free = points t.free free; blocked = points t.blocked blocked }

-- two slices that were free₀ and blocked₀ are now written with the cells, of which t are the numbers
pub record Holds (cells : HexCells) (t : Counts) (free blocked free₀ blocked₀ : List Float) : Type 0 where
  pub counts : t ≡ counts_of cells
  pub free_is : free ≡ written (flat cells.free) free₀
  pub blocked_is : blocked ≡ written (flat cells.blocked) blocked₀

-- what is asked of the slices before more cells are gathered
pub record Ready (anchor : Point) (nf nb : ℕ) (t : Counts) (free blocked : List Float) : Type 0 where
  pub counts : t ≡ counts_of (held_in t free blocked)
  pub fit : Fit anchor nf nb (held_in t free blocked)
  pub free_room : nf * 2 ≤ length free
  pub blocked_room : nb * 2 ≤ length blocked

over : (xs ys l : List Float) → length xs ≤ length ys → written ys (written xs l) ≡ written ys l
unfolding written
over xs ys l h =
    let e : length ys ≡ length xs + (length ys - length xs) = omega arith in
    ap (λ (t : List Float). ys ++ t)
    (ap (λ (n : ℕ). drop n (xs ++ drop (length xs) l)) e
    ∙ drop-append-add xs (drop (length xs) l) (length ys - length xs)
    ∙ drop-drop (length ys - length xs) (length xs) l
    ∙ ap (λ (n : ℕ). drop n l) (sym e))

over_flat : (ps qs : List Point) (l : List Float) → length ps ≤ length qs → written (flat qs) (written (flat ps) l) ≡ written (flat qs) l
over_flat ps qs l h = over (flat ps) (flat qs) l (omega (arith, length_flat ps, length_flat qs))

-- what is written is read back
pub holds_read : (cells : HexCells) (t : Counts) (f b f₀ b₀ : List Float) → Holds cells t f b f₀ b₀ → held_in t f b ≡ cells
holds_read cells t f b f₀ b₀ h =
    let n : t.free ≡ length cells.free = ap (λ (x : Counts). x.free) h.counts in
    let m : t.blocked ≡ length cells.blocked = ap (λ (x : Counts). x.blocked) h.counts in
    let e : points t.free f ≡ cells.free = rw (n, h.free_is) (written_points cells.free f₀) in
    let g : points t.blocked b ≡ cells.blocked = rw (m, h.blocked_is) (written_points cells.blocked b₀) in
    rw (e, g)

pub holds_as : {cells later : HexCells} {t : Counts} {f b f₀ b₀ : List Float} → Holds cells t f b f₀ b₀ → cells ≡ later → Holds later t f b f₀ b₀
holds_as {t = t} {f = f} {b = b} {f₀ = f₀} {b₀ = b₀} h e = subst (λ (x : HexCells). Holds x t f b f₀ b₀) e h

pub ready_none : (anchor : Point) (nf nb : ℕ) (f b : List Float) → nf * 2 ≤ length f → nb * 2 ≤ length b → Ready anchor nf nb none f b
unfolding points
ready_none anchor nf nb f b h k =
    record {
      counts = refl;
      fit = record { free_fits = omega arith; blocked_fits = omega arith; free_order = tt; blocked_order = tt };
      free_room = h;
      blocked_room = k;
    }

pub held_none : (f b : List Float) → held_in none f b ≡ no_cells
unfolding points
held_none f b = refl

pub holds_none : (f b : List Float) → Holds no_cells none f b f b
unfolding written flat
holds_none f b = record { counts = refl; free_is = refl; blocked_is = refl }

module _ (anchor : Point) (nf nb : ℕ) (t : Counts) (f b : List Float) (r : Ready anchor nf nb t f b) where
  free_number : t.free ≡ length (points t.free f)
  free_number = ap (λ (x : Counts). x.free) r.counts

  blocked_number : t.blocked ≡ length (points t.blocked b)
  blocked_number = ap (λ (x : Counts). x.blocked) r.counts

  pub free_le : t.free ≤ nf
  free_le = omega (arith, free_number, r.fit.free_fits)

  pub blocked_le : t.blocked ≤ nb
  blocked_le = omega (arith, blocked_number, r.fit.blocked_fits)

  same_free : f ≡ written (flat (points t.free f)) f
  same_free = sym (written_same t.free f (omega (arith, free_le, r.free_room)))

  same_blocked : b ≡ written (flat (points t.blocked b)) b
  same_blocked = sym (written_same t.blocked b (omega (arith, blocked_le, r.blocked_room)))

  pub holds_start : Holds (held_in t f b) t f b f b
  holds_start = record { counts = r.counts; free_is = same_free; blocked_is = same_blocked }

  -- more cells gathered, into slices that were f₀ and b₀ at first
  pub turn :
      (f₀ b₀ : List Float) → Holds (held_in t f b) t f b f₀ b₀
      → (cells : HexCells) → Fit anchor nf nb cells × Grown (held_in t f b) cells
      → (t' : Counts) (f' b' : List Float) → Holds cells t' f' b' f b
      → (held_in t' f' b' ≡ cells) × Ready anchor nf nb t' f' b' × Holds (held_in t' f' b') t' f' b' f₀ b₀ × (length f' ≡ length f) × (length b' ≡ length b)
  turn f₀ b₀ h cells g t' f' b' k =
      let e = holds_read cells t' f' b' f b k in
      let n : length f' ≡ length f =
      ap length k.free_is ∙ length_written (flat cells.free) f (omega (arith, length_flat cells.free, g.0.free_fits, r.free_room)) in
      let m : length b' ≡ length b =
      ap length k.blocked_is ∙ length_written (flat cells.blocked) b (omega (arith, length_flat cells.blocked, g.0.blocked_fits, r.blocked_room)) in (
        e,
        record {
          counts = k.counts ∙ ap counts_of (sym e);
          fit = subst (λ (x : HexCells). Fit anchor nf nb x) (sym e) g.0;
          free_room = omega (arith, r.free_room);
          blocked_room = omega (arith, r.blocked_room);
        },
        subst (λ (x : HexCells). Holds x t' f' b' f₀ b₀) (sym e) (record {
          counts = k.counts;
          free_is = k.free_is ∙ ap (written (flat cells.free)) h.free_is ∙ over_flat (points t.free f) cells.free f₀ g.1.0;
          blocked_is = k.blocked_is ∙ ap (written (flat cells.blocked)) h.blocked_is ∙ over_flat (points t.blocked b) cells.blocked b₀ g.1.1;
        }),
        n,
        m,
      )

  -- ---- one cell
  kept_number :
      (n : ℕ) (p : Point) (ps : List Point) (m k : ℕ) → m ≡ length ps → k ≡ min (suc m) n
      → k ≡ length (take n (insert_behind (by_anchor anchor) p ps))
  kept_number n p ps m k e g =
      let more = insert_behind (by_anchor anchor) p ps in
      let i : length (take n more) ≡ min n (suc (length ps)) = length-take n more ∙ ap (min n) (length_behind (by_anchor anchor) p ps) in
      omega arith

  module _ (piece : Piece) (c : Float) (near : List Rectangle) (p : Point) where
    pub holds_blocked :
        signed_clearance p.x p.y piece ≥ᶠ c ≡ true → clear_of_obstacles p.x p.y near c ≡ false
        → (k : ℕ) → k ≡ min (suc t.blocked) nb → (b' : List Float) → b' ≡ written (flat (take nb (insert_behind (by_anchor anchor) p (points t.blocked b)))) b
        → Holds (gather_cell piece c near anchor nf nb (held_in t f b) p) (record { free = t.free; blocked = k }) f b' f b
    unfolding gather_cell
    holds_blocked e g k n b' h =
        let i : k ≡ length (take nb (insert_behind (by_anchor anchor) p (points t.blocked b))) =
        kept_number nb p (points t.blocked b) t.blocked k blocked_number n in
        let j = free_number in
        rw (e, g) (record { counts = cc; free_is = same_free; blocked_is = h })
