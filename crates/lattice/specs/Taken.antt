-- `take_cells` by what is kept: the nearest free cells, then as many of the nearest blocked ones as are short; and how they are written.
-- Rests on the laws of points written to a slice.
use Rattle.std.specs.Prelude.{◌≡◌, ℕ, ◌+◌, ◌-◌, ◌*◌, ◌≤◌, min, Bool, true, false, cond, ◌||◌, List, ◌++◌, length, take, drop, nat_le, refl, Float}
use Rattle.std.proofs.Common.{sym, ap, ◌∙◌, append-nil, arith, leb-true, leb-false, length-append, length-take, take_all, take-take, take_at, drop-drop}
use Rattle.std.proofs.Math.Seq.{take-nil, paste, drop-append-add}
use Rattle.std.proofs.lemmas.List.{take-append-le}
use Rattle.laws.specs.Lists.{written, length_written}
use Rattle.glyphs.specs.declared.rect.Point.{Point}
use Rattle.glyphs.specs.Spots.{flat, length_flat}
use Rattle.lattice.specs.Flat.{flat_append, flat_take, first_of}
use Rattle.lattice.specs.Gather.{kept}
use Rattle.lattice.specs.Held.{Holds}
use Rattle.lattice.specs.Lattice.{HexCells, take_cells, sort_by_anchor}
use Rattle.lattice.specs.Spread.{length_sort}
use Rattle.lattice.specs.declared.count.Counts.{Counts}

-- free ones first
abbrev pub filled : ℕ → HexCells → List Point
filled n cells = cells.free ++ take (n - length cells.free) cells.blocked

chosen :
    (n : ℕ) (anchor : Point) (cells : HexCells) (honoring b : Bool) → nat_le n (length cells.free) ≡ b
    → let free = sort_by_anchor anchor cells.free in
    cond (honoring || b) (take n free) (free ++ take (n - length cells.free) (sort_by_anchor anchor cells.blocked))
    ≡ filled n (kept anchor n (cond honoring 0 n) cells)
chosen n anchor cells true b e =
    let free = take n (sort_by_anchor anchor cells.free) in
    sym (ap (λ (t : List Point). free ++ t) (take-nil (n - length free)) ∙ append-nil free)
chosen n anchor cells false true e =
    let free = sort_by_anchor anchor cells.free in
    let h = leb-true n (length cells.free) e in
    let k : n - length (take n free) ≡ 0 = rw (length-take n free, length_sort anchor cells.free) (omega arith) in
    sym (ap (λ (m : ℕ). take n free ++ take m (take n (sort_by_anchor anchor cells.blocked))) k ∙ append-nil (take n free))
chosen n anchor cells false false e =
    let free = sort_by_anchor anchor cells.free in
    let h = leb-false n (length cells.free) e in
    let k : take n free ≡ free = take_all n free (rw (length_sort anchor cells.free) (omega arith)) in
    rw (k, length_sort anchor cells.free, take-take (n - length cells.free) n (sort_by_anchor anchor cells.blocked) (omega arith))

pub taken :
    (n : ℕ) (anchor : Point) (cells : HexCells) (honoring : Bool)
    → take_cells cells n anchor honoring ≡ filled n (kept anchor n (cond honoring 0 n) cells)
unfolding take_cells
taken n anchor cells honoring = chosen n anchor cells honoring (nat_le n (length cells.free)) refl

-- blocked cells copied behind the free ones
pub append_cells :
    (ps qs : List Point) (l b : List Float) (q : ℕ) → q ≤ length qs → (length ps + q) * 2 ≤ length l
    → paste (written (flat ps) l) (length ps * 2) (written (flat qs) b) (q * 2) ≡ written (flat (ps ++ take q qs)) l
unfolding written
append_cells ps qs l b q h g =
    let n = length_flat ps in
    let e1 : take (length ps * 2) (flat ps ++ drop (length (flat ps)) l) ≡ flat ps = take_at (flat ps) (drop (length (flat ps)) l) (length ps * 2) n in
    let e2 : take (q * 2) (flat qs ++ drop (length (flat qs)) b) ≡ flat (take q qs) =
    take-append-le (q * 2) (flat qs) (drop (length (flat qs)) b) (rw (length_flat qs) (omega arith)) ∙ sym (flat_take q qs) in
    let e3 : drop (length ps * 2 + q * 2) (flat ps ++ drop (length (flat ps)) l) ≡ drop (length ps * 2 + q * 2) l =
    rw (← n) (drop-append-add (flat ps) (drop (length (flat ps)) l) (q * 2) ∙ drop-drop (q * 2) (length (flat ps)) l) in
    let m : length (flat (ps ++ take q qs)) ≡ length ps * 2 + q * 2 = length_flat (ps ++ take q qs) ∙ simp (length-append, length-take) (omega arith) in
    rw (e1, e2, e3, m, flat_append ps (take q qs))

pub none_if_le : (honoring : Bool) (n : ℕ) → cond honoring 0 n ≤ n
none_if_le true n = omega arith
none_if_le false n = omega arith

-- the numbers kept are no more than are wanted
pub kept_le :
    (anchor : Point) (nf nb : ℕ) (cells : HexCells) (t : Counts) (f b f₀ b₀ : List Float) → Holds (kept anchor nf nb cells) t f b f₀ b₀
    → (t.free ≤ nf) × (t.blocked ≤ nb)
kept_le anchor nf nb cells t f b f₀ b₀ h =
    let n : t.free ≡ length (take nf (sort_by_anchor anchor cells.free)) = ap (λ (x : Counts). x.free) h.counts in
    let m : t.blocked ≡ length (take nb (sort_by_anchor anchor cells.blocked)) = ap (λ (x : Counts). x.blocked) h.counts in
    (omega (arith, length-take nf (sort_by_anchor anchor cells.free)), omega (arith, length-take nb (sort_by_anchor anchor cells.blocked)))

pub kept_lengths :
    (anchor : Point) (nf nb : ℕ) (cells : HexCells) (t : Counts) (f b f₀ b₀ : List Float) → Holds (kept anchor nf nb cells) t f b f₀ b₀
    → nf * 2 ≤ length f₀ → nb * 2 ≤ length b₀ → (length f ≡ length f₀) × (length b ≡ length b₀)
kept_lengths anchor nf nb cells t f b f₀ b₀ h n m =
    let free = take nf (sort_by_anchor anchor cells.free) in
    let blocked = take nb (sort_by_anchor anchor cells.blocked) in (
      ap length h.free_is ∙ length_written (flat free) f₀ (omega (arith, length_flat free, length-take nf (sort_by_anchor anchor cells.free))),
      ap length h.blocked_is ∙ length_written (flat blocked) b₀ (omega (arith, length_flat blocked, length-take nb (sort_by_anchor anchor cells.blocked))),
    )

-- and what is filled up is written
pub fill :
    (n : ℕ) (cells : HexCells) (t : Counts) (f b f₀ b₀ : List Float) → Holds cells t f b f₀ b₀ → length cells.free ≤ n → n * 2 ≤ length f₀
    → (more : ℕ) → more ≡ min (n - t.free) t.blocked
    → (t.free + more ≡ length (filled n cells)) × (paste f (t.free * 2) b (more * 2) ≡ written (flat (filled n cells)) f₀)
fill n cells t f b f₀ b₀ h k room more e =
    let tf : t.free ≡ length cells.free = ap (λ (x : Counts). x.free) h.counts in
    let tb : t.blocked ≡ length cells.blocked = ap (λ (x : Counts). x.blocked) h.counts in
    let m : more ≡ min (length cells.blocked) (n - length cells.free) = omega arith in
    let same : take more cells.blocked ≡ take (n - length cells.free) cells.blocked =
    ap (λ (q : ℕ). take q cells.blocked) m ∙ sym (first_of (n - length cells.free) cells.blocked) in (
      simp (length-append, length-take) (omega arith),
      rw (tf, h.free_is, h.blocked_is)
          (append_cells cells.free cells.blocked f₀ b₀ more (omega arith) (omega arith) ∙ ap (λ (qs : List Point). written (flat (cells.free ++ qs)) f₀) same),
    )
