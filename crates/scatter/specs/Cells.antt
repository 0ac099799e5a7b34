-- The spacing test of low discrepancy by what it reads: the cells that spots are kept in, by the ranks of their numbers.
-- Definitions for the code, with their laws. Rests on the laws of ranks, and of `all` over a block.
use Rattle.std.specs.Prelude.{◌≡◌, refl, ◌⊎◌, Bool, true, false, not, ◌&&◌, ◌||◌, List, [], ◌∷◌, length, get_or, drop, Float}
use Rattle.std.specs.Prelude.{ℕ, zero, suc, ◌-◌, ◌*◌, ◌≤◌, ◌<◌, eqb, leb, ℤ, pos, negsuc}
use Rattle.std.proofs.Common.{sym, inl, inr, arith, ne_eqb}
use Rattle.std.proofs.lemmas.Bool.Decides.{nat_tests}
use Rattle.std.proofs.lemmas.List.Recursion.{and_fails_at}
use Rattle.std.specs.Int.{abs_diff}
use Rattle.std.specs.Simd.{first_chunks}
use Rattle.std.proofs.Math.Bool.{or-true, or-false}
use Rattle.std.proofs.Math.IntN.{suc_ℤ, pred_ℤ}
use Rattle.laws.specs.Any.{all}
use Rattle.laws.specs.Orders.{lt_or_le}
use Rattle.float.specs.Ops.{◌*ᶠ◌, ◌≥ᶠ◌, ε}
use Rattle.float.specs.Order as Float
use Rattle.glyphs.specs.declared.rect.Point.{Point}
use Rattle.glyphs.specs.Spots as Spots
use Rattle.glyphs.specs.Spots.{squared_distance}
use Rattle.lattice.specs.Context.{spacing}
use Rattle.lattice.specs.Span.{middle, rank_of, of_rank, of_high, of_low, of_rank_cast}
use Rattle.lattice.specs.declared.context.PackCtx.{PackCtx}
use Rattle.scatter.specs.LowDiscrepancy.{sameℤ, beside, cell_number, neighbours}
use Rattle.scatter.specs.declared.cells.Cells.{Cells}

unfoldable pub cells_of : PackCtx → Float → Float → Cells
cells_of ctx min-x min-y = record { min_x = min-x; min_y = min-y; size = Float.max (spacing ctx) ε; least = spacing ctx *ᶠ spacing ctx }

unfoldable pub keeps : Cells → Point → Point → Bool
keeps cells p q = not (neighbours cells.min_x cells.min_y cells.size p q) || squared_distance p q ≥ᶠ cells.least

-- ---- numbers beside each other, by rank
same_test : (a b c d : ℕ) → (a ≡ b → c ≡ d) → (c ≡ d → a ≡ b) → eqb a b ≡ eqb c d
same_test a b c d f g = grind (arith, nat_tests)

same_rank : (r s : ℕ) → sameℤ (of_rank r) (of_rank s) ≡ eqb r s
same_rank r s = go (lt_or_le r middle) (lt_or_le s middle)
  where
    go : (r < middle) ⊎ (middle ≤ r) → (s < middle) ⊎ (middle ≤ s) → sameℤ (of_rank r) (of_rank s) ≡ eqb r s
    go (inl h) (inl k) = rw (of_low r h, of_low s k) (same_test (middle - suc r) (middle - suc s) r s (λ e. omega arith) (λ e. omega arith))
    go (inl h) (inr k) = rw (of_low r h, of_high s k) (sym (ne_eqb r s (λ e. omega arith)))
    go (inr h) (inl k) = rw (of_high r h, of_low s k) (sym (ne_eqb r s (λ e. omega arith)))
    go (inr h) (inr k) = rw (of_high r h, of_high s k) (same_test (r - middle) (s - middle) r s (λ e. omega arith) (λ e. omega arith))

suc_rank : (r : ℕ) → suc_ℤ (of_rank r) ≡ of_rank (suc r)
suc_rank r = go (lt_or_le r middle) (lt_or_le (suc r) middle)
  where
    go : (r < middle) ⊎ (middle ≤ r) → (suc r < middle) ⊎ (middle ≤ suc r) → suc_ℤ (of_rank r) ≡ of_rank (suc r)
    go (inl h) (inl k) = let e : middle - suc r ≡ suc (middle - suc (suc r)) = omega arith in rw (of_low r h, of_low (suc r) k, e)
    go (inl h) (inr k) =
        let e : middle - suc r ≡ 0 = omega arith in
        let f : suc r - middle ≡ 0 = omega arith in
        rw (of_low r h, of_high (suc r) k, e, f)
    go (inr h) (inl k) = absurd (omega arith)
    go (inr h) (inr k) = let e : suc r - middle ≡ suc (r - middle) = omega arith in rw (of_high r h, of_high (suc r) k, e)

-- what is one below is the same as being one above
turned : (x y : ℤ) → sameℤ y (pred_ℤ x) ≡ sameℤ (suc_ℤ y) x
turned (pos zero) (pos b) = sym (ne_eqb (suc b) 0 (λ e. omega arith))
turned (pos zero) (negsuc zero) = refl
turned (pos zero) (negsuc (suc b)) = ne_eqb (suc b) 0 (λ e. omega arith)
turned (pos (suc a)) (pos b) = same_test b a (suc b) (suc a) (λ e. omega arith) (λ e. omega arith)
turned (pos (suc a)) (negsuc zero) = sym (ne_eqb 0 (suc a) (λ e. omega arith))
turned (pos (suc a)) (negsuc (suc b)) = refl
turned (negsuc a) (pos b) = refl
turned (negsuc a) (negsuc zero) = ne_eqb 0 (suc a) (λ e. omega arith)
turned (negsuc a) (negsuc (suc b)) = same_test (suc b) (suc a) b a (λ e. omega arith) (λ e. omega arith)

three : (r s : ℕ) → (eqb (suc s) r || eqb s r || eqb s (suc r)) ≡ leb (abs_diff r s) 1
three r s = grind (arith, nat_tests)

ranks_beside : (r s : ℕ) → beside (of_rank r) (of_rank s) ≡ leb (abs_diff r s) 1
ranks_beside r s = rw (turned (of_rank r) (of_rank s), suc_rank r, suc_rank s, same_rank (suc s) r, same_rank s r, same_rank s (suc r)) (three r s)

-- the numbers of two cells
pub numbers_beside :
    (low size x y : Float)
    → beside (cell_number low size x) (cell_number low size y) ≡ leb (abs_diff (rank_of (cell_number low size x)) (rank_of (cell_number low size y))) 1
unfolding cell_number
numbers_beside low size x y = rw (of_rank_cast _, of_rank_cast _) at (ranks_beside (rank_of (cell_number low size x)) (rank_of (cell_number low size y)))

-- ---- distances first
pub far_keeps : (cells : Cells) (p q : Point) → squared_distance p q ≥ᶠ cells.least ≡ true → keeps cells p q ≡ true
unfolding keeps
far_keeps cells p q e = rw e (or-true _)

pub near_keeps :
    (cells : Cells) (p q : Point) → squared_distance p q ≥ᶠ cells.least ≡ false
    → keeps cells p q ≡ not (neighbours cells.min_x cells.min_y cells.size p q)
unfolding keeps
near_keeps cells p q e = rw e (or-false _)

-- spots that are all far enough
pub all_far : (cells : Cells) (p : Point) (qs : List Point) → all (Spots.apart p cells.least) qs ≡ true → all (keeps cells p) qs ≡ true
unfolding all Spots.apart
all_far cells p [] e = refl
all_far cells p (q ∷ qs) e = both (squared_distance p q ≥ᶠ cells.least) refl e (all_far cells p qs)
  where
    rest : Bool
    rest = all (Spots.apart p cells.least) qs

    both :
        (t : Bool) → squared_distance p q ≥ᶠ cells.least ≡ t → t && rest ≡ true → (rest ≡ true → all (keeps cells p) qs ≡ true)
        → keeps cells p q && all (keeps cells p) qs ≡ true
    both true f g later = rw (far_keeps cells p q f) (later g)
    both false f g later = let w : ◌≡◌ {A = ℕ} 0 1 = cc in absurd (omega arith)

-- the test of a block's spots, and that of a list whose first blocks are cut off
module _ (cells : Cells) (p : Point) where
  abbrev pub keeps_block : List Float → Bool
  keeps_block block = all (keeps cells p) (Spots.spots_of block)

  pub keeps_cut :
      (k : ℕ) (l : List Float) → keeps_block l ≡ all keeps_block (first_chunks 16 k l) && keeps_block (drop (k * 16) l)
  keeps_cut k l = Spots.all_cut (keeps cells p) k l

-- one spot that fails is enough
pub one_fails : {A : Type 0} (f : A → Bool) (xs : List A) (k : ℕ) (d : A) → k < length xs → f (get_or xs k d) ≡ false → all f xs ≡ false
unfolding all
one_fails f xs k d h e = and_fails_at (all f) f refl (λ _ _. refl) xs k d h e
