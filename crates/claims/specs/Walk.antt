-- What holds of the cells that a lattice walk finds, and of those taken: clearance, obstacles, and any two of them.
-- Rests on the walk judging each cell by the computed tests, and on sorting keeping the elements.
use Rattle.std.specs.Prelude.{Bool, cond, ◌||◌, ℕ, ◌-◌, T, take, Float}
use Rattle.std.proofs.Math.Bool.{true, false}
use mathlib.Core.List.{List, [], ◌∷◌, ◌++◌}
use Rattle.std.proofs.Math.Dec.{leb}
use Rattle.std.proofs.Math.ListN.{length}
use Rattle.laws.specs.Every.{Every, every_append, every_take, every_sort, every_weaken, Pairwise, pairwise_append, pairwise_take, pairwise_sort}
use Rattle.float.specs.Ops.{◌≥ᶠ◌}
use Rattle.glyphs.specs.declared.rect.Point.{Point}
use Rattle.glyphs.specs.declared.rect.Rectangle.{Rectangle}
use Rattle.glyphs.specs.Rect.{clear_of_obstacles}
use Rattle.regions.specs.Ring.{Piece}
use Rattle.regions.specs.Clearance.{signed_clearance}
use Rattle.lattice.specs.Lattice.{HexCells, no_cells, Cap, reached, judge, by_anchor, sort_by_anchor, take_cells}
use Rattle.claims.specs.Kept.{Unblocked, Fits, Stands}

-- what holds of the cells found: R is any relation of two places that holds both ways
pub record Sound (piece : Piece) (inset : Float) (obstacles : List Rectangle) (R : Point → Point → Type 0) (cells : HexCells) : Type 0 where
  pub free_inset : Every (Stands piece inset) cells.free
  pub blocked_inset : Every (Stands piece inset) cells.blocked
  pub free_clear : Every (Unblocked obstacles inset) cells.free
  pub free_apart : Pairwise R cells.free
  pub blocked_apart : Pairwise R cells.blocked
  pub across : Every (λ (p : Point). Every (R p) cells.blocked) cells.free

pub no_cells_lem : (piece : Piece) (inset : Float) (obstacles : List Rectangle) (R : Point → Point → Type 0) → Sound piece inset obstacles R no_cells
no_cells_lem piece inset obstacles R = record { free_inset = tt; blocked_inset = tt; free_clear = tt; free_apart = tt; blocked_apart = tt; across = tt }

module _ (piece : Piece) (inset : Float) (obstacles : List Rectangle) (cap : Cap) (R : Point → Point → Type 0) (both : (p q : Point) → R p q → R q p) where
  -- of the cells found so far and those still to come
  record Ahead (cells : HexCells) (ps : List Point) : Type 0 where
    sound : Sound piece inset obstacles R cells
    free_ahead : Every (λ (p : Point). Every (R p) ps) cells.free
    blocked_ahead : Every (λ (p : Point). Every (R p) ps) cells.blocked
    ahead : Pairwise R ps
    fits : Every Fits ps

  heads : (q : Point) (qs cs : List Point) → Every (λ (p : Point). Every (R p) (q ∷ qs)) cs → Every (λ (p : Point). R p q) cs
  heads q qs cs h = every_weaken (λ (p : Point). Every (R p) (q ∷ qs)) (λ (p : Point). R p q) cs (λ p e. e.0) h

  tails : (q : Point) (qs cs : List Point) → Every (λ (p : Point). Every (R p) (q ∷ qs)) cs → Every (λ (p : Point). Every (R p) qs) cs
  tails q qs cs h = every_weaken (λ (p : Point). Every (R p) (q ∷ qs)) (λ (p : Point). Every (R p) qs) cs (λ p e. e.1) h

  extended : (q : Point) (cs : List Point) → Pairwise R cs → Every (λ (p : Point). R p q) cs → Pairwise R (cs ++ q ∷ [])
  extended q cs p h = pairwise_append R cs (q ∷ []) p (tt, tt) (every_weaken (λ (p : Point). R p q) (λ (p : Point). Every (R p) (q ∷ [])) cs (λ p e. (e, tt)) h)

  freed : (cells : HexCells) (q : Point) (qs : List Point) → Ahead cells (q ∷ qs) → Stands piece inset q → Unblocked obstacles inset q
      → Ahead (record { free = cells.free ++ q ∷ []; blocked = cells.blocked }) qs
  freed cells q qs a i u =
      let s = a.sound in
      let turned : Every (R q) cells.blocked =
      every_weaken (λ (p : Point). R p q) (R q) cells.blocked (λ p e. both p q e) (heads q qs cells.blocked a.blocked_ahead) in
      record {
        sound = record {
          free_inset = every_append (Stands piece inset) cells.free (q ∷ []) s.free_inset (i, tt);
          blocked_inset = s.blocked_inset;
          free_clear = every_append (Unblocked obstacles inset) cells.free (q ∷ []) s.free_clear (u, tt);
          free_apart = extended q cells.free s.free_apart (heads q qs cells.free a.free_ahead);
          blocked_apart = s.blocked_apart;
          across = every_append (λ (p : Point). Every (R p) cells.blocked) cells.free (q ∷ []) s.across (turned, tt);
        };
        free_ahead = every_append (λ (p : Point). Every (R p) qs) cells.free (q ∷ []) (tails q qs cells.free a.free_ahead) (a.ahead.0, tt);
        blocked_ahead = tails q qs cells.blocked a.blocked_ahead;
        ahead = a.ahead.1;
        fits = a.fits.1;
      }

  joined :
      (q : Point) (bs cs : List Point) → Every (λ (p : Point). Every (R p) bs) cs → Every (λ (p : Point). R p q) cs
      → Every (λ (p : Point). Every (R p) (bs ++ q ∷ [])) cs
  joined q bs [] h k = tt
  joined q bs (c ∷ cs) h k = (every_append (R c) bs (q ∷ []) h.0 (k.0, tt), joined q bs cs h.1 k.1)

  walled : (cells : HexCells) (q : Point) (qs : List Point) → Ahead cells (q ∷ qs) → Stands piece inset q
      → Ahead (record { free = cells.free; blocked = cells.blocked ++ q ∷ [] }) qs
  walled cells q qs a i =
      let s = a.sound in
      record {
        sound = record {
          free_inset = s.free_inset;
          blocked_inset = every_append (Stands piece inset) cells.blocked (q ∷ []) s.blocked_inset (i, tt);
          free_clear = s.free_clear;
          free_apart = s.free_apart;
          blocked_apart = extended q cells.blocked s.blocked_apart (heads q qs cells.blocked a.blocked_ahead);
          across = joined q cells.blocked cells.free s.across (heads q qs cells.free a.free_ahead);
        };
        free_ahead = tails q qs cells.free a.free_ahead;
        blocked_ahead = every_append (λ (p : Point). Every (R p) qs) cells.blocked (q ∷ []) (tails q qs cells.blocked a.blocked_ahead) (a.ahead.0, tt);
        ahead = a.ahead.1;
        fits = a.fits.1;
      }

  passed : (cells : HexCells) (q : Point) (qs : List Point) → Ahead cells (q ∷ qs) → Ahead cells qs
  passed cells q qs a =
      record {
        sound = a.sound;
        free_ahead = tails q qs cells.free a.free_ahead;
        blocked_ahead = tails q qs cells.blocked a.blocked_ahead;
        ahead = a.ahead.1;
        fits = a.fits.1;
      }

  step :
      (cells : HexCells) (q : Point) (qs : List Point) → Ahead cells (q ∷ qs)
      → ((c : HexCells) → Ahead c qs → Sound piece inset obstacles R (judge piece inset obstacles cap c qs))
      → Sound piece inset obstacles R (judge piece inset obstacles cap cells (q ∷ qs))
  unfolding judge
  step cells q qs a later =
      go (signed_clearance q.x q.y piece ≥ᶠ inset) (clear_of_obstacles q.x q.y obstacles inset) (reached cap (length (cells.free ++ q ∷ [])))
      (λ t. record { fits = a.fits.0; deep = t }) (λ t. t)
    where
      in_free : HexCells
      in_free = record { free = cells.free ++ q ∷ []; blocked = cells.blocked }

      in_blocked : HexCells
      in_blocked = record { free = cells.free; blocked = cells.blocked ++ q ∷ [] }

      go : (i u r : Bool) → (T i → Stands piece inset q) → (T u → Unblocked obstacles inset q)
          → Sound piece inset obstacles R
          (cond i (cond u (cond r in_free (judge piece inset obstacles cap in_free qs)) (judge piece inset obstacles cap in_blocked qs))
          (judge piece inset obstacles cap cells qs))
      go true true true f g = (freed cells q qs a (f tt) (g tt)).sound
      go true true false f g = later in_free (freed cells q qs a (f tt) (g tt))
      go true false r f g = later in_blocked (walled cells q qs a (f tt))
      go false u r f g = later cells (passed cells q qs a)

  judged : (cells : HexCells) (ps : List Point) → Ahead cells ps → Sound piece inset obstacles R (judge piece inset obstacles cap cells ps)
  unfolding judge
  judged cells [] a = a.sound
  judged cells (q ∷ qs) a = step cells q qs a (λ c b. judged c qs b)

  -- the walk over places of which any two are R
  pub walked : (ps : List Point) → Every Fits ps → Pairwise R ps → Sound piece inset obstacles R (judge piece inset obstacles cap no_cells ps)
  walked ps f h = judged no_cells ps (record { sound = no_cells_lem piece inset obstacles R; free_ahead = tt; blocked_ahead = tt; ahead = h; fits = f })

-- ---- the cells taken
module _
    (piece : Piece) (inset : Float) (obstacles : List Rectangle) (R : Point → Point → Type 0) (both : (p q : Point) → R p q → R q p) (cells : HexCells)
    (s : Sound piece inset obstacles R cells) (n : ℕ) (anchor : Point) where
  abbrev sorted_free : List Point
  sorted_free = sort_by_anchor anchor cells.free

  abbrev more : List Point
  more = take (n - length cells.free) (sort_by_anchor anchor cells.blocked)

  sort_every : (P : Point → Type 0) (ps : List Point) → Every P ps → Every P (sort_by_anchor anchor ps)
  unfolding sort_by_anchor
  sort_every P ps h = every_sort P (by_anchor anchor) ps h

  sort_apart : (ps : List Point) → Pairwise R ps → Pairwise R (sort_by_anchor anchor ps)
  unfolding sort_by_anchor
  sort_apart ps h = pairwise_sort R both (by_anchor anchor) ps h

  more_apart : Every (λ (p : Point). Every (R p) more) sorted_free
  more_apart =
      sort_every (λ (p : Point). Every (R p) more) cells.free
      (every_weaken (λ (p : Point). Every (R p) cells.blocked) (λ (p : Point). Every (R p) more) cells.free
      (λ p h. every_take (R p) (n - length cells.free) (sort_by_anchor anchor cells.blocked) (sort_every (R p) cells.blocked h))
      s.across)

  pub taken_inset : (honoring : Bool) → Every (Stands piece inset) (take_cells cells n anchor honoring)
  unfolding take_cells
  taken_inset honoring = go (honoring || leb n (length cells.free))
    where
      go : (b : Bool) → Every (Stands piece inset) (cond b (take n sorted_free) (sorted_free ++ more))
      go true = every_take (Stands piece inset) n sorted_free (sort_every (Stands piece inset) cells.free s.free_inset)
      go false =
          every_append (Stands piece inset) sorted_free more (sort_every (Stands piece inset) cells.free s.free_inset)
          (every_take (Stands piece inset) (n - length cells.free) (sort_by_anchor anchor cells.blocked)
          (sort_every (Stands piece inset) cells.blocked s.blocked_inset))

  pub taken_apart : (honoring : Bool) → Pairwise R (take_cells cells n anchor honoring)
  unfolding take_cells
  taken_apart honoring = go (honoring || leb n (length cells.free))
    where
      go : (b : Bool) → Pairwise R (cond b (take n sorted_free) (sorted_free ++ more))
      go true = pairwise_take R n sorted_free (sort_apart cells.free s.free_apart)
      go false =
          pairwise_append R sorted_free more (sort_apart cells.free s.free_apart)
          (pairwise_take R (n - length cells.free) (sort_by_anchor anchor cells.blocked) (sort_apart cells.blocked s.blocked_apart))
          more_apart

  -- honouring, only free cells are taken
  pub taken_clear : Every (Unblocked obstacles inset) (take_cells cells n anchor true)
  unfolding take_cells
  taken_clear = every_take (Unblocked obstacles inset) n sorted_free (sort_every (Unblocked obstacles inset) cells.free s.free_clear)
