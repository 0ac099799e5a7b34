-- The edges near a height: a place of that height keeps a clearance from the piece where it keeps it from them.
-- Rests on the law of far edges, and on the least of distances being at least c where each of them is.
use Rattle.std.specs.Prelude.{◌≡◌, ℕ, zero, suc, ◌+◌, ◌<◌, ◌≤◌, Bool, true, false, cond, not, ◌&&◌, T, List, [], ◌∷◌, length, nat_lt, take, set, refl, Float}
use Rattle.std.proofs.Math.Path.{sym}
use Rattle.std.proofs.Common.{ap, ◌∙◌, add-one, T_not, take-suc-set}
use Rattle.std.proofs.Math.Bool.{and-true, and_assoc}
use mathlib.Core.List.{foldl}
use borrow.Author.Tests.{lt-ltb, le-ltb}
use Rattle.std.proofs.Math.Dec.{not_T}
use Rattle.std.specs.Float.{nan, inf, fin, binary64}
use Rattle.std.specs.Float.Ieee.{le, is_nan, of_bits}
use Rattle.std.specs.Float.Ieee.Bits.{is_true, is_false}
use Rattle.laws.specs.Any.{all}
use Rattle.laws.specs.Blocks.{all_last}
use Rattle.laws.specs.Truth.{yes, no}
use Rattle.float.specs.Ops.{◌*ᶠ◌, ◌<ᶠ◌, ◌≤ᶠ◌, literal, 0ᶠ, ∞}
use Rattle.float.specs.Order.{sqrt}
use Rattle.float.specs.Laws.Nan.{Number, lt_number}
use Rattle.float.specs.Laws.Zero.{origin, origin_is}
use Rattle.float.specs.Laws.Compare.{le_trans, lt_le, lt_not_le, not_lt_le, lt_le_trans, le_lt_trans}
use Rattle.float.specs.Laws.Square.{Square, times_self, plus}
use Rattle.float.specs.Laws.Monotone.{root_of_mono}
use Rattle.glyphs.specs.Points.{Ring, vertices, vertex_at}
use Rattle.regions.specs.Ring.{Piece, next}
use Rattle.regions.specs.Clearance.{edge_square, dist_at, closer, best_after, best_of_ring, min_dist_to_rings}
use Rattle.regions.specs.Margin.{low_square, high_square, high_square_lem}
use Rattle.lattice.specs.declared.edges.Edge.{Edge}
use Rattle.lattice.specs.Far.{Sure, Beyond, far_edge}

-- the distance to an edge is not below c
unfoldable pub keeps : Float → Float → Float → Edge → Bool
keeps x y c e = not (sqrt (edge_square x y e.from.x e.from.y e.to.x e.to.y) <ᶠ c)

unfoldable pub keeps_edges : Float → Float → Float → List Edge → Bool
keeps_edges x y c edges = all (keeps x y c) edges

-- a place of the height y has the clearance c where these edges say so
abbrev pub NearEdges : Float → Float → Piece → List Edge → Type 0
NearEdges y c piece edges = (x : Float) → keeps_edges x y c edges ≡ (c ≤ᶠ min_dist_to_rings x y piece)

-- ---- a ring's edges
abbrev pub edge_at : Ring → ℕ → ℕ → Edge
edge_at ring n i = record { from = vertex_at ring i; to = vertex_at ring (next n i) }

unfoldable pub keeps_after : Float → Float → Float → Ring → ℕ → ℕ → Bool
keeps_after x y c ring n zero = true
keeps_after x y c ring n (suc i) = keeps_after x y c ring n i && keeps x y c (edge_at ring n i)

unfoldable pub keeps_ring : Float → Float → Float → Ring → Bool
keeps_ring x y c ring = cond (nat_lt (vertices ring) 2) true (keeps_after x y c ring (vertices ring) (vertices ring))

-- ---- l has become r, which says what l and one edge more say, or l and a ring's
abbrev pub Added : Float → Float → Edge → List Edge → List Edge → Type 0
Added y reach e l r = (c x : Float) → Sure c y reach → keeps_edges x y c r ≡ (keeps_edges x y c l && keeps x y c e)

abbrev pub AddedRing : Float → Float → Ring → List Edge → List Edge → Type 0
AddedRing y reach ring l r = (c x : Float) → Sure c y reach → keeps_edges x y c r ≡ (keeps_edges x y c l && keeps_ring x y c ring)

-- ---- one edge more
pub far_added : (y reach : Float) (e : Edge) (l : List Edge) → Beyond y reach e.from.y e.to.y → Added y reach e l l
unfolding keeps
far_added y reach e l b c x s = rw (far_edge c x y e.from.x e.from.y e.to.x e.to.y reach s b) (sym (and-true (keeps_edges x y c l)))

pub near_added : (y reach : Float) (e : Edge) (m : ℕ) (l : List Edge) → m < length l → Added y reach e (take m l) (take (m + 1) (set l m e))
unfolding keeps_edges
near_added y reach e m l h c x s = rw (add-one, take-suc-set l m e h) (all_last (keeps x y c) (take m l) e)

-- ---- a ring's edges in turn
module _ (y reach : Float) (ring : Ring) where
  -- the first i edges of the ring are added
  abbrev pub AddedAfter : ℕ → ℕ → List Edge → List Edge → Type 0
  AddedAfter n i l r = (c x : Float) → Sure c y reach → keeps_edges x y c r ≡ (keeps_edges x y c l && keeps_after x y c ring n i)

  pub after_none : (n : ℕ) (l : List Edge) → AddedAfter n 0 l l
  unfolding keeps_after
  after_none n l c x s = sym (and-true (keeps_edges x y c l))

  pub after_next : (n i : ℕ) (l m r : List Edge) → AddedAfter n i l m → Added y reach (edge_at ring n i) m r → AddedAfter n (i + 1) l r
  unfolding keeps_after
  after_next n i l m r f g c x s =
      rw (add-one i, g c x s, f c x s) (and_assoc (keeps_edges x y c l) (keeps_after x y c ring n i) (keeps x y c (edge_at ring n i)))

  pub ring_short : (l : List Edge) → vertices ring < 2 → AddedRing y reach ring l l
  unfolding keeps_ring
  ring_short l h c x s = rw (lt-ltb (vertices ring) 2 h) (sym (and-true (keeps_edges x y c l)))

  pub ring_added : (n i : ℕ) (l r : List Edge) → n ≡ vertices ring → 2 ≤ n → i ≡ n → AddedAfter n i l r → AddedRing y reach ring l r
  unfolding keeps_ring
  ring_added n i l r e h f p c x s = rw (← e, le-ltb n 2 h) (p c x s ∙ rw f)

-- ---- the least distance is c at least where every distance is
abbrev keeps_rings : Float → Float → Float → List Ring → Bool
keeps_rings x y c rings = all (keeps_ring x y c) rings

lt_le_false : (d c : Float) → T (d <ᶠ c) → c ≤ᶠ d ≡ false
lt_le_false d c h = is_false (c ≤ᶠ d) (not_T (c ≤ᶠ d) (λ (k : T (c ≤ᶠ d)). lt_not_le d c h k))

closer_at_least : (c d best : Float) → Number c → (c ≤ᶠ closer d best) ≡ (c ≤ᶠ best) && not (d <ᶠ c)
unfolding closer
closer_at_least c d best n = go (d <ᶠ best) (d <ᶠ c) (c ≤ᶠ best) refl refl refl
  where
    go : (s t u : Bool) → d <ᶠ best ≡ s → d <ᶠ c ≡ t → c ≤ᶠ best ≡ u → (c ≤ᶠ cond s d best) ≡ u && not t
    go true true true p q r = lt_le_false d c (yes q)
    go true true false p q r = lt_le_false d c (yes q)
    go true false u p q r =
        let h = not_lt_le c d n (lt_number d best (yes p)).0 (no q) in
        is_true (c ≤ᶠ d) h ∙ sym (and-true u ∙ sym r ∙ is_true (c ≤ᶠ best) (le_trans c d best h (lt_le d best (yes p))))
    go false true true p q r = absurd (T_not (d <ᶠ best) (no p) (lt_le_trans d c best (yes q) (yes r)))
    go false true false p q r = r
    go false false u p q r = r ∙ sym (and-true u)

after_at_least : (x y c best : Float) (ring : Ring) (n i : ℕ) → Number c → (c ≤ᶠ best_after x y best ring n i) ≡ (c ≤ᶠ best) && keeps_after x y c ring n i
unfolding best_after keeps_after keeps
after_at_least x y c best ring n zero k = sym (and-true (c ≤ᶠ best))
after_at_least x y c best ring n (suc i) k =
    closer_at_least c (dist_at x y ring n i) (best_after x y best ring n i) k
    ∙ rw (after_at_least x y c best ring n i k) (and_assoc (c ≤ᶠ best) (keeps_after x y c ring n i) (not (dist_at x y ring n i <ᶠ c)))

ring_at_least : (x y c best : Float) (ring : Ring) → Number c → (c ≤ᶠ best_of_ring x y best ring) ≡ (c ≤ᶠ best) && keeps_ring x y c ring
unfolding best_of_ring keeps_ring
ring_at_least x y c best ring k = go (nat_lt (vertices ring) 2)
  where
    n : ℕ
    n = vertices ring

    go : (t : Bool) → (c ≤ᶠ cond t best (best_after x y best ring n n)) ≡ (c ≤ᶠ best) && cond t true (keeps_after x y c ring n n)
    go true = sym (and-true (c ≤ᶠ best))
    go false = after_at_least x y c best ring n n k

rings_at_least : (x y c best : Float) (rings : List Ring) → Number c → (c ≤ᶠ foldl (best_of_ring x y) best rings) ≡ (c ≤ᶠ best) && keeps_rings x y c rings
unfolding all
rings_at_least x y c best [] k = sym (and-true (c ≤ᶠ best))
rings_at_least x y c best (ring ∷ rings) k =
    rings_at_least x y c (best_of_ring x y best ring) rings k
    ∙ rw (ring_at_least x y c best ring k) (and_assoc (c ≤ᶠ best) (keeps_ring x y c ring) (all (keeps_ring x y c) rings))

under_infinity : (c : Float) → Number c → c ≤ᶠ ∞ ≡ true
unfolding is_nan le of_bits
under_infinity nan k = absurd k
under_infinity (inf true) k = refl
under_infinity (inf false) k = refl
under_infinity (fin s m e) k = refl

-- ---- the rings in turn: l has edges of the piece, and these rings are left
module _ (y reach : Float) (piece : Piece) where
  unfoldable pub Left : List Ring → List Edge → Type 0
  Left rings l = (c x : Float) → Number c → Sure c y reach → (keeps_edges x y c l && keeps_rings x y c rings) ≡ (c ≤ᶠ min_dist_to_rings x y piece)

  pub left_all : Left piece []
  unfolding Left keeps_edges min_dist_to_rings all
  left_all c x k s = sym (rings_at_least x y c ∞ piece k ∙ rw (under_infinity c k))

  pub left_next : (ring : Ring) (rings : List Ring) (l r : List Edge) → Left (ring ∷ rings) l → AddedRing y reach ring l r → Left rings r
  unfolding Left all
  left_next ring rings l r f g c x k s =
      rw (g c x s) (and_assoc (keeps_edges x y c l) (keeps_ring x y c ring) (all (keeps_ring x y c) rings) ∙ f c x k s)

  pub left_none : (c : Float) (l : List Edge) → Number c → Sure c y reach → Left [] l → NearEdges y c piece l
  unfolding Left all
  left_none c l k s f x = sym (and-true (keeps_edges x y c l)) ∙ f c x k s

-- ---- the code's test of one edge, by its square
low_square_lem : (c z : Float) → Square z → T (z <ᶠ low_square c) → T (sqrt z <ᶠ c)
unfolding low_square is_nan
low_square_lem c z s h =
    let v = c *ᶠ c *ᶠ literal 0x3fef_ff2e_48e8_a71e in
    go v (sqrt v <ᶠ c) refl h
  where
    least : (w : Float) → T (z <ᶠ w) → T (le origin z)
    least w l = not_lt_le origin z tt (lt_number z w l).0 s.not_below

    go : (v : Float) (t : Bool) → sqrt v <ᶠ c ≡ t → T (z <ᶠ cond t v 0ᶠ) → T (sqrt z <ᶠ c)
    go v true e l = le_lt_trans (sqrt z) (sqrt v) c (root_of_mono binary64 z v (least v l) (lt_le z v l)) (yes e)
    go v false e l = absurd (lt_not_le z 0ᶠ l (rw origin_is (least 0ᶠ l)))

module _ (x y c z : Float) (e : Edge) (f : z ≡ edge_square x y e.from.x e.from.y e.to.x e.to.y) where
  pub keeps_is : keeps x y c e ≡ not (sqrt z <ᶠ c)
  unfolding keeps
  keeps_is = rw f

  pub keeps_high : T (high_square c ≤ᶠ z) → keeps x y c e ≡ true
  keeps_high h = keeps_is ∙ ap not (is_false (sqrt z <ᶠ c) (not_T (sqrt z <ᶠ c) (λ (l : T (sqrt z <ᶠ c)). lt_not_le (sqrt z) c l (high_square_lem c z h))))

  edge_square_lem : Square z
  unfolding edge_square
  edge_square_lem = rw f (plus _ _ (times_self _) (times_self _))

  pub keeps_low : T (z <ᶠ low_square c) → keeps x y c e ≡ false
  keeps_low h = keeps_is ∙ ap not (is_true (sqrt z <ᶠ c) (low_square_lem c z edge_square_lem h))
