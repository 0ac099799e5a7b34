-- A clearance whose root is not taken, and what is asked of it without the root: definitions for the code, and their laws.
-- Rests on the law of the least square's root and on the laws of a margin's squares.
use Rattle.std.specs.Prelude.{◌≡◌, refl, Bool, true, false, not, cond, ◌||◌, zero, suc, T, Float}
use Rattle.std.proofs.Common.{sym, ap, ◌∙◌, T_not}
use Rattle.std.specs.Float.{nan, inf, fin, binary64}
use Rattle.std.specs.Float.Ieee.{neg, lt, le}
use Rattle.std.specs.Float.Ieee.Bits.{is_true}
use Rattle.laws.specs.Truth.{no, refuted}
use Rattle.float.specs.Ops.{◌<ᶠ◌, 0ᶠ, ∞}
use Rattle.float.specs.Order.{sqrt}
use Rattle.float.specs.Root.{root_of}
use Rattle.float.specs.Laws.Nan.{le_number}
use Rattle.float.specs.Laws.Zero.{origin, origin_is, negative_below, negative_not_above}
use Rattle.float.specs.Laws.Compare.{lt_le, lt_not_le, le_lt_trans}
use Rattle.float.specs.Laws.Monotone.{root_of_mono}
use Rattle.regions.specs.Ring.{Piece}
use Rattle.regions.specs.Clearance.{within, min_dist_to_rings, signed_clearance}
use Rattle.regions.specs.Squares.{least_of_rings}
use Rattle.regions.specs.Least.{least_root, rings_good, ∞-good, dist_least, at_least_zero}
use Rattle.regions.specs.Margin.{low_square, high_square, root_number, low_square_lem, high_square_lem}

-- the square of the distance inside, the clearance itself outside
unfoldable pub unrooted : Float → Float → Piece → Float
unrooted px py piece =
    let square = least_of_rings px py piece in
    cond (within px py piece) square (neg (sqrt square))

-- a clearance by its square, the root taken always or outside only
unfoldable pub rooted_if : Bool → Bool → Float → Float
rooted_if always inside square = cond (always || not inside) (cond inside (sqrt square) (neg (sqrt square))) square

-- the clearance that it stands for
unfoldable pub rooted : Float → Float
rooted u = cond (u <ᶠ 0ᶠ) u (sqrt u)

-- ---- laws

not_below : (u : Float) → T (le origin u) → u <ᶠ 0ᶠ ≡ false
not_below u h = refuted (u <ᶠ 0ᶠ) (λ (k : T (lt u 0ᶠ)). lt_not_le u origin (rw origin_is at k) h)

rooted_above : (u : Float) → T (le origin u) → rooted u ≡ sqrt u
unfolding rooted
rooted_above u h = rw (not_below u h)

below_clash : (x : Float) → T (lt x origin) → x <ᶠ 0ᶠ ≡ false → ⊥
below_clash x h e = T_not (x <ᶠ 0ᶠ) (no e) (rw origin_is h)

-- what is not above zero, and not below it, is its own root
own_root : (d : Float) → T (le origin d) → neg d <ᶠ 0ᶠ ≡ false → sqrt (neg d) ≡ neg d
unfolding neg root_of
own_root nan h e = refl
own_root (inf true) h e = absurd (unfold le in h)
own_root (inf false) h e = absurd (below_clash (inf true) (unfold lt in tt) e)
own_root (fin s zero x) h e = refl
own_root (fin true (suc m) x) h e = absurd (negative_not_above m x h)
own_root (fin false (suc m) x) h e = absurd (below_clash (fin true (suc m) x) (negative_below m x) e)

rooted_neg : (d : Float) → T (le origin d) → rooted (neg d) ≡ neg d
unfolding rooted
rooted_neg d h = go (neg d <ᶠ 0ᶠ) refl
  where
    go : (t : Bool) → neg d <ᶠ 0ᶠ ≡ t → cond t (neg d) (sqrt (neg d)) ≡ neg d
    go true e = refl
    go false e = own_root d h e

least_above : (px py : Float) (piece : Piece) → T (le origin (least_of_rings px py piece))
unfolding least_of_rings
least_above px py piece = at_least_zero _ (rings_good px py ∞ piece ∞-good)

pub rooted_clearance : (px py : Float) (piece : Piece) → rooted (unrooted px py piece) ≡ signed_clearance px py piece
unfolding unrooted signed_clearance
rooted_clearance px py piece = go (within px py piece)
  where
    go :
        (t : Bool)
        → rooted (cond t (least_of_rings px py piece) (neg (sqrt (least_of_rings px py piece))))
        ≡ cond t (min_dist_to_rings px py piece) (neg (min_dist_to_rings px py piece))
    go true = rooted_above (least_of_rings px py piece) (least_above px py piece) ∙ sym (least_root px py piece)
    go false = rooted_neg (sqrt (least_of_rings px py piece)) (rw (← least_root px py piece) (dist_least px py piece)) ∙ ap neg (sym (least_root px py piece))

pub always_rooted : (px py : Float) (piece : Piece) → rooted_if true (within px py piece) (least_of_rings px py piece) ≡ signed_clearance px py piece
unfolding rooted_if signed_clearance
always_rooted px py piece = rw (least_root px py piece)

pub rooted_outside : (px py : Float) (piece : Piece) → rooted_if false (within px py piece) (least_of_rings px py piece) ≡ unrooted px py piece
unfolding rooted_if unrooted
rooted_outside px py piece = go (within px py piece)
  where
    go : (t : Bool) → rooted_if false t (least_of_rings px py piece) ≡ cond t (least_of_rings px py piece) (neg (sqrt (least_of_rings px py piece)))
    go true = refl
    go false = refl

pub high_not_below : (c u : Float) → T (le (high_square c) u) → rooted u <ᶠ c ≡ false
high_not_below c u h =
    let k = high_square_lem c u h in
    rw (rooted_above u (root_number u (le_number c (sqrt u) k).1)) (refuted (sqrt u <ᶠ c) (λ (l : T (lt (sqrt u) c)). lt_not_le (sqrt u) c l k))

pub low_below : (c u : Float) → T (le 0ᶠ u) → T (lt u (low_square c)) → rooted u <ᶠ c ≡ true
low_below c u p h =
    let q : T (le origin u) = rw origin_is at p in
    let r = root_of_mono binary64 u (low_square c) q (lt_le u (low_square c) h) in
    rw (rooted_above u q) (is_true (sqrt u <ᶠ c) (le_lt_trans (sqrt u) (sqrt (low_square c)) c r (low_square_lem c u q h)))
