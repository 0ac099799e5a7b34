-- Obstacles as they lie in a list of floats, four each: the last of them, those of a list's front, and those that pass a test.
-- Rests on the kit's laws of lists.
use Rattle.std.specs.Prelude.{◌≡◌, ℕ, zero, suc, ◌+◌, ◌-◌, ◌*◌, ◌/◌, ◌<◌, ◌≤◌, Bool}
use Rattle.std.specs.Prelude.{cond, List, [], ◌∷◌, ◌++◌, length, take, slice_index_or, refl, Float}
use Rattle.std.proofs.Common.{ap, ◌∙◌, append-nil, arith, get_or-take, length-take-le}
use Rattle.std.specs.Float.{nan}
use Rattle.glyphs.specs.declared.rect.Rectangle.{Rectangle}
use Rattle.glyphs.specs.Rect.{rect_at, rects_from, rectangles, filter, filter_turn, rects_step, rects_end}

-- lists that read alike have the same obstacles
pub same_rects :
    (l r : List Float) (m a n : ℕ) → a + n ≤ m → ((i : ℕ) → i < m * 4 → slice_index_or l i nan ≡ slice_index_or r i nan)
    → rects_from l a n ≡ rects_from r a n
unfolding rects_from rect_at
same_rects l r m a zero h e = refl
same_rects l r m a (suc n) h e =
    rw (
      e (a * 4) (omega arith),
      e (a * 4 + 1) (omega arith),
      e (a * 4 + 2) (omega arith),
      e (a * 4 + 3) (omega arith),
      same_rects l r m (a + 1) n (omega arith) e,
    )

pub rects_last : (l : List Float) (a n : ℕ) → rects_from l a (suc n) ≡ rects_from l a n ++ rect_at l (a + n) ∷ []
unfolding rects_from
rects_last l a zero = let e : a + 0 ≡ a = omega arith in rw e
rects_last l a (suc n) =
    let e : a + 1 + n ≡ a + suc n = omega arith in
    ap (λ (t : List Rectangle). rect_at l a ∷ t) (rects_last l (a + 1) n ∙ rw e)

-- the obstacles of the front
pub rects_front : (l : List Float) (m : ℕ) → m * 4 ≤ length l → rectangles (take (m * 4) l) ≡ rects_from l 0 m
unfolding rectangles
rects_front l m h =
    let n : length (take (m * 4) l) / 4 ≡ m = rw (length-take-le (m * 4) l h) (omega arith) in
    rw n (same_rects (take (m * 4) l) l m 0 m (omega arith) (λ (i : ℕ) (k : i < m * 4). get_or-take (m * 4) l i nan k))

-- obstacle k is kept or not
pub filter_step :
    (f : Rectangle → Bool) (l : List Float) (k n : ℕ) (xs : List Rectangle) (rect : Rectangle) (b : Bool) → k < n → rect ≡ rect_at l k
    → b ≡ f rect
    → xs ++ filter f (rects_from l k (n - k)) ≡ (xs ++ cond b (rect ∷ []) []) ++ filter f (rects_from l (k + 1) (n - (k + 1)))
filter_step f l k n xs rect b h e g =
    rw (rects_step l k n h, ← e, g) (filter_turn f xs rect (rects_from l (k + 1) (n - (k + 1))))

pub filter_end : (f : Rectangle → Bool) (l : List Float) (k n : ℕ) (xs : List Rectangle) → n ≤ k → xs ++ filter f (rects_from l k (n - k)) ≡ xs
unfolding filter
filter_end f l k n xs h = rw (rects_end l k n h) (append-nil xs)
