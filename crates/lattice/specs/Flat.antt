-- Points in a slice, x and y in turn: what a slice holds, what it holds once points are written, and one put among them.
-- Rests on the kit's laws of lists.
use Rattle.std.specs.Prelude.{◌≡◌, ℕ, zero, suc, ◌+◌, ◌-◌, ◌*◌, ◌/◌, ◌<◌, ◌≤◌, min, List, [], ◌∷◌, ◌++◌, length}
use Rattle.std.specs.Prelude.{get_or, take, drop, set, slice_index_or, slice_range, slice_set, refl, Float}
use Rattle.std.proofs.Common.{sym, ap, ◌∙◌, append_assoc, arith, length-append, length-take, length-drop, length-take-le}
use Rattle.std.proofs.Common.{take-append-drop, take_all, take-suc, drop-cons, get_or-take}
use Rattle.std.proofs.Math.ListN.{get_or-append}
use Rattle.std.proofs.lemmas.List.{set_at}
use Rattle.std.proofs.Math.Seq.{take-append-add, take-append_seam}
use Rattle.std.specs.Float.{nan}
use Rattle.laws.specs.Lists.{written}
use Rattle.glyphs.specs.declared.rect.Point.{Point}
use Rattle.glyphs.specs.Spots.{spot_at, put_spot, spots_of, flat, length_flat}
use Rattle.lattice.specs.Escape.{point}

-- the first m points of a slice
unfoldable pub points : ℕ → List Float → List Point
points zero l = []
points (suc m) [] = []
points (suc m) (x ∷ []) = []
points (suc m) (x ∷ y ∷ l) = point x y ∷ points m l

abbrev pub point_at : List Float → ℕ → Point
point_at l k = point (slice_index_or l (k * 2) nan) (slice_index_or l (k * 2 + 1) nan)

-- these are the source's points
pub spot_is : (l : List Float) (k : ℕ) → spot_at l k ≡ point_at l k
unfolding spot_at
spot_is l k = refl

pub put_is : (l : List Float) (k : ℕ) (p : Point) → put_spot l k p ≡ slice_set (slice_set l (k * 2) p.x) (k * 2 + 1) p.y
unfolding put_spot
put_is l k p = refl

-- points written to the front of a slice, and how many they are
abbrev pub Puts : List Point → ℕ → List Float → List Float → Type 0
Puts ps n spots spots₀ = (n ≡ length ps) × (spots ≡ written (flat ps) spots₀)

-- the floats from a up to b two places on
unfoldable pub moved : List Float → ℕ → ℕ → List Float
moved l a b = take (a + 2) l ++ (slice_range l a b ++ drop (b + 2) l)

-- ---- what is held
twice : (m : ℕ) → suc m * 2 ≡ suc (suc (m * 2))
twice m = omega arith

pub flat_append : (ps qs : List Point) → flat (ps ++ qs) ≡ flat ps ++ flat qs
unfolding flat
flat_append [] qs = refl
flat_append (p ∷ ps) qs = rw (flat_append ps qs)

pub points_flat : (ps : List Point) (l : List Float) → points (length ps) (flat ps ++ l) ≡ ps
unfolding flat points
points_flat [] l = refl
points_flat (p ∷ ps) l = ap (λ (t : List Point). p ∷ t) (points_flat ps l)

pub flat_points : (m : ℕ) (l : List Float) → m * 2 ≤ length l → flat (points m l) ≡ take (m * 2) l
unfolding flat points
flat_points zero l h = refl
flat_points (suc m) [] h = absurd (omega arith)
flat_points (suc m) (x ∷ []) h = absurd (omega arith)
flat_points (suc m) (x ∷ y ∷ l) h = rw (twice m, flat_points m l (omega arith))

pub length_points : (m : ℕ) (l : List Float) → m * 2 ≤ length l → length (points m l) ≡ m
unfolding points
length_points zero l h = refl
length_points (suc m) [] h = absurd (omega arith)
length_points (suc m) (x ∷ []) h = absurd (omega arith)
length_points (suc m) (x ∷ y ∷ l) h = ap suc (length_points m l (omega arith))

pub points_at : (m : ℕ) (l : List Float) (k : ℕ) (d : Point) → k < m → m * 2 ≤ length l → slice_index_or (points m l) k d ≡ point_at l k
unfolding points
points_at zero l k d g h = absurd (omega arith)
points_at (suc m) [] k d g h = absurd (omega arith)
points_at (suc m) (x ∷ []) k d g h = absurd (omega arith)
points_at (suc m) (x ∷ y ∷ l) zero d g h = refl
points_at (suc m) (x ∷ y ∷ l) (suc k) d g h =
    let e : suc k * 2 ≡ suc (suc (k * 2)) = omega arith in
    let f : suc k * 2 + 1 ≡ suc (suc (k * 2 + 1)) = omega arith in
    rw (f, e) (points_at m l k d (omega arith) (omega arith))

pub take_points : (k m : ℕ) (l : List Float) → k ≤ m → take k (points m l) ≡ points k l
unfolding points
take_points zero m l h = refl
take_points (suc k) zero l h = absurd (omega arith)
take_points (suc k) (suc m) [] h = refl
take_points (suc k) (suc m) (x ∷ []) h = refl
take_points (suc k) (suc m) (x ∷ y ∷ l) h = ap (λ (t : List Point). point x y ∷ t) (take_points k m l (omega arith))

-- the points of a slice that begins with them, and of one that has no others
pub spots_front : (m : ℕ) (l : List Float) → spots_of (take (m * 2) l) ≡ points m l
unfolding spots_of points
spots_front zero l = refl
spots_front (suc m) [] = rw (twice m) refl
spots_front (suc m) (x ∷ []) = rw (twice m) refl
spots_front (suc m) (x ∷ y ∷ l) = rw (twice m) (ap (λ (t : List Point). point x y ∷ t) (spots_front m l))

pub spots_points : (l : List Float) → spots_of l ≡ points (length l / 2) l
unfolding spots_of points
spots_points [] = refl
spots_points (x ∷ []) = refl
spots_points (x ∷ y ∷ l) = let e : suc (suc (length l)) / 2 ≡ suc (length l / 2) = omega arith in rw e (ap (λ (t : List Point). point x y ∷ t) (spots_points l))

pub front_number : (m : ℕ) (l : List Float) → m * 2 ≤ length l → length (take (m * 2) l) / 2 ≡ m
front_number m l h = let n = length-take-le (m * 2) l h in omega arith

drop_points : (k m : ℕ) (l : List Float) → k ≤ m → m * 2 ≤ length l → drop k (points m l) ≡ points (m - k) (drop (k * 2) l)
unfolding points
drop_points zero m l h g = let e : m - 0 ≡ m = omega arith in rw e
drop_points (suc k) zero l h g = absurd (omega arith)
drop_points (suc k) (suc m) [] h g = absurd (omega arith)
drop_points (suc k) (suc m) (x ∷ []) h g = absurd (omega arith)
drop_points (suc k) (suc m) (x ∷ y ∷ l) h g =
    let e : suc m - suc k ≡ m - k = omega arith in
    rw (e, twice k) (drop_points k m l (omega arith) (omega arith))

-- ---- what is written
pub written_points : (ps : List Point) (l : List Float) → points (length ps) (written (flat ps) l) ≡ ps
unfolding written
written_points ps l = points_flat ps (drop (length (flat ps)) l)

pub written_same : (m : ℕ) (l : List Float) → m * 2 ≤ length l → written (flat (points m l)) l ≡ l
unfolding written
written_same m l h =
    rw (flat_points m l h, length-take-le (m * 2) l h) (take-append-drop (m * 2) l)

-- ---- the floats moved on
pub moved_none : (l : List Float) (a : ℕ) → moved l a a ≡ l
unfolding moved
moved_none l a =
    let e : a - a ≡ 0 = omega arith in
    rw e (take-append-drop (a + 2) l)

moved_is : (l : List Float) (a b : ℕ) → moved l a b ≡ take (a + 2) l ++ (slice_range l a b ++ drop (b + 2) l)
unfolding moved
moved_is l a b = refl

pub length_moved : (l : List Float) (a b : ℕ) → a ≤ b → b + 2 ≤ length l → length (moved l a b) ≡ length l
unfolding moved
length_moved l a b h g = simp (length-append, length-take, length-drop) (omega arith)

pub moved_at : (l : List Float) (i j b : ℕ) → j < i → b + 2 ≤ length l → i ≤ b → slice_index_or (moved l i b) j nan ≡ slice_index_or l j nan
unfolding moved
moved_at l i j b h g k =
    get_or-append (take (i + 2) l) _ nan j (simp length-take (omega arith)) ∙ get_or-take (i + 2) l j nan (omega arith)

-- a turn of the loop that moves the floats, from the last down
pub moved_next :
    (l : List Float) (i b : ℕ) → 0 < i → i ≤ b → b + 2 ≤ length l
    → slice_set (moved l i b) (i + 1) (slice_index_or l (i - 1) nan) ≡ moved l (i - 1) b
moved_next l zero b h g k = absurd (omega arith)
moved_next l (suc j) b h g k =
    let rest = take (b - suc j) (drop (suc j) l) ++ drop (b + 2) l in
    let v = get_or l (j + 2) nan in
    let w = get_or l j nan in
    let e1 : suc j + 2 ≡ suc (j + 2) = omega arith in
    let e2 : suc j + 1 ≡ j + 2 = omega arith in
    let e3 : suc j - 1 ≡ j = omega arith in
    let e4 : b - j ≡ suc (b - suc j) = omega arith in
    let n : length (take (j + 2) l) ≡ j + 2 = length-take-le (j + 2) l (omega arith) in
    let from : moved l (suc j) b ≡ take (j + 2) l ++ v ∷ rest =
    moved_is l (suc j) b ∙ rw (e1, take-suc l (j + 2) nan (omega arith)) (append_assoc (take (j + 2) l) (v ∷ []) rest) in
    let to : moved l j b ≡ take (j + 2) l ++ w ∷ rest =
    moved_is l j b ∙ rw (e4, drop-cons l j nan (omega arith)) in
    rw (e2, e3, from, to) (set_at (take (j + 2) l) v rest w (j + 2) n)

-- a point put where there is room
pub put_moved :
    (l : List Float) (a b : ℕ) (x y : Float) → a ≤ b → b + 2 ≤ length l
    → slice_set (slice_set (moved l a b) a x) (a + 1) y ≡ take a l ++ (x ∷ y ∷ (slice_range l a b ++ drop (b + 2) l))
put_moved l a b x y h g =
    let rest = slice_range l a b ++ drop (b + 2) l in
    let u = get_or l a nan in
    let v = get_or l (suc a) nan in
    let e : a + 2 ≡ suc (suc a) = omega arith in
    let n : length (take a l) ≡ a = length-take-le a l (omega arith) in
    let n1 : length (take a l ++ x ∷ []) ≡ a + 1 = simp length-append (omega arith) in
    let from : moved l a b ≡ take a l ++ u ∷ v ∷ rest =
    moved_is l a b
    ∙ rw (e, take-suc l (suc a) nan (omega arith), take-suc l a nan (omega arith)) (simp append_assoc) in
    rw (from, set_at (take a l) u (v ∷ rest) x a n)
    (ap (λ (t : List Float). set t (a + 1) y) (sym (append_assoc (take a l) (x ∷ []) (v ∷ rest)))
    ∙ set_at (take a l ++ x ∷ []) v rest y (a + 1) n1
    ∙ append_assoc (take a l) (x ∷ []) (y ∷ rest))

-- and then the slice is written with p among its first m points, behind k of them, and e stay
pub put_among :
    (l : List Float) (m k e : ℕ) (p : Point) → k ≤ e → e ≤ m → m * 2 ≤ length l → e * 2 + 2 ≤ length l
    → slice_set (slice_set (moved l (k * 2) (e * 2)) (k * 2) p.x) (k * 2 + 1) p.y
    ≡ written (flat (take k (points m l) ++ p ∷ slice_range (points m l) k e)) l
unfolding written flat
put_among l m k e p h g f i =
    let ps = take k (points m l) in
    let qs = take (e - k) (drop k (points m l)) in
    let a : flat ps ≡ take (k * 2) l = rw (take_points k m l (omega arith)) (flat_points k l (omega arith)) in
    let d : e * 2 - k * 2 ≡ (e - k) * 2 = omega arith in
    let b : flat qs ≡ take (e * 2 - k * 2) (drop (k * 2) l) =
    rw (drop_points k m l (omega arith) f, take_points (e - k) (m - k) (drop (k * 2) l) (omega arith), d)
    (flat_points (e - k) (drop (k * 2) l) (simp length-drop (omega arith))) in
    let n : length (flat (ps ++ p ∷ qs)) ≡ e * 2 + 2 =
    length_flat (ps ++ p ∷ qs) ∙ simp (length-append, length-take, length-drop, length_points m l f) (omega arith) in
    put_moved l (k * 2) (e * 2) p.x p.y (omega arith) i
    ∙ rw (n, flat_append ps (p ∷ qs), a, b) (sym (append_assoc (take (k * 2) l) (p.x ∷ p.y ∷ take (e * 2 - k * 2) (drop (k * 2) l)) (drop (e * 2 + 2) l)))

-- ---- an element behind k others, of which all stay but those past cap
pub first_of : {A : Type 0} (q : ℕ) (xs : List A) → take q xs ≡ take (min (length xs) q) xs
first_of zero xs = let e : min (length xs) 0 ≡ 0 = omega arith in rw e
first_of (suc q) [] = let e : min 0 (suc q) ≡ 0 = omega arith in rw e
first_of (suc q) (x ∷ xs) = let e : min (suc (length xs)) (suc q) ≡ suc (min (length xs) q) = omega arith in rw e (ap (λ t. x ∷ t) (first_of q xs))

pub capped :
    {A : Type 0} (cap k : ℕ) (xs : List A) (x : A) → k ≤ length xs → k < cap
    → take cap (take k xs ++ x ∷ drop k xs) ≡ take k xs ++ x ∷ take (min (length xs) (cap - 1) - k) (drop k xs)
capped cap k xs x h g =
    let n : length (take k xs) ≡ k = length-take-le k xs h in
    let c : cap ≡ length (take k xs) + suc (cap - 1 - k) = omega arith in
    let f : min (length (drop k xs)) (cap - 1 - k) ≡ min (length xs) (cap - 1) - k = simp length-drop (omega arith) in
    ap (λ (t : ℕ). take t (take k xs ++ x ∷ drop k xs)) c
    ∙ take-append-add (take k xs) (x ∷ drop k xs) (suc (cap - 1 - k))
    ∙ rw (first_of (cap - 1 - k) (drop k xs), f)

pub full : {A : Type 0} (cap k : ℕ) (xs : List A) (x : A) → k ≤ length xs → length xs ≤ cap → cap ≤ k → take cap (take k xs ++ x ∷ drop k xs) ≡ xs
full cap k xs x h g i =
    let e : cap ≡ length xs = omega arith in
    rw (take_all k xs (omega arith), e) (take-append_seam xs (x ∷ drop k xs))

pub flat_take : (q : ℕ) (ps : List Point) → flat (take q ps) ≡ take (q * 2) (flat ps)
unfolding flat
flat_take zero ps = refl
flat_take (suc q) [] = sym (rw (twice q))
flat_take (suc q) (p ∷ ps) = rw (twice q, flat_take q ps)
