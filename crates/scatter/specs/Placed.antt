-- Spots placed one after another at the front of a slice, x and y in turn: read back, one more put behind them, and written over.
-- Rests on the laws of written lists.
use Rattle.std.specs.Prelude.{◌≡◌, refl, Bool, true, false, cond, List, [], ◌∷◌, ◌++◌, ℕ, ◌+◌, ◌-◌, ◌*◌, ◌≤◌, ◌<◌, Float, length, take, drop}
use Rattle.std.proofs.Common.{sym, ap, ◌∙◌, append_assoc, arith, length-append, take-append-drop, length-take-le, drop-drop}
use Rattle.std.proofs.Math.Seq.{drop-append-add}
use Rattle.laws.specs.Lists.{written, written_next, length_written}
use Rattle.glyphs.specs.declared.rect.Point.{Point}
use Rattle.glyphs.specs.Spots.{flat, spots_of, put_spot, length_flat, length_spots, flat_spots, spots_take}
use Rattle.lattice.specs.Flat.{flat_append}

-- the spots that are written are at the front
front : (ps : List Point) (l : List Float) → take (length ps) (spots_of (flat ps ++ l)) ≡ ps
unfolding spots_of flat
front [] l = refl
front (p ∷ ps) l = ap (λ (t : List Point). p ∷ t) (front ps l)

pub placed_front : (ps : List Point) (l : List Float) (m : ℕ) → length ps ≡ m → take m (spots_of (written (flat ps) l)) ≡ ps
unfolding written
placed_front ps l m e = rw (← e) (front ps (drop (length (flat ps)) l))

-- the coordinates of the first spots are the first of the slice
pub flat_first : (count : ℕ) (l : List Float) → count * 2 ≤ length l → flat (take count (spots_of l)) ≡ take (count * 2) l
flat_first count l h = rw (← spots_take count l) (flat_spots (take (count * 2) l) count (length-take-le (count * 2) l h))

-- the first m spots of a slice written to it
pub placed_same : (m : ℕ) (l : List Float) → m * 2 ≤ length l → l ≡ written (flat (take m (spots_of l))) l
unfolding written
placed_same m l h =
    rw (flat_first m l h, length-take-le (m * 2) l h) (sym (take-append-drop (m * 2) l))

-- a list written over a shorter one
pub written_over : (xs ys l : List Float) → length ys ≤ length xs → written xs (written ys l) ≡ written xs l
unfolding written
written_over xs ys l h =
    let k = length xs - length ys in
    let e : length xs ≡ length ys + k = omega arith in
    let f : drop (length ys + k) (ys ++ drop (length ys) l) ≡ drop (length ys + k) l = drop-append-add ys (drop (length ys) l) k ∙ drop-drop k (length ys) l in
    ap (λ (t : List Float). xs ++ t) (ap (λ (m : ℕ). drop m (ys ++ drop (length ys) l)) e ∙ f ∙ ap (λ (m : ℕ). drop m l) (sym e))

-- spots placed over fewer
pub placed_over : (ps qs : List Point) (l : List Float) → length ps ≤ length qs → written (flat qs) (written (flat ps) l) ≡ written (flat qs) l
placed_over ps qs l h = written_over (flat qs) (flat ps) l (omega (arith, h, length_flat ps, length_flat qs))

-- one more spot
put_next :
    (ps : List Point) (l : List Float) (m : ℕ) (p : Point) → length ps ≡ m → m * 2 + 2 ≤ length l
    → put_spot (written (flat ps) l) m p ≡ written (flat (ps ++ p ∷ [])) l
unfolding put_spot flat
put_next ps l m p e h =
    let n : length (flat ps) ≡ m * 2 = length_flat ps ∙ ap (λ (k : ℕ). k * 2) e in
    let k : length (flat ps ++ p.x ∷ []) ≡ m * 2 + 1 = simp length-append (omega arith) in
    rw (
      written_next (flat ps) l (m * 2) p.x n (omega arith),
      written_next (flat ps ++ p.x ∷ []) l (m * 2 + 1) p.y k (omega arith),
      append_assoc (flat ps) (p.x ∷ []) (p.y ∷ []),
      flat_append ps (p ∷ []),
    )

-- a slice that differs from another only in its first marks
abbrev pub Front : ℕ → List Float → List Float → Type 0
Front count spots entry = spots ≡ written (flat (take count (spots_of spots))) entry

pub length_first : (count : ℕ) (l : List Float) → count * 2 ≤ length l → length (take count (spots_of l)) ≡ count
length_first count l h = length-take-le count (spots_of l) (rw length_spots (omega arith))

-- marks in place of the first ones
pub front_replaced : (count : ℕ) (ps : List Point) (l part : List Float) → part ≡ flat ps → length ps ≡ count → part ++ drop (count * 2) l ≡ written (flat ps) l
unfolding written
front_replaced count ps l part e h = rw (e, length_flat ps, h)

-- one more of the first marks
module _
    (count : ℕ) (spots entry : List Float) (same : length spots ≡ length entry) (front : Front count spots entry) (p : Point) (h : count * 2 + 1 < length entry)
  where
    abbrev first : List Point
    first = take count (spots_of spots)

    more : put_spot spots count p ≡ written (flat (first ++ p ∷ [])) entry
    more = ap (λ (t : List Float). put_spot t count p) front ∙ put_next first entry count p (length_first count spots (omega arith)) (omega arith)

    pub first_put : take (count + 1) (spots_of (put_spot spots count p)) ≡ first ++ p ∷ []
    first_put =
        let e : length (first ++ p ∷ []) ≡ count + 1 = simp length-append (omega (arith, length_first count spots (omega arith))) in
        ap (λ (t : List Float). take (count + 1) (spots_of t)) more ∙ placed_front (first ++ p ∷ []) entry (count + 1) e

    pub front_put : Front (count + 1) (put_spot spots count p) entry
    front_put = more ∙ ap (λ (ps : List Point). written (flat ps) entry) (sym first_put)

-- one more spot, where it is admitted
abbrev pub placed_if : Bool → Point → List Point → List Point
placed_if b p ps = cond b (ps ++ p ∷ []) ps

pub length_if : (b : Bool) (p : Point) (ps : List Point) (m : ℕ) → length ps ≡ m → length (placed_if b p ps) ≡ cond b (m + 1) m
length_if true p ps m e = simp length-append (omega arith)
length_if false p ps m e = e

pub put_if :
    (b : Bool) (ps : List Point) (l : List Float) (m : ℕ) (p : Point) → length ps ≡ m → m * 2 + 2 ≤ length l
    → cond b (put_spot (written (flat ps) l) m p) (written (flat ps) l) ≡ written (flat (placed_if b p ps)) l
put_if true ps l m p e h = put_next ps l m p e h
put_if false ps l m p e h = refl

pub one_more : (b : Bool) (m n : ℕ) → m < n → cond b (m + 1) m ≤ n
one_more true m n h = omega arith
one_more false m n h = omega arith

pub length_placed : (ps : List Point) (l : List Float) (m : ℕ) → length ps ≡ m → m * 2 ≤ length l → length (written (flat ps) l) ≡ length l
length_placed ps l m e h = length_written (flat ps) l (omega (arith, length_flat ps))

-- ---- a second run over what a first has placed
module _ (ps : List Point) (l l₁ : List Float) (m : ℕ) (em : m ≡ length ps) (el : l₁ ≡ written (flat ps) l) (run : List Point → List Point) where
  pub run_on : run (take m (spots_of l₁)) ≡ run ps
  run_on = ap (λ (t : List Float). run (take m (spots_of t))) el ∙ ap run (placed_front ps l m (sym em))

  pub written_on : length ps ≤ length (run ps) → written (flat (run (take m (spots_of l₁)))) l₁ ≡ written (flat (run ps)) l
  written_on h =
      ap (λ (qs : List Point). written (flat qs) l₁) run_on
      ∙ ap (written (flat (run ps))) el
      ∙ placed_over ps (run ps) l h
