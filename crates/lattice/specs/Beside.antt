-- The obstacles of a row: those so far above or below it that they keep the margin to each of its places are left out.
-- Rests on rounding: a sum of squares is at least each of them, and a square from the margin's on has a root of at least the clearance.
use Rattle.std.specs.Prelude.{◌≡◌, ℕ, ◌*◌, Bool, true, false, cond, not, ◌&&◌, T, List, [], ◌∷◌, ℤ, refl, Float}
use Rattle.std.proofs.Common.{ap, inl, inr, arith}
use Rattle.std.proofs.lemmas.Bool.{not-false}
use Rattle.std.specs.Float.{nan, inf, fin, binary64}
use Rattle.std.specs.Float.Ieee.{up, down, add, mul, le, is_nan, fits, of_bits}
use Rattle.std.specs.Float.Ieee.Bits.{is_true}
use Rattle.std.specs.Float.Ieee.Fits.{mul-fits}
use Rattle.std.specs.Float.Ieee.Scale.{finite}
use Rattle.laws.specs.Truth.{yes}
use Rattle.float.specs.Ops.{◌+ᶠ◌, ◌-ᶠ◌, ◌*ᶠ◌, ◌≥ᶠ◌, 0ᶠ, ½ᶠ}
use Rattle.float.specs.Order.{abs}
use Rattle.float.specs.Laws.Nan.{Number}
use Rattle.float.specs.Laws.Zero.{Plain}
use Rattle.float.specs.Laws.Compare.{le_trans}
use Rattle.float.specs.Laws.Order.{max_number_r}
use Rattle.float.specs.Laws.Square.{round_plain}
use Rattle.rounding.specs.Value.{Num, sgn, mag, digits}
use Rattle.rounding.specs.Comparison.{≼→le}
use Rattle.rounding.proofs.Errors.{add_of_finite}
use Rattle.rounding.specs.Signs.{Nonneg, add_case}
use Rattle.glyphs.specs.declared.rect.Rectangle.{Rectangle}
use Rattle.glyphs.specs.Rect.{dist_to_rect, clear_of_obstacles, filter}
use Rattle.regions.specs.Margin.{high_square, high_square_lem}
use Rattle.regions.specs.Pillars.{beyond, rect_square, rect_root}
use Rattle.lattice.specs.declared.site.Site.{Site}

-- whether an obstacle may be too near a place at the height y, for all that is seen of the heights
unfoldable pub abreast : Float → Float → Rectangle → Bool
abreast y high rect =
    let dy = beyond y rect.center.y rect.height in
    not (dy *ᶠ dy ≥ᶠ high)

-- asked of the places of the row, these obstacles answer for all
abbrev pub BesideOf : Float → List Rectangle → Site → Type 0
BesideOf y pillars site = (x : Float) → clear_of_obstacles x y pillars site.margin.least ≡ clear_of_obstacles x y site.near.now site.margin.least

-- ---- a sum of two values without a minus sign is at least the second
below_∞ : (x : Float) → T (finite x) → T (le x (inf false))
unfolding le
below_∞ nan f = absurd f
below_∞ (inf s) f = absurd f
below_∞ (fin s m e) f = tt

sum_finite : (a b : Float) → Num a → Num b → Nonneg a → Nonneg b → T (le b (a +ᶠ b))
sum_finite a b p q o o' = elim (add_case a b p q o o') [ inl f ↦ at f | inr e ↦ rw e (below_∞ b q.fine) ]
  where
    at : T (finite (a +ᶠ b)) → T (le b (a +ᶠ b))
    at f =
        let r = add_of_finite a b p q f in
        ≼→le b (a +ᶠ b) q r.num (r.least (sgn b) (mag b) (digits b q) (omega (arith, o)))

plain_nonneg : (m : ℕ) (e : ℤ) → Nonneg (fin false m e)
unfolding sgn
plain_nonneg m e = omega arith

sum_least : (a b : Float) → Plain a → Plain b → T (fits binary64 a) → T (fits binary64 b) → T (le b (a +ᶠ b))
unfolding add le
sum_least nan b p q f g = absurd p
sum_least (inf true) b p q f g = absurd p
sum_least (inf false) nan p q f g = absurd q
sum_least (inf false) (inf true) p q f g = absurd q
sum_least (inf false) (inf false) p q f g = tt
sum_least (inf false) (fin t n d) p q f g = tt
sum_least (fin s m e) nan p q f g = absurd q
sum_least (fin s m e) (inf true) p q f g = absurd q
sum_least (fin s m e) (inf false) p q f g = tt
sum_least (fin true m e) (fin t n d) p q f g = absurd p
sum_least (fin false m e) (fin true n d) p q f g = absurd q
sum_least (fin false m e) (fin false n d) p q f g =
    sum_finite (fin false m e) (fin false n d) (record { fit = f; fine = tt }) (record { fit = g; fine = tt }) (plain_nonneg m e) (plain_nonneg n d)

square_plain : (x : Float) → Number x → Plain (x *ᶠ x)
unfolding mul is_nan
square_plain nan h = absurd h
square_plain (inf true) h = tt
square_plain (inf false) h = tt
square_plain (fin true m e) h = round_plain binary64 (m * up e * (m * up e)) (down e * down e)
square_plain (fin false m e) h = round_plain binary64 (m * up e * (m * up e)) (down e * down e)

beyond_square : (p center length : Float) → Plain (beyond p center length *ᶠ beyond p center length)
unfolding beyond
beyond_square p center length = square_plain _ (max_number_r (abs (p -ᶠ center) -ᶠ ½ᶠ *ᶠ length) 0ᶠ (unfold is_nan of_bits in tt))

-- ---- what is left out keeps the margin
far_clear : (x y c : Float) (rect : Rectangle) → abreast y (high_square c) rect ≡ false → dist_to_rect x y rect ≥ᶠ c ≡ true
unfolding abreast rect_square
far_clear x y c rect e =
    let dx = beyond x rect.center.x rect.width in
    let dy = beyond y rect.center.y rect.height in
    let high : T (le (high_square c) (dy *ᶠ dy)) = yes (not-false (dy *ᶠ dy ≥ᶠ high_square c) e) in
    let sum = sum_least (dx *ᶠ dx) (dy *ᶠ dy) (beyond_square _ _ _) (beyond_square _ _ _) (mul-fits binary64 dx dx) (mul-fits binary64 dy dy) in
    rw rect_root (is_true _ (high_square_lem c (dx *ᶠ dx +ᶠ dy *ᶠ dy) (le_trans (high_square c) (dy *ᶠ dy) (dx *ᶠ dx +ᶠ dy *ᶠ dy) high sum)))

pub abreast_clear :
    (x y c : Float) (rects : List Rectangle) → clear_of_obstacles x y (filter (abreast y (high_square c)) rects) c ≡ clear_of_obstacles x y rects c
unfolding filter clear_of_obstacles
abreast_clear x y c [] = refl
abreast_clear x y c (rect ∷ rects) = go (abreast y (high_square c) rect) refl (abreast_clear x y c rects)
  where
    kept : List Rectangle
    kept = filter (abreast y (high_square c)) rects

    go :
        (b : Bool) → abreast y (high_square c) rect ≡ b → clear_of_obstacles x y kept c ≡ clear_of_obstacles x y rects c
        → clear_of_obstacles x y (cond b (rect ∷ kept) kept) c ≡ (dist_to_rect x y rect ≥ᶠ c && clear_of_obstacles x y rects c)
    go true e same = ap (λ (t : Bool). dist_to_rect x y rect ≥ᶠ c && t) same
    go false e same = rw (far_clear x y c rect e) same
