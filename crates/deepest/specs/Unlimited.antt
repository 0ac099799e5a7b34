-- The search without a limit on halvings answers the same as the search with it, for a piece whose outer ring lies within 1,024.
-- Rests on the law that a cell is never split after 21 halvings, and on the sizes of places and clearances.
use Rattle.std.specs.Prelude.{◌≡◌, ℕ, zero, suc, ◌+◌, ◌*◌, ◌<◌, ◌≤◌, Bool, true}
use Rattle.std.specs.Prelude.{false, cond, not, T, List, [], ◌∷◌, length, nat_lt, Float}
use Rattle.std.proofs.Math.Path.{refl}
use Rattle.std.proofs.Common.{sym, ◌∙◌, eq-or-lt_of_le, le_of_lt, mul-le-mul_right, add-one, lt-ltb, le-ltb, lit<}
use Rattle.std.proofs.Math.Logic.{inl, inr}
use native.Mathlib.Omega.{arith}
use Rattle.std.specs.Float.Ieee.Bits.{is_true}
use Rattle.float.specs.Ops.{◌-ᶠ◌, ◌/ᶠ◌, ◌≤ᶠ◌, ◌>ᶠ◌, 2ᶠ}
use Rattle.rounding.specs.Value.{U, U_pos, mag, Num, digits_whole}
use Rattle.rounding.specs.Bounds.{Sized, wider}
use Rattle.rounding.proofs.Bounds.{add_sized, sub_sized}
use Rattle.rounding.proofs.Errors.{div_law}
use Rattle.glyphs.specs.Points.{Ring}
use Rattle.regions.specs.Ring.{Piece}
use Rattle.regions.specs.Clearance.{signed_clearance}
use Rattle.regions.specs.Sizes.{Bounded, clearance_sized}
use Rattle.deepest.specs.Order.{halves_from, half_at, bound_of}
use Rattle.deepest.specs.Match.{Each, each_enter}
use Rattle.deepest.specs.Deepest.{heft, sum_over, better_of, answer_of, splits_at, make_cell, enter_four, turns}
use Rattle.deepest.specs.Fuel.{split_few, fuel_enough}
use Rattle.deepest.specs.Halvings.{1/1024ᶠ, not_split, two_num, two_mag}
use Rattle.deepest.specs.declared.queue.Cell.{Cell}
use Rattle.deepest.specs.declared.search.Best.{Best}
use Rattle.deepest.specs.declared.search.Deepest.{Deepest}
use Rattle.deepest.specs.declared.search.Deepest.TheVariants.{Full}

-- the source's test alone
unfoldable pub splits_free : List Float → Float → Cell → Best → Bool
splits_free halves precision c best = not (bound_of halves c -ᶠ best.d ≤ᶠ precision)

-- the source's search, at most f turns
unfoldable pub turns_free : Piece → List Float → ℕ → Float → ℕ → List Cell → Best → ℕ → Deepest
turns_free piece halves zero precision room q best n = answer_of best
turns_free piece halves (suc f) precision room [] best n = answer_of best
turns_free piece halves (suc f) precision room (c ∷ rest) best n =
    let better = better_of best c in
    cond (splits_free halves precision c better)
    (cond (nat_lt room (length rest + 4)) Full (turns_free piece halves f precision room (enter_four piece halves c n rest) better (n + 4)))
    (turns_free piece halves f precision room rest better n)

-- equal parts of equal choices
chosen :
    {X : Type 0} (s r : Bool) (full a a' b b' : X) → (s ≡ true → a ≡ a') → b ≡ b' → cond s (cond r full a) b ≡ cond s (cond r full a') b'
chosen true true full a a' b b' p q = refl
chosen true false full a a' b b' p q = p refl
chosen false r full a a' b b' p q = q

-- ---- half widths keep a size
pub half_sized : (x : Float) (k : ℕ) → k < 4096 → Sized x (k * 2) → Sized (x /ᶠ 2ᶠ) k
half_sized x k l s =
    let u = U_pos in
    let z : 0 < mag 2ᶠ = rw two_mag (omega arith) in
    let f : mag x ≤ mag 2ᶠ * 18446744073709551616 = rw two_mag (omega (arith, s.size, mul-le-mul_right U (le_of_lt l))) in
    let q = div_law x 2ᶠ s.num two_num z f in
    record { num = q.num; size = q.most (k * U) (digits_whole k (omega arith)) (rw two_mag (omega (arith, mul-le-mul_right U s.size))) }

keeps : (k n : ℕ) (h : Float) (s : ℕ) → k < n → s < 4096 → Sized h s → Sized (half_at (halves_from h n) k) s
unfolding halves_from
keeps zero zero h s l m w = absurd (omega arith)
keeps zero (suc n) h s l m w = w
keeps (suc k) zero h s l m w = absurd (omega arith)
keeps (suc k) (suc n) h s l m w = keeps k n (h /ᶠ 2ᶠ) s (omega arith) m (half_sized h s m (wider (omega arith) w))

-- a half width after a halving
later : (k n : ℕ) (h : Float) → k + 1 < n → Sized h 1024 → Sized (half_at (halves_from h n) (k + 1)) 512
unfolding halves_from
later k zero h l w = absurd (omega arith)
later k (suc n) h l w = rw add-one (keeps k n (h /ᶠ 2ᶠ) 512 (omega arith) (lit< tt) (half_sized h 512 (lit< tt) w))

module _ (ring : Ring) (holes : List Ring) (b : Bounded ring) (h0 : Float) (hh : Sized h0 1024) where
  -- a cell of the search: where it lies, and its clearance
  pub record Measured (c : Cell) : Type 0 where
    pub few : c.halvings ≤ 21
    pub across : Sized c.x (2048 + 512 * c.halvings)
    pub along : Sized c.y (2048 + 512 * c.halvings)
    pub clear : c.d ≡ signed_clearance c.x c.y (ring ∷ holes)

  pub clear_sized : (c : Cell) → Measured c → Sized c.d 26067
  clear_sized c m =
      let f = m.few in
      rw m.clear (clearance_sized c.x c.y ring holes (wider (omega arith) m.across) (wider (omega arith) m.along) b)

  quarter :
      (c : Cell) (x y : Float) (n : ℕ) → c.halvings < 21 → Sized x (2048 + 512 * c.halvings + 512) → Sized y (2048 + 512 * c.halvings + 512)
      → Measured (make_cell (ring ∷ holes) x y (c.halvings + 1) n)
  unfolding make_cell
  quarter c x y n k sx sy = record { few = omega arith; across = wider (omega arith) sx; along = wider (omega arith) sy; clear = refl }

  four_measured :
      (c : Cell) (n : ℕ) (q : List Cell) → c.halvings < 21 → Measured c → Each Measured q
      → Each Measured (enter_four (ring ∷ holes) (halves_from h0 22) c n q)
  unfolding enter_four
  four_measured c n q k m a =
      let nh = later c.halvings 22 h0 (omega arith) hh in
      let l = sub_sized m.across nh (omega arith) in
      let r = add_sized m.across nh (omega arith) in
      let d = sub_sized m.along nh (omega arith) in
      let u = add_sized m.along nh (omega arith) in
      each_enter _ Measured _ _ (quarter c _ _ (n + 3) k r u)
      (each_enter _ Measured _ _ (quarter c _ _ (n + 2) k l u)
      (each_enter _ Measured _ _ (quarter c _ _ (n + 1) k r d) (each_enter _ Measured _ _ (quarter c _ _ n k l d) a)))

  better_sized : (best : Best) (c : Cell) → Sized best.d 26067 → Sized c.d 26067 → Sized (better_of best c).d 26067
  unfolding better_of
  better_sized best c p q = go (c.d >ᶠ best.d)
    where
      go : (t : Bool) → Sized (cond t (record { x = c.x; y = c.y; d = c.d }) best).d 26067
      go true = q
      go false = p

  module _ (precision : Float) (hp : Num precision) (least : T (1/1024ᶠ ≤ᶠ precision)) (room : ℕ) where
    -- the limit changes no test
    same_test :
        (c : Cell) (best : Best) → Measured c → Sized best.d 26067
        → splits_at (halves_from h0 22) precision c (better_of best c) ≡ splits_free (halves_from h0 22) precision c (better_of best c)
    unfolding splits_at splits_free
    same_test c best m s =
        elim (eq-or-lt_of_le m.few) [
          | inl e ↦
              let near = not_split h0 precision c best hh hp least e (clear_sized c m) s in
              rw (le-ltb c.halvings 21 (at_least e), is_true (bound_of (halves_from h0 22) c -ᶠ (better_of best c).d ≤ᶠ precision) near)
          | inr l ↦ rw (lt-ltb c.halvings 21 l)
        ]
      where
        at_least : c.halvings ≡ 21 → 21 ≤ c.halvings
        at_least e = omega arith

    step :
        (f : ℕ)
        → ((q : List Cell) (best : Best) (n : ℕ) → Each Measured q → Sized best.d 26067
        → turns (ring ∷ holes) (halves_from h0 22) f precision room q best n ≡ turns_free (ring ∷ holes) (halves_from h0 22) f precision room q best n)
        → (q : List Cell) (best : Best) (n : ℕ) → Each Measured q → Sized best.d 26067
        → turns (ring ∷ holes) (halves_from h0 22) (suc f) precision room q best n
        ≡ turns_free (ring ∷ holes) (halves_from h0 22) (suc f) precision room q best n
    unfolding turns turns_free
    step f again [] best n a s = refl
    step f again (c ∷ t) best n a s =
        let w = better_sized best c s (clear_sized c a.0) in
        rw (sym (same_test c best a.0 s))
        (chosen (splits_at (halves_from h0 22) precision c (better_of best c)) (nat_lt room (length t + 4)) Full _ _ _ _
        (λ k.
        again (enter_four (ring ∷ holes) (halves_from h0 22) c n t) (better_of best c) (n + 4)
        (four_measured c n t (split_few (halves_from h0 22) precision c (better_of best c) k) a.0 a.1) w)
        (again t (better_of best c) n a.1 w))

    pub unlimited :
        (f : ℕ) (q : List Cell) (best : Best) (n : ℕ) → Each Measured q → Sized best.d 26067
        → turns (ring ∷ holes) (halves_from h0 22) f precision room q best n ≡ turns_free (ring ∷ holes) (halves_from h0 22) f precision room q best n
    unlimited zero q best n a s = unfold turns turns_free in refl
    unlimited (suc f) q best n a s = step f (unlimited f) q best n a s

    -- and it ends: more turns change nothing
    pub free_ends :
        (f : ℕ) (q : List Cell) (best : Best) (n : ℕ) → Each Measured q → Sized best.d 26067 → sum_over heft q ≤ f
        → turns_free (ring ∷ holes) (halves_from h0 22) f precision room q best n
        ≡ turns_free (ring ∷ holes) (halves_from h0 22) (sum_over heft q) precision room q best n
    free_ends f q best n a s h =
        sym (unlimited f q best n a s)
        ∙ fuel_enough (ring ∷ holes) (halves_from h0 22) precision room f q best n h
        ∙ unlimited (sum_over heft q) q best n a s
