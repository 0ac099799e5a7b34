-- A binary heap over the places 0..n, as a function from places to cells: no cell leaves before the one at its parent's place.
-- Rests on the laws of the order of leaving.
use Rattle.std.specs.Prelude.{◌≡◌, ℕ, zero, suc, ◌+◌, ◌-◌, ◌*◌, ◌/◌, ◌<◌, Bool}
use Rattle.std.specs.Prelude.{true, false, ◌⊎◌, List, ◌==◌, ◌≢◌, refl, Float}
use Rattle.std.proofs.Common.{sym, ap, ◌∙◌, subst, inl, inr, arith, eqb-true}
use Rattle.std.proofs.lemmas.Bool.{eqb-false}
use Rattle.std.proofs.Math.Arith.{lt_of_le-ne}
use Rattle.deepest.specs.Order.{leaves, leaves_chain, leaves_asym}
use Rattle.deepest.specs.declared.queue.Cell.{Cell}

abbrev pub parent : ℕ → ℕ
parent k = (k - 1) / 2

-- one place changed
pub record Changed (A B : ℕ → Cell) (i : ℕ) (c : Cell) : Type 0 where
  pub here : B i ≡ c
  pub there : (k : ℕ) → (k ≢ i) → B k ≡ A k

same? : (j k : ℕ) (t : Bool) → (j == k) ≡ t → (j ≡ k) ⊎ (j ≢ k)
same? j k true e = inl (eqb-true j k e)
same? j k false e = inr (eqb-false j k e)

pub same_or_not : (j k : ℕ) → (j ≡ k) ⊎ (j ≢ k)
same_or_not j k = same? j k (j == k) refl

module _ (halves : List Float) where
  pub record Heaped (A : ℕ → Cell) (n : ℕ) : Type 0 where
    pub order : (k : ℕ) → 0 < k → k < n → leaves halves (A k) (A (parent k)) ≡ false

  -- all but the place i, which is to take c, in order: on its way up
  pub record Up (A : ℕ → Cell) (i n : ℕ) (c : Cell) : Type 0 where
    pub rest : (k : ℕ) → 0 < k → k < n → (k ≢ i) → (parent k ≢ i) → leaves halves (A k) (A (parent k)) ≡ false
    pub kids : (k : ℕ) → 0 < k → k < n → parent k ≡ i → leaves halves (A k) c ≡ false
    pub skip : (k : ℕ) → 0 < k → k < n → parent k ≡ i → 0 < i → leaves halves (A k) (A (parent i)) ≡ false

  -- the same on its way down
  pub record Down (A : ℕ → Cell) (i n : ℕ) (c : Cell) : Type 0 where
    pub rest : (k : ℕ) → 0 < k → k < n → (k ≢ i) → (parent k ≢ i) → leaves halves (A k) (A (parent k)) ≡ false
    pub skip : (k : ℕ) → 0 < k → k < n → parent k ≡ i → 0 < i → leaves halves (A k) (A (parent i)) ≡ false
    pub own : 0 < i → leaves halves c (A (parent i)) ≡ false

  -- the child r of the place i that leaves first
  pub record First (A : ℕ → Cell) (n i r : ℕ) : Type 0 where
    pub above : 0 < r
    pub within : r < n
    pub child : parent r ≡ i
    pub least : (k : ℕ) → 0 < k → k < n → parent k ≡ i → leaves halves (A k) (A r) ≡ false

  module _ (A B : ℕ → Cell) (i n : ℕ) (c : Cell) where
    pub up_start : i ≡ n - 1 → 0 < n → Heaped A (n - 1) → Up A i n c
    up_start e z h =
        record {
          rest = λ k a b p q. h.order k a (omega arith);
          kids = λ k a b p. absurd (omega arith);
          skip = λ k a b p g. absurd (omega arith);
        }

    pub up_step : Up A i n c → 0 < i → i < n → leaves halves c (A (parent i)) ≡ true → Changed A B i (A (parent i)) → Up B (parent i) n c
    up_step u z l h w = record { rest = rest'; kids = kids'; skip = skip' }
      where
        p<i : parent i < i
        p<i = omega arith

        rest' : (k : ℕ) → 0 < k → k < n → (k ≢ parent i) → (parent k ≢ parent i) → leaves halves (B k) (B (parent k)) ≡ false
        rest' k a b p q =
            elim (same_or_not k i) [
              | inl e ↦ absurd (q (ap parent e))
              | inr e ↦
                  elim (same_or_not (parent k) i) [
                    | inl f ↦ rw (w.there k e, f, w.here) (u.skip k a b f z)
                    | inr f ↦ rw (w.there k e, w.there (parent k) f) (u.rest k a b e f)
                  ]
            ]

        near : (k : ℕ) → 0 < k → k < n → parent k ≡ parent i → (k ≢ i) → leaves halves (A k) (A (parent i)) ≡ false
        near k a b p e = subst (λ (j : ℕ). leaves halves (A k) (A j) ≡ false) p (u.rest k a b e (λ f. omega arith))

        kids' : (k : ℕ) → 0 < k → k < n → parent k ≡ parent i → leaves halves (B k) c ≡ false
        kids' k a b p =
            elim (same_or_not k i) [
              | inl e ↦ rw (e, w.here) (leaves_asym halves c (A (parent i)) h)
              | inr e ↦ rw (w.there k e) (leaves_chain halves (A k) (A (parent i)) c (near k a b p e) (leaves_asym halves c (A (parent i)) h))
            ]

        skip' : (k : ℕ) → 0 < k → k < n → parent k ≡ parent i → 0 < parent i → leaves halves (B k) (B (parent (parent i))) ≡ false
        skip' k a b p g =
            let top : leaves halves (A (parent i)) (A (parent (parent i))) ≡ false =
            u.rest (parent i) g (omega arith) (λ f. omega arith) (λ f. omega arith) in
            let q : B (parent (parent i)) ≡ A (parent (parent i)) = w.there (parent (parent i)) (λ f. omega arith) in
            elim (same_or_not k i) [
              | inl e ↦ rw (e, w.here, q) top
              | inr e ↦ rw (w.there k e, q) (leaves_chain halves (A k) (A (parent i)) (A (parent (parent i))) (near k a b p e) top)
            ]

    pub up_done : Up A i n c → (0 < i → leaves halves c (A (parent i)) ≡ false) → Changed A B i c → Heaped B n
    up_done u h w = record { order = order' }
      where
        order' : (k : ℕ) → 0 < k → k < n → leaves halves (B k) (B (parent k)) ≡ false
        order' k a b =
            elim (same_or_not k i) [
              | inl e ↦ rw (e, w.here, w.there (parent i) (λ f. omega arith)) (h (omega arith))
              | inr e ↦
                  elim (same_or_not (parent k) i) [
                    | inl f ↦ rw (w.there k e, f, w.here) (u.kids k a b f)
                    | inr f ↦ rw (w.there k e, w.there (parent k) f) (u.rest k a b e f)
                  ]
            ]

    pub down_start : i ≡ 0 → Heaped A (n + 1) → Down A i n c
    down_start e h =
        record {
          rest = λ k a b p q. h.order k a (omega arith);
          skip = λ k a b p g. absurd (omega arith);
          own = λ g. absurd (omega arith);
        }

    pub down_step : (r : ℕ) → Down A i n c → First A n i r → leaves halves (A r) c ≡ true → Changed A B i (A r) → Down B r n c
    down_step r u f h w = record { rest = rest'; skip = skip'; own = own' }
      where
        i<r : i < r
        i<r =
            let a = f.above in
            let b = f.child in
            omega arith

        at_i : B (parent r) ≡ A r
        at_i = ap B f.child ∙ w.here

        rest' : (k : ℕ) → 0 < k → k < n → (k ≢ r) → (parent k ≢ r) → leaves halves (B k) (B (parent k)) ≡ false
        rest' k a b p q =
            elim (same_or_not k i) [
              | inl e ↦ rw (e, w.here, w.there (parent i) (λ f. omega arith)) (u.skip r f.above f.within f.child (omega arith))
              | inr e ↦
                  elim (same_or_not (parent k) i) [
                    | inl g ↦ rw (w.there k e, g, w.here) (f.least k a b g)
                    | inr g ↦ rw (w.there k e, w.there (parent k) g) (u.rest k a b e g)
                  ]
            ]

        skip' : (k : ℕ) → 0 < k → k < n → parent k ≡ r → 0 < r → leaves halves (B k) (B (parent r)) ≡ false
        skip' k a b p g =
            let j : i < r = i<r in
            rw (at_i, w.there k (λ e. omega arith))
            (subst (λ (m : ℕ). leaves halves (A k) (A m) ≡ false) p (u.rest k a b (λ e. omega arith) (λ e. omega arith)))

        own' : 0 < r → leaves halves c (B (parent r)) ≡ false
        own' g = rw at_i (leaves_asym halves (A r) c h)

    pub down_done :
        Down A i n c → ((k : ℕ) → 0 < k → k < n → parent k ≡ i → leaves halves (A k) c ≡ false) → Changed A B i c → Heaped B n
    down_done u h w = record { order = order' }
      where
        order' : (k : ℕ) → 0 < k → k < n → leaves halves (B k) (B (parent k)) ≡ false
        order' k a b =
            elim (same_or_not k i) [
              | inl e ↦ rw (e, w.here, w.there (parent i) (λ f. omega arith)) (u.own (omega arith))
              | inr e ↦
                  elim (same_or_not (parent k) i) [
                    | inl f ↦ rw (w.there k e, f, w.here) (h k a b f)
                    | inr f ↦ rw (w.there k e, w.there (parent k) f) (u.rest k a b e f)
                  ]
            ]

  -- the cell at the root leaves first
  pub root_first : (A : ℕ → Cell) (n : ℕ) → Heaped A n → (f k : ℕ) → k < f → k < n → 0 < k → leaves halves (A k) (A 0) ≡ false
  root_first A n h zero k l b a = absurd (omega arith)
  root_first A n h (suc f) k l b a =
      elim (same_or_not (parent k) 0) [
        | inl e ↦ subst (λ (j : ℕ). leaves halves (A k) (A j) ≡ false) e (h.order k a b)
        | inr e ↦ leaves_chain halves (A k) (A (parent k)) (A 0) (h.order k a b) (root_first A n h f (parent k) (omega arith) (omega arith) (omega arith))
      ]

  pub itself : (a : Cell) (t : Bool) → leaves halves a a ≡ t → leaves halves a a ≡ false
  itself a true e = leaves_asym halves a a e
  itself a false e = e

  -- of two children
  other : (i k : ℕ) → 0 < k → parent k ≡ i → (k ≢ i * 2 + 1) → k ≡ i * 2 + 1 + 1
  other i k a p e =
      let l : i * 2 + 1 < k = lt_of_le-ne (omega arith) (λ (q : i * 2 + 1 ≡ k). e (sym q)) in
      omega arith

  pub first_right :
      (A : ℕ → Cell) (n i : ℕ) → i * 2 + 1 + 1 < n → leaves halves (A (i * 2 + 1 + 1)) (A (i * 2 + 1)) ≡ true → First A n i (i * 2 + 1 + 1)
  first_right A n i l h = record { above = omega arith; within = l; child = omega arith; least = least' }
    where
      least' : (k : ℕ) → 0 < k → k < n → parent k ≡ i → leaves halves (A k) (A (i * 2 + 1 + 1)) ≡ false
      least' k a b p =
          elim (same_or_not k (i * 2 + 1)) [
            | inl e ↦ rw e (leaves_asym halves (A (i * 2 + 1 + 1)) (A (i * 2 + 1)) h)
            | inr e ↦ rw (other i k a p e) (itself (A (i * 2 + 1 + 1)) _ refl)
          ]

  pub first_left :
      (A : ℕ → Cell) (n i : ℕ) → i * 2 + 1 < n → (i * 2 + 1 + 1 < n → leaves halves (A (i * 2 + 1 + 1)) (A (i * 2 + 1)) ≡ false)
      → First A n i (i * 2 + 1)
  first_left A n i l h = record { above = omega arith; within = l; child = omega arith; least = least' }
    where
      least' : (k : ℕ) → 0 < k → k < n → parent k ≡ i → leaves halves (A k) (A (i * 2 + 1)) ≡ false
      least' k a b p =
          elim (same_or_not k (i * 2 + 1)) [
            | inl e ↦ rw e (itself (A (i * 2 + 1)) _ refl)
            | inr e ↦
                let q : k ≡ i * 2 + 1 + 1 = other i k a p e in
                rw q (h (omega arith))
          ]
