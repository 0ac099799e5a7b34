-- The ceiling of a job's radius is 1,031 at most.
-- Rests on the bound of a deepest point's clearance: a zone's bound is no more than that.
use Rattle.std.specs.Prelude.{◌≡◌, ◌⊎◌, Bool, true, false, cond, ◌&&◌, ℕ, T, None, Some}
use Rattle.std.proofs.Math.Path.{refl}
use Rattle.std.proofs.Common.{subst, inl, inr, arith, lit<, lit≤}
use mathlib.Core.List.{List, [], ◌∷◌, foldl}
use Rattle.std.specs.Float.Ieee.{Float, binary64, fits, lt, of_bits}
use Rattle.std.specs.Float.Ieee.Fits.{and_l, and_r, div-fits}
use Rattle.std.specs.Float.Ieee.Bits.{of_bits-fits}
use Rattle.laws.specs.Every.{Every}
use Rattle.laws.specs.Truth.{yes}
use Rattle.float.specs.Ops.{◌+ᶠ◌, ◌/ᶠ◌, ◌≤ᶠ◌, ◌>ᶠ◌, 0ᶠ, 1ᶠ, ∞}
use Rattle.float.specs.Order.{abs, min}
use Rattle.float.specs.Laws.Fits.{root_of_fits}
use Rattle.float.proofs.Laws.Order.{min_fits, min_number_r, min_le_l, min_le_r}
use Rattle.float.specs.Laws.Compare.{le_trans, lt_le}
use Rattle.rounding.specs.Comparison.{le→≼}
use Rattle.rounding.specs.Bounds.{Sized, wider, ranged}
use Rattle.rounding.proofs.Bounds.{div_sized_by}
use Rattle.rounding.proofs.Lengths.{factor}
use Rattle.rounding.specs.Signs.{Nonneg, zero_num, zero_val, zero_sized}
use Rattle.glyphs.specs.Rect.{is_finite}
use Rattle.regions.specs.Sizes.{sized_number}
use Rattle.format.specs.Known.{All, PieceKnown}
use Rattle.deepest.specs.declared.search.Deepest.{Deepest}
use Rattle.deepest.specs.declared.search.Deepest.TheVariants.{Found, Nothing, Full}
use Rattle.deepest.specs.Deepest.{poi_with_holes}
use Rattle.discs.specs.Region.{Zone}
use Rattle.discs.specs.Radius.{area_of, lowered, if_positive, analytic_r_hi}
use Rattle.claims.specs.Deepest.{OfFound, Deep}
use Rattle.claims.proofs.Deepest.{poi_deep}
use Rattle.claims.specs.Ceilings.{Top}

-- ---- what holds of the bound after each zone
record Under (r : Float) : Type 0 where
  top : Float
  sized : Sized top 1031
  below : T (r ≤ᶠ top)

record Held (r : Float) : Type 0 where
  fit : T (fits binary64 r)
  bound : (r ≡ ∞) ⊎ Under r

module _ (room : ℕ) (gap precision : Float) (G : Sized gap 16) (o : Nonneg gap) where
  found_held :
      (r clearance other : Float) → T (fits binary64 r) → Sized clearance 1031 → T (fits binary64 other) → Held (min (min r (clearance /ᶠ (1ᶠ +ᶠ gap))) other)
  found_held r clearance other f c p =
      let F = factor gap G o in
      let q = clearance /ᶠ (1ᶠ +ᶠ gap) in
      let Q : Sized q 1031 = div_sized_by 1031 1 (wider (lit≤ tt) c) F.sized (lit< tt) (omega (arith, F.least)) (lit< tt) in
      let m = min r q in
      record {
        fit = min_fits m other (min_fits r q f (div-fits binary64 clearance (1ᶠ +ᶠ gap))) p;
        bound =
            inr (record {
              top = q;
              sized = Q;
              below = le_trans (min m other) m q (min_le_l m other (min_number_r r q (sized_number Q))) (min_le_r r q (sized_number Q));
            });
      }

  lowered_held : (n : ℕ) (r area : Float) (d : Deepest) → OfFound Deep d → Held r → Held (lowered gap n r area d)
  unfolding lowered
  lowered_held n r area Nothing g h = h
  lowered_held n r area Full g h = h
  lowered_held n r area (Found x y clearance) g h = found_held r clearance _ h.fit g.sized (root_of_fits binary64 _ (div-fits binary64 _ _))

  abbrev bounded : Float → Zone → Float
  bounded r zone = lowered gap zone.count r (area_of zone.pieces) (poi_with_holes room precision zone.pieces)

  work_held : (work : List Zone) → Every (λ (zone : Zone). All PieceKnown zone.pieces) work → (r : Float) → Held r → Held (foldl bounded r work)
  work_held [] k r h = h
  work_held (zone ∷ work) k r h =
      work_held work k.1 (bounded r zone)
      (lowered_held zone.count r (area_of zone.pieces) (poi_with_holes room precision zone.pieces) (poi_deep room precision zone.pieces k.0) h)

  not_finite : is_finite ∞ ≡ false
  unfolding is_finite abs lt of_bits
  not_finite = refl

  -- a bound that is finite and above 0
  kept : (r : Float) → Held r → T (is_finite r) → T (r >ᶠ 0ᶠ) → Sized r 1031
  kept r h f p = go h.bound
    where
      go : (r ≡ ∞) ⊎ Under r → Sized r 1031
      go (inl e) = absurd (subst T not_finite (rw e at f))
      go (inr u) = ranged h.fit (wider (omega arith) zero_sized) u.sized (lt_le 0ᶠ r p) u.below

  -- THE CEILING
  pub ceiling_known :
      (work : List Zone) → Every (λ (zone : Zone). All PieceKnown zone.pieces) work → (r-hi : Float) → analytic_r_hi room work gap precision ≡ Some r-hi
      → Top r-hi
  unfolding analytic_r_hi if_positive
  ceiling_known work k r-hi e = go (is_finite r && r >ᶠ 0ᶠ) refl e
    where
      r : Float
      r = foldl bounded ∞ work

      top : T (is_finite r && r >ᶠ 0ᶠ) → Top r
      top t =
          let p = and_r (is_finite r) (r >ᶠ 0ᶠ) t in
          let s =
          kept r (work_held work k ∞ (record { fit = of_bits-fits binary64 0x7ff0_0000_0000_0000; bound = inl refl }))
          (and_l (is_finite r) (r >ᶠ 0ᶠ) t) p in
          record { sized = s; nonneg = rw zero_val at (le→≼ 0ᶠ r zero_num s.num (lt_le 0ᶠ r p)) }

      go : (b : Bool) → is_finite r && r >ᶠ 0ᶠ ≡ b → cond b (Some r) None ≡ Some r-hi → Top r-hi
      go true t e = let q : r ≡ r-hi = cc in subst Top q (top (yes t))
      go false t e = let z : ◌≡◌ {A = ℕ} 0 1 = cc in absurd (omega arith)
