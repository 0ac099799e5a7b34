-- The cells kept in a slice, in order: what putting one more among them writes.
-- Rests on the laws of a list kept in order and of points in a slice.
use Rattle.std.specs.Prelude.{◌≡◌, ℕ, ◌+◌, ◌-◌, ◌*◌, ◌<◌, ◌≤◌, min, List, ◌∷◌, ◌++◌, length, take, drop, slice_set, Float}
use Rattle.std.proofs.Common.{sym, ap, ◌∙◌, arith}
use Prim.Native.Nat.{Ordering}
use Rattle.laws.specs.Bounded.{insert_behind, lead, at_lead, lead_le}
use Rattle.laws.specs.Lists.{written}
use Rattle.glyphs.specs.declared.rect.Point.{Point}
use Rattle.glyphs.specs.Spots.{flat}
use Rattle.lattice.specs.Flat.{points, moved, length_points, put_among, written_same, capped, full}

module _
    (cmp : Point → Point → Ordering) (l : List Float) (m cap k : ℕ) (p : Point) (h : m ≤ cap) (room : cap * 2 ≤ length l)
    (at : k ≡ lead cmp p (points m l)) where
  held : length (points m l) ≡ m
  held = length_points m l (omega arith)

  within : k ≤ length (points m l)
  within = rw at (lead_le cmp p (points m l))

  behind_k : insert_behind cmp p (points m l) ≡ take k (points m l) ++ p ∷ drop k (points m l)
  behind_k = rw at (at_lead cmp p (points m l))

  pub kept_put :
      (e : ℕ) → e ≡ min m (cap - 1) → k < cap
      → slice_set (slice_set (moved l (k * 2) (e * 2)) (k * 2) p.x) (k * 2 + 1) p.y ≡ written (flat (take cap (insert_behind cmp p (points m l)))) l
  kept_put e f g =
      let n = held in
      let w = within in
      let c : min (length (points m l)) (cap - 1) ≡ e = omega arith in
      put_among l m k e p (omega arith) (omega arith) (omega arith) (omega arith)
      ∙ sym (ap (λ (t : List Point). written (flat t) l) (ap (take cap) behind_k ∙ capped cap k (points m l) p w g ∙ rw c))

  pub kept_full : cap ≤ k → l ≡ written (flat (take cap (insert_behind cmp p (points m l)))) l
  kept_full g =
      let n = held in
      let w = within in
      sym (written_same m l (omega arith))
      ∙ sym (ap (λ (t : List Point). written (flat t) l) (ap (take cap) behind_k ∙ full cap k (points m l) p w (omega arith) g))
