-- The sheet that the code puts, zones first and the head before them, is the definition's.
-- Rests on the laws of a sheet's bytes.
use Prim.Native.Nat.{ℕ, ◌+◌, ◌-◌, ◌≤◌}
use Rattle.std.specs.Prelude.{◌≡◌, length, Float, Option}
use Rattle.std.proofs.Math.Path.{refl}
use Rattle.std.proofs.Common.{sym, ap, ◌∙◌, arith, length-append}
use mathlib.Core.List.{List, [], ◌∷◌, ◌++◌, append_assoc, flat_map}
use Rattle.std.proofs.lemmas.List.Edits.{sets}
use Rattle.laws.specs.Lists.{written}
use Rattle.glyphs.specs.declared.rect.Rectangle.{Rectangle}
use Rattle.glyphs.specs.declared.rect.Point.{Point}
use Rattle.sheet.specs.Sheet.{Placement, placement_bytes, sheet_head, sheet_of}
use Rattle.sheet.specs.Back.{length_sheet_head}
use Rattle.sheet.specs.Steps.{Put}
use Rattle.sheet.specs.declared.Writer.{Writer}
use Rattle.sheet.proofs.Laws.{put_sheet}
use Rattle.relax.specs.declared.Spreading.{Spreading}
use Rattle.deepest.specs.declared.search.Deepest.{Deepest}
use Rattle.discs.specs.declared.rows.Row.{Row}
use Rattle.discs.specs.declared.radius.Size.{Size}
use Rattle.discs.specs.declared.options.GlyphOptions.{GlyphOptions}
use Rattle.discs.specs.declared.rows.Offsets.{Offsets}
use Rattle.discs.specs.Floor.{past_row}
use Rattle.plan.specs.Rows.{flat_rows}
use Rattle.plan.specs.Placing.{placed_at, bytes_at}

flat_join : {A B : Type 0} (f : A → List B) (xs ys : List A) → flat_map f (xs ++ ys) ≡ flat_map f xs ++ flat_map f ys
unfolding flat_map
flat_join f [] ys = refl
flat_join f (x ∷ xs) ys = ap (λ (t : List _). f x ++ t) (flat_join f xs ys) ∙ sym (append_assoc (f x) (flat_map f xs) (flat_map f ys))

module _
    (numbers : Spreading) (sizing : Option Size) (options : GlyphOptions) (obstacles : List Rectangle) (s rings sizes : List ℕ) (points : List Point)
    (quotas : List ℕ) (deepest : List Deepest) where
  pub bytes_flat :
      (rows : List Row) (at : Offsets)
      → flat_rows rings sizes (bytes_at numbers sizing options obstacles s rings sizes points quotas deepest) rows at
      ≡ flat_map placement_bytes (flat_rows rings sizes (placed_at numbers sizing options obstacles s rings sizes points quotas deepest) rows at)
  unfolding flat_rows bytes_at
  bytes_flat [] at = unfold flat_map in refl
  bytes_flat (row ∷ rows) at =
      rw (bytes_flat rows (past_row rings sizes row at))
      (sym (flat_join placement_bytes (placed_at numbers sizing options obstacles s rings sizes points quotas deepest row at)
      (flat_rows rings sizes (placed_at numbers sizing options obstacles s rings sizes points quotas deepest) rows (past_row rings sizes row at))))

pub sheet_long :
    (radius : Float) (zones : List Placement) → length (sheet_of (record { radius = radius; zones = zones })) ≡ 15 + length (flat_map placement_bytes zones)
unfolding sheet_of
sheet_long radius zones =
    let body = flat_map placement_bytes zones in
    let head = sheet_head (11 + length body) radius (length zones) in
    omega (arith, length-append head body, length_sheet_head (11 + length body) radius (length zones))

pub sheet_put :
    {w w' : Writer} (l l' : List ℕ) (radius : Float) (zones : List Placement) (bytes : List ℕ) → bytes ≡ flat_map placement_bytes zones
    → w.sheet.now ≡ l → w.at ≡ 15 → w.zones ≡ 0 → Put bytes (length zones) w w' → w'.at ≤ length l
    → l' ≡ sets w'.sheet.now 0 (sheet_head (w'.at - 4) radius w'.zones)
    → (w'.at ≡ length (sheet_of (record { radius = radius; zones = zones }))) × (l' ≡ written (sheet_of (record { radius = radius; zones = zones })) l)
sheet_put {w} {w'} l l' radius zones bytes b i j k p h e =
    let long = sheet_long radius zones in
    let ends : w'.at ≡ 15 + length (flat_map placement_bytes zones) = p.at ∙ rw (b, j) in
    let rest : w'.at - 4 ≡ 11 + length (flat_map placement_bytes zones) = omega (arith, ends) in
    let count : w'.zones ≡ length zones = omega (arith, p.zones, k) in
    (ends ∙ sym long, e ∙ rw (rest, count, p.put, i, j, b) (put_sheet l (record { radius = radius; zones = zones }) (omega (arith, long, ends, h))))
