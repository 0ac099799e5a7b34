-- What the lent lists hold in the end, in terms of `relax_scatter`: after the sweeps, and where there is nothing to do.
-- Rests on the kept clearances, and on marks and their coordinates being the same.
use Rattle.std.specs.Prelude.{◌≡◌, true, false, ℕ, ◌*◌, length, Float}
use Rattle.std.proofs.Math.Path.{refl, sym, ap}
use Rattle.std.proofs.Common.{◌∙◌}
use mathlib.Core.List.{List, map}
use Rattle.glyphs.specs.declared.rect.Point.{Point}
use Rattle.glyphs.specs.declared.rect.Rectangle.{Rectangle}
use Rattle.glyphs.specs.Spots.{spots_of, flat, flat_spots}
use Rattle.regions.specs.Ring.{Piece}
use Rattle.regions.specs.Unrooted.{rooted}
use Rattle.relax.specs.declared.Spreading.{Spreading}
use Rattle.relax.specs.Scatter.{Scatter, idle, around, relax_sweeps, relax_scatter, clearances_of}
use Rattle.relax.specs.Kept.{kept_clearances}

-- the marks and their clearances, the roots of these not taken
abbrev scatter : List Float → List Float → Scatter
scatter spots unrooted = record { points = spots_of spots; clearance = map rooted unrooted }

module _ (numbers : Spreading) (points : List Point) (piece : Piece) (obstacles : List Rectangle) (spacing inset : Float) where
  when_idle : idle (length points) spacing ≡ true → relax_scatter numbers points piece obstacles spacing inset ≡ points
  unfolding relax_scatter
  when_idle h = rw h

  swept : Scatter
  swept = relax_sweeps numbers (around numbers points piece obstacles spacing inset) (record { points = points; clearance = clearances_of piece points })

  when_busy : idle (length points) spacing ≡ false → relax_scatter numbers points piece obstacles spacing inset ≡ swept.points
  unfolding relax_scatter swept
  when_busy h = rw h

  pub idle_end :
      (spots : List Float) (n : ℕ) → points ≡ spots_of spots → length spots ≡ n * 2 → idle (length points) spacing ≡ true
      → (spots ≡ flat (relax_scatter numbers points piece obstacles spacing inset))
      × (clearances_of piece points ≡ clearances_of piece (relax_scatter numbers points piece obstacles spacing inset))
  idle_end spots n e k h = (rw (when_idle h, e, flat_spots spots n k), rw (when_idle h))

  pub busy_end :
      (spots unrooted : List Float) (n : ℕ) → length spots ≡ n * 2 → idle (length points) spacing ≡ false
      → scatter spots unrooted
      ≡ relax_sweeps numbers (around numbers points piece obstacles spacing inset) (record { points = points; clearance = clearances_of piece points })
      → (spots ≡ flat (relax_scatter numbers points piece obstacles spacing inset))
      × (map rooted unrooted ≡ clearances_of piece (relax_scatter numbers points piece obstacles spacing inset))
  unfolding swept
  busy_end spots unrooted n k h e =
      let p : spots_of spots ≡ swept.points = ap (λ (s : Scatter). s.points) e in
      let c : map rooted unrooted ≡ swept.clearance = ap (λ (s : Scatter). s.clearance) e in (
        sym (flat_spots spots n k) ∙ ap flat p ∙ rw (when_busy h),
        c
            ∙ kept_clearances numbers (around numbers points piece obstacles spacing inset)
            (record { points = points; clearance = clearances_of piece points })
            refl
            ∙ rw (when_busy h),
      )
