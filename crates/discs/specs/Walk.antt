-- One turn of each walk over the zones and of the search for a radius; with their laws.
-- Rests on the definitions.
use Rattle.std.specs.Prelude.{Bool, true, cond, List, Float, Some}
use Rattle.glyphs.specs.declared.rect.Rectangle.{Rectangle}
use Rattle.relax.specs.declared.Spreading.{Spreading}
use Rattle.lattice.specs.declared.context.PackCtx.{PackCtx}
use Rattle.discs.specs.PlaceGlyphs.{is_left_in}
use Rattle.discs.specs.Floor.{Handed, lowered_by, holds_all}
use Rattle.discs.specs.declared.options.GlyphOptions.{GlyphOptions}
use Rattle.discs.specs.declared.radius.Bracket.{Bracket}

-- a zone's bounds, where it is left in
unfoldable pub lowering : Float → Float → Handed → Float
lowering gap r-hi handed = cond (is_left_in handed.zone) (lowered_by gap r-hi handed) r-hi

-- a zone's trial, where it is left in
unfoldable pub holding : Spreading → GlyphOptions → PackCtx → List Rectangle → Handed → Bool
holding numbers options ctx obstacles handed = cond (is_left_in handed.zone) (holds_all numbers options ctx obstacles handed) true

-- the search after the trial of `mid`
unfoldable pub narrowed : Bracket → Float → Bool → Bracket
narrowed b mid fits = cond fits (record { lo = mid; hi = b.hi; best = Some mid }) (record { lo = b.lo; hi = mid; best = b.best })
