-- The ceiling, the size and the sheet, from what the flat slices hand in. Definitions only.
use Rattle.std.specs.Prelude.{ℕ, ◌≡◌, List, length, None, Option, Float}
use Rattle.laws.specs.Lists.{written}
use Rattle.std.specs.Option.{unwrap_or}
use Rattle.float.specs.Ops.{0ᶠ}
use Rattle.glyphs.specs.declared.rect.Rectangle.{Rectangle}
use Rattle.sheet.specs.Sheet.{Placement, Sheet, sheet_of}
use Rattle.discs.specs.declared.options.GlyphOptions.{GlyphOptions}
use Rattle.discs.specs.declared.options.Radius.{Radius}
use Rattle.discs.specs.declared.options.Radius.TheVariants.{Auto, Stated}
use Rattle.discs.specs.declared.radius.Size.{Size}
use Rattle.discs.specs.Radius.{boundary_gap_of}
use Rattle.discs.specs.PlaceGlyphs.{size_for}
use Rattle.discs.specs.Floor.{Handed, handed_r_hi, handed_feasible}
use Rattle.relax.specs.declared.Spreading.{Spreading}
use Rattle.plan.specs.Answer.{Answer, refused_by}

unfoldable pub ceiling_for : GlyphOptions → List Handed → Radius → Option Float
ceiling_for options work Auto = handed_r_hi work (boundary_gap_of options)
ceiling_for options work (Stated r) = None

unfoldable pub sizing_for : Spreading → GlyphOptions → List Rectangle → List Handed → Option Size
sizing_for numbers options obstacles work = size_for (handed_feasible numbers options work) obstacles options.radius (ceiling_for options work options.radius)

-- radius 0 and no trials without a size
unfoldable pub size_of : Option Size → Size
size_of sizing = unwrap_or sizing (record { radius = 0ᶠ; free_trials = 0; obstacle_trials = 0 })

-- the sheet of these zones
abbrev pub sheet_to : Option Size → List Placement → Sheet
sheet_to sizing zones = record { radius = (size_of sizing).radius; zones = zones }

-- what a job is given: its sheet, and the trials made for its radius
unfoldable pub answer_to : Option Size → List Placement → Answer
answer_to sizing zones =
    record {
      length = length (sheet_of (sheet_to sizing zones));
      number = 0;
      free_trials = (size_of sizing).free_trials;
      obstacle_trials = (size_of sizing).obstacle_trials;
    }

-- refused with the fault, and the sheet buffer as it was; without one, given the sheet
pub record SheetPlanned (fault : ℕ) (sizing : Option Size) (zones : List Placement) (r : Answer) (sheet sheet' : List ℕ) : Type 0 where
  pub refused : (fault ≡ 0 → ⊥) → (r ≡ refused_by fault) × (sheet' ≡ sheet)
  pub given : fault ≡ 0 → (r ≡ answer_to sizing zones) × (sheet' ≡ written (sheet_of (sheet_to sizing zones)) sheet)
