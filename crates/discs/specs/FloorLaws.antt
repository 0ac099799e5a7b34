-- What it is for quotas and deepest points handed in to be the zones' own, and the zones that are left in.
-- Rests on the definitions.
use Rattle.std.specs.Prelude.{◌≡◌, ℕ, Bool, true, false, cond, List, [], ◌∷◌, map, Float, Option}
use Rattle.std.proofs.Math.Path.{refl, ap}
use Rattle.glyphs.specs.declared.rect.Point.{Point}
use Rattle.glyphs.specs.declared.rect.Rectangle.{Rectangle}
use Rattle.deepest.specs.declared.search.Deepest.{Deepest}
use Rattle.discs.specs.Region.{Zone, quotas, deepest_of}
use Rattle.discs.specs.PieceLaws.{Own}
use Rattle.discs.specs.declared.options.GlyphOptions.{GlyphOptions}
use Rattle.discs.specs.PlaceGlyphs.{is_left_in, work_of, size_for}
use Rattle.discs.specs.Floor.{past_row, Handed, handed_work, EachRow, Stands, Within, Packable}
use Rattle.discs.specs.declared.options.Radius.TheVariants.{Stated}
use Rattle.discs.specs.declared.rows.Offsets.{Offsets}
use Rattle.discs.specs.declared.rows.Row.{Row}

-- ---- what is handed in

module _ (room : ℕ) (options : GlyphOptions) where
  abbrev pub OwnPoints : Handed → Type 0
  OwnPoints h = h.deepests ≡ map (deepest_of room options) h.zone.pieces

  -- the quotas are the zone's own, and so is each deepest point that its packing needs
  pub record OwnPacking (h : Handed) : Type 0 where
    pub shares : h.quotas ≡ quotas h.zone
    pub points : Own room options h.zone.pieces h.deepests (quotas h.zone)

-- ---- the zones left in

abbrev pub zones_of : List Handed → List Zone
zones_of hs = map (λ (h : Handed). h.zone) hs

picked : (b : Bool) (h : Handed) (hs : List Handed) (zones : List Zone) → zones_of hs ≡ zones → zones_of (cond b (h ∷ hs) hs) ≡ cond b (h.zone ∷ zones) zones
picked true h hs zones e = ap (λ (t : List Zone). h.zone ∷ t) e
picked false h hs zones e = e

pub work_zones : (hs : List Handed) → zones_of (handed_work hs) ≡ work_of (zones_of hs)
unfolding handed_work work_of
work_zones [] = refl
work_zones (h ∷ hs) = picked (is_left_in h.zone) h (handed_work hs) (work_of (zones_of hs)) (work_zones hs)

-- a stated radius asks for no trial and no ceiling
pub stated_any :
    (f g : List Rectangle → Float → Bool) (a b : List Rectangle) (r : Float) (c d : Option Float)
    → size_for f a (Stated r) c ≡ size_for g b (Stated r) d
unfolding size_for
stated_any f g a b r c d = refl

-- ---- what the code asks

pub rows_stand :
    (s rings sizes : List ℕ) (points : List Point) (quotas : List ℕ) (deepest : List Deepest) (rows : List Row) (at : Offsets)
    → EachRow rings sizes (Packable s rings sizes points quotas deepest) rows at
    → EachRow rings sizes (Stands rings sizes points deepest) rows at
unfolding EachRow
rows_stand s rings sizes points quotas deepest [] at e = tt
rows_stand s rings sizes points quotas deepest (row ∷ rows) at e =
    (e.0.stands, rows_stand s rings sizes points quotas deepest rows (past_row rings sizes row at) e.1)

pub stands_within :
    {rings sizes : List ℕ} {points : List Point} {deepest : List Deepest} {row : Row} {at : Offsets}
    → Stands rings sizes points deepest row at → Within rings sizes points row at
stands_within h = record { pieces = h.pieces; ring = h.ring; point = h.point; laid = h.laid }
