-- The zones of a job in flat slices, with the quotas and the deepest points of their pieces. Definitions only.
use Rattle.std.specs.Prelude.{◌≡◌, ℕ, ◌+◌, ◌≤◌, Bool, true, cond, ◌&&◌, List, [], ◌∷◌, length, take, drop, ◌==◌, nat_lt, Float, Option}
use mathlib.Core.List.{foldl}
use native.Mathlib.Bridge.{le_prop}
use Rattle.laws.specs.Any.{all}
use Rattle.float.specs.Ops.{∞}
use Rattle.glyphs.specs.Hash.{fnv1a}
use Rattle.glyphs.specs.Stream.{seeded}
use Rattle.glyphs.specs.declared.rect.Point.{Point}
use Rattle.glyphs.specs.declared.rect.Rectangle.{Rectangle}
use Rattle.regions.specs.Ring.{sum}
use Rattle.deepest.specs.declared.search.Deepest.{Deepest}
use Rattle.deepest.specs.declared.search.Deepest.TheVariants.{Nothing}
use Rattle.deepest.specs.Deepest.{deeper_of}
use Rattle.relax.specs.declared.Spreading.{Spreading}
use Rattle.lattice.specs.declared.context.PackCtx.{PackCtx}
use Rattle.discs.specs.Region.{Zone, placed_in}
use Rattle.discs.specs.Radius.{context_at, area_of, lowered, if_positive, probe}
use Rattle.discs.specs.PlaceGlyphs.{is_left_in}
use Rattle.discs.specs.Pieces.{pieces_of, deepests_of, pack_pieces_from, Laid, laid_prop}
use Rattle.discs.specs.declared.options.GlyphOptions.{GlyphOptions}
use Rattle.discs.specs.declared.rows.Offsets.{Offsets}
use Rattle.discs.specs.declared.rows.Row.{Row}
use Rattle.discs.specs.declared.rows.ZoneAt.{ZoneAt}

-- ---- rows

-- n > 0 && !pieces.is_empty()
unfoldable pub row_is_left_in : Row → Bool
row_is_left_in row = nat_lt 0 row.count && nat_lt 0 row.pieces

-- ---- zones, as they lie in the slices

-- a zone, with the quotas and the deepest points of its pieces
pub record Handed : Type 0 where
  pub zone : Zone
  pub quotas : List ℕ
  pub deepests : List Deepest

-- so many elements from a place on
abbrev pub cut : {A : Type 0} → ℕ → ℕ → List A → List A
cut from n l = take n (drop from l)

-- where the first zone's pieces, rings and points start, and where those of the zone after a row do
abbrev pub start : Offsets
start = record { piece = 0; ring = 0; point = 0 }

unfoldable pub past_row : List ℕ → List ℕ → Row → Offsets → Offsets
past_row rings sizes row at =
    let own = take (sum (cut at.piece row.pieces rings)) (drop at.ring sizes) in
    record { piece = at.piece + row.pieces; ring = at.ring + length own; point = at.point + sum own }

module _ (s rings sizes : List ℕ) (points : List Point) (quotas : List ℕ) (deepest : List Deepest) where
  unfoldable pub handed_at : Row → Offsets → Handed
  handed_at row at =
      record {
        zone = record {
          key = cut row.key row.len s;
          count = row.count;
          pieces = pieces_of (cut at.piece row.pieces rings) (drop at.ring sizes) (drop at.point points);
        };
        quotas = cut at.piece row.pieces quotas;
        deepests = deepests_of (cut at.piece row.pieces deepest);
      }

  -- the zones of these rows
  unfoldable pub handed_from : List Row → Offsets → List Handed
  handed_from [] at = []
  handed_from (row ∷ rows) at = handed_at row at ∷ handed_from rows (past_row rings sizes row at)

-- the zones left in
unfoldable pub handed_work : List Handed → List Handed
handed_work [] = []
handed_work (handed ∷ rest) = cond (is_left_in handed.zone) (handed ∷ handed_work rest) (handed_work rest)

abbrev pub work_in : List ℕ → List Row → List ℕ → List ℕ → List Point → List ℕ → List Deepest → List Handed
work_in s rows rings sizes points quotas deepest = handed_work (handed_from s rings sizes points quotas deepest rows start)

-- ---- analytic_r_hi and feasible, with what is handed in

-- the first of the deepest
unfoldable pub deepest_in : List Deepest → Deepest
deepest_in deepests = foldl deeper_of Nothing deepests

unfoldable pub lowered_by : Float → Float → Handed → Float
lowered_by gap r-hi handed = lowered gap handed.zone.count r-hi (area_of handed.zone.pieces) (deepest_in handed.deepests)

unfoldable pub handed_r_hi : List Handed → Float → Option Float
handed_r_hi work gap = if_positive (foldl (lowered_by gap) ∞ work)

unfoldable pub pack_handed : Spreading → GlyphOptions → PackCtx → List Rectangle → Handed → List (List Point)
pack_handed numbers options ctx obstacles handed =
    pack_pieces_from numbers options ctx obstacles handed.zone.pieces handed.deepests handed.quotas (seeded options.seed (fnv1a handed.zone.key))

-- pack_region(..).len() == *n
unfoldable pub holds_all : Spreading → GlyphOptions → PackCtx → List Rectangle → Handed → Bool
holds_all numbers options ctx obstacles handed = placed_in (pack_handed numbers options ctx obstacles handed) == handed.zone.count

unfoldable pub handed_feasible : Spreading → GlyphOptions → List Handed → List Rectangle → Float → Bool
handed_feasible numbers options work obstacles r = all (holds_all numbers options (context_at options probe r) obstacles) work

-- ---- what the code asks of the slices

-- it holds of each row, and of where its pieces start
unfoldable pub EachRow : List ℕ → List ℕ → (Row → Offsets → Type 0) → List Row → Offsets → Type 0
EachRow rings sizes P [] at = Unit {0}
EachRow rings sizes P (row ∷ rows) at = P row at × EachRow rings sizes P rows (past_row rings sizes row at)

-- one zone of a walk: the first of the rows left, and where it starts; the others are left, from where the zone after it starts
pub record Steps (rings sizes : List ℕ) (rows : List Row) (at : Offsets) (zone : ZoneAt) (rest : List Row) (next : Offsets) : Type 0 where
  pub first : rows ≡ zone.row ∷ rest
  pub here : at ≡ zone.at
  pub past : next ≡ past_row rings sizes zone.row zone.at

-- a zone's pieces lie within the slices
pub record Within (rings sizes : List ℕ) (points : List Point) (row : Row) (at : Offsets) : Type 0 where
  pub pieces : at.piece + row.pieces ≤ length rings
  pub ring : at.ring ≤ length sizes
  pub point : at.point ≤ length points
  pub laid : Laid (cut at.piece row.pieces rings) (drop at.ring sizes) (drop at.point points)

-- a zone has at most 2,000 marks, its pieces lie within the slices, and each has a deepest point
pub record Stands (rings sizes : List ℕ) (points : List Point) (deepest : List Deepest) (row : Row) (at : Offsets) : Type 0 where
  pub pieces : at.piece + row.pieces ≤ length rings
  pub ring : at.ring ≤ length sizes
  pub point : at.point ≤ length points
  pub laid : Laid (cut at.piece row.pieces rings) (drop at.ring sizes) (drop at.point points)
  pub found : at.piece + row.pieces ≤ length deepest
  pub marks : row.count ≤ 2000

-- and its key lies within the bytes, each piece has a quota, and the quotas of a zone left in are at most 2,000
pub record Packable (s rings sizes : List ℕ) (points : List Point) (quotas : List ℕ) (deepest : List Deepest) (row : Row) (at : Offsets) : Type 0 where
  pub stands : Stands rings sizes points deepest row at
  pub key : row.key + row.len ≤ length s
  pub shared : at.piece + row.pieces ≤ length quotas
  pub few : row_is_left_in row ≡ true → sum (cut at.piece row.pieces quotas) ≤ 2000

abbrev pub Floor : List ℕ → List Row → List ℕ → List ℕ → List Point → List ℕ → List Deepest → Type 0
Floor s rows rings sizes points quotas deepest = EachRow rings sizes (Packable s rings sizes points quotas deepest) rows start

within_prop : (rings sizes : List ℕ) (points : List Point) (row : Row) (at : Offsets) → IsProp (Within rings sizes points row at)
within_prop rings sizes points row at a b = λ i. record {
  pieces = le_prop a.pieces b.pieces i;
  ring = le_prop a.ring b.ring i;
  point = le_prop a.point b.point i;
  laid = laid_prop (cut at.piece row.pieces rings) (drop at.ring sizes) (drop at.point points) a.laid b.laid i;
}

stands_prop :
    (rings sizes : List ℕ) (points : List Point) (deepest : List Deepest) (row : Row) (at : Offsets)
    → IsProp (Stands rings sizes points deepest row at)
stands_prop rings sizes points deepest row at a b = λ i. record {
  pieces = le_prop a.pieces b.pieces i;
  ring = le_prop a.ring b.ring i;
  point = le_prop a.point b.point i;
  laid = laid_prop (cut at.piece row.pieces rings) (drop at.ring sizes) (drop at.point points) a.laid b.laid i;
  found = le_prop a.found b.found i;
  marks = le_prop a.marks b.marks i;
}

packable_prop :
    (s rings sizes : List ℕ) (points : List Point) (quotas : List ℕ) (deepest : List Deepest) (row : Row) (at : Offsets)
    → IsProp (Packable s rings sizes points quotas deepest row at)
packable_prop s rings sizes points quotas deepest row at a b = λ i. record {
  stands = stands_prop rings sizes points deepest row at a.stands b.stands i;
  key = le_prop a.key b.key i;
  shared = le_prop a.shared b.shared i;
  few = λ e. le_prop (a.few e) (b.few e) i;
}

each_prop :
    (rings sizes : List ℕ) (P : Row → Offsets → Type 0) → ((row : Row) (at : Offsets) → IsProp (P row at))
    → (rows : List Row) (at : Offsets) → IsProp (EachRow rings sizes P rows at)
unfolding EachRow
each_prop rings sizes P p [] at a b = λ i. tt
each_prop rings sizes P p (row ∷ rows) at a b = λ i. (p row at a.0 b.0 i, each_prop rings sizes P p rows (past_row rings sizes row at) a.1 b.1 i)

pub rows_within_prop :
    (rings sizes : List ℕ) (points : List Point) (rows : List Row) (at : Offsets)
    → IsProp (EachRow rings sizes (Within rings sizes points) rows at)
rows_within_prop rings sizes points = each_prop rings sizes (Within rings sizes points) (within_prop rings sizes points)

pub floor_prop :
    (s : List ℕ) (rows : List Row) (rings sizes : List ℕ) (points : List Point) (quotas : List ℕ) (deepest : List Deepest)
    → IsProp (Floor s rows rings sizes points quotas deepest)
floor_prop s rows rings sizes points quotas deepest =
    each_prop rings sizes (Packable s rings sizes points quotas deepest) (packable_prop s rings sizes points quotas deepest) rows start

-- what is lent has room for the obstacles and for 2,000 marks
pub record Lends (obstacles near : List Rectangle) (second : List Float) (flags : List Bool) (spots : List Float) : Type 0 where
  pub room_near : length obstacles ≤ length near
  pub room_second : 4000 ≤ length second
  pub room_flags : 2000 ≤ length flags
  pub room_spots : 4000 ≤ length spots
