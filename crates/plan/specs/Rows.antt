-- The walk over a job's zones in flat slices: what is put and asked for each, and what is known of each. Definitions, and one turn of the walk.
-- Rests on the kit's laws of lists.
use Rattle.std.specs.Prelude.{ℕ, zero, suc, ◌+◌, ◌-◌, ◌≤◌, ◌≡◌, refl, Bool, true, false, ◌&&◌, take, drop, replicate}
use Rattle.std.proofs.Common.{sym, ap, ◌∙◌, append-nil, arith, drop-drop, drop_of_length-le, length-drop, length-take-le}
use mathlib.Core.List.{List, [], ◌∷◌, ◌++◌, append_assoc}
use native.Mathlib.Bridge.{le_prop}
use Rattle.std.proofs.Math.ListN.{length, length-append}
use Rattle.std.proofs.lemmas.List.Edits.{sets, sets-eq}
use Rattle.laws.specs.Any.{all}
use Rattle.laws.specs.Lists.{written}
use Rattle.glyphs.specs.Apportion.{apportion}
use Rattle.glyphs.specs.declared.rect.Point.{Point}
use Rattle.regions.specs.Ring.{Piece}
use Rattle.format.specs.RowLaws.{sets_append, sets_written}
use Rattle.deepest.specs.declared.search.Deepest.{Deepest}
use Rattle.deepest.specs.declared.search.Deepest.TheVariants.{Nothing}
use Rattle.discs.specs.declared.options.GlyphOptions.{GlyphOptions}
use Rattle.discs.specs.declared.rows.Row.{Row}
use Rattle.discs.specs.declared.rows.ZoneAt.{ZoneAt}
use Rattle.discs.specs.declared.rows.Offsets.{Offsets}
use Rattle.discs.specs.Region.{areas}
use Rattle.discs.specs.Pieces.{pieces_of, Laid, laid_prop}
use Rattle.discs.specs.Searches.{had_room}
use Rattle.discs.specs.Floor.{row_is_left_in, cut, start, past_row, EachRow, Within, Steps}
use Rattle.job.specs.Job.{row_room, rows_room}
use Rattle.plan.specs.Found.{found_for, found_in}
use Rattle.plan.specs.Walk.{length_pieces}
use Rattle.plan.specs.Shares.{length_apportion, length_areas}

-- a zone's pieces lie within the slices, and they and its marks are few
pub record Readable (rings sizes : List ℕ) (points : List Point) (row : Row) (at : Offsets) : Type 0 where
  pub ringed : at.piece + row.pieces ≤ length rings
  pub sized : at.ring ≤ length sizes
  pub within : at.point ≤ length points
  pub laid : Laid (cut at.piece row.pieces rings) (drop at.ring sizes) (drop at.point points)
  pub few : row.pieces ≤ 16
  pub marks : row.count ≤ 2000

-- each zone's do
abbrev pub AllReadable : List ℕ → List ℕ → List Point → List Row → Type 0
AllReadable rings sizes points rows = EachRow rings sizes (Readable rings sizes points) rows start

readable_prop : (rings sizes : List ℕ) (points : List Point) (row : Row) (at : Offsets) → IsProp (Readable rings sizes points row at)
readable_prop rings sizes points row at a b = λ i. record {
  ringed = le_prop a.ringed b.ringed i;
  sized = le_prop a.sized b.sized i;
  within = le_prop a.within b.within i;
  laid = laid_prop (cut at.piece row.pieces rings) (drop at.ring sizes) (drop at.point points) a.laid b.laid i;
  few = le_prop a.few b.few i;
  marks = le_prop a.marks b.marks i;
}

-- that all are readable is a fact that has one proof at most
each_prop : (rings sizes : List ℕ) (points : List Point) (rows : List Row) (at : Offsets) → IsProp (EachRow rings sizes (Readable rings sizes points) rows at)
unfolding EachRow
each_prop rings sizes points [] at a b = λ i. tt
each_prop rings sizes points (row ∷ rows) at a b =
    λ i. (readable_prop rings sizes points row at a.0 b.0 i, each_prop rings sizes points rows (past_row rings sizes row at) a.1 b.1 i)

pub rows_prop : (rings sizes : List ℕ) (points : List Point) (rows : List Row) → IsProp (AllReadable rings sizes points rows)
rows_prop rings sizes points rows = each_prop rings sizes points rows start

-- it lies within the slices, as a layout says of each
pub lies_within :
    {rings sizes : List ℕ} {points : List Point} {row : Row} {at : Offsets}
    → Readable rings sizes points row at → Within rings sizes points row at
lies_within r = record { pieces = r.ringed; ring = r.sized; point = r.within; laid = r.laid }

module _ (rings sizes : List ℕ) where
  -- what the zones of these rows have, end to end
  unfoldable pub flat_rows : {A : Type 0} → (Row → Offsets → List A) → List Row → Offsets → List A
  flat_rows view [] at = []
  flat_rows view (row ∷ rows) at = view row at ++ flat_rows view rows (past_row rings sizes row at)

  -- whether a test holds of each
  unfoldable pub all_rows : (Row → Offsets → Bool) → List Row → Offsets → Bool
  all_rows test [] at = true
  all_rows test (row ∷ rows) at = test row at && all_rows test rows (past_row rings sizes row at)

module _ (rings sizes : List ℕ) (points : List Point) where
  abbrev pub pieces_at : Row → Offsets → List Piece
  pieces_at row at = pieces_of (cut at.piece row.pieces rings) (drop at.ring sizes) (drop at.point points)

  -- the quotas of a zone's pieces
  unfoldable pub shares_at : Row → Offsets → List ℕ
  shares_at row at = apportion row.count (areas (pieces_at row at))

  -- their deepest points
  unfoldable pub found_at : GlyphOptions → List ℕ → Row → Offsets → List Deepest
  found_at options quotas row at = found_in options (row_is_left_in row) (pieces_at row at) (cut at.piece row.pieces quotas)

  unfoldable pub fits_at : GlyphOptions → List ℕ → Row → Offsets → Bool
  fits_at options quotas row at = all had_room (found_at options quotas row at)

-- ---- laws

-- the part of a slice that code takes from p to p + n
pub cut_is : {A : Type 0} (p n : ℕ) (l : List A) → take (p + n - p) (drop p l) ≡ cut p n l
cut_is p n l = let e : p + n - p ≡ n = omega arith in rw e

pub length_cut : {A : Type 0} (p n : ℕ) (l : List A) → p + n ≤ length l → length (cut p n l) ≡ n
length_cut p n l h = length-take-le n (drop p l) (simp length-drop (omega arith))

-- a part that is lent, and comes back with other elements
pub part_put : {A : Type 0} (l xs : List A) (p n : ℕ) → length xs ≡ n → p + n ≤ length l → take p l ++ (xs ++ drop (p + n - p) (drop p l)) ≡ sets l p xs
part_put l xs p n e h =
    let k : p + n - p ≡ length xs = omega (arith, e) in
    rw (k, drop-drop (length xs) p l) (sym (sets-eq xs l p (omega (arith, e, h)) ∙ append_assoc (take p l) xs (drop (p + length xs) l)))

-- a part that is written whole
pub sets_whole : {A : Type 0} (xs l : List A) → length l ≡ length xs → sets l 0 xs ≡ xs
unfolding written
sets_whole xs l e =
    let h : length l ≤ length xs = omega (arith, e) in
    sets_written xs l (omega (arith, e)) ∙ rw (drop_of_length-le l h) (append-nil xs)

pub length_found :
    (options : GlyphOptions) (left_in : Bool) (pieces : List Piece) (quotas : List ℕ) → length pieces ≤ length quotas
    → length (found_in options left_in pieces quotas) ≡ length pieces
unfolding found_in
length_found options left_in [] quotas h = refl
length_found options left_in (piece ∷ pieces) [] h = absurd (omega arith)
length_found options left_in (piece ∷ pieces) (quota ∷ quotas) h = ap suc (length_found options left_in pieces quotas (omega arith))

-- where a zone is left out there is none
pub left_out :
    (options : GlyphOptions) (pieces : List Piece) (quotas : List ℕ) → length pieces ≤ length quotas
    → found_in options false pieces quotas ≡ replicate (length pieces) Nothing
unfolding found_in found_for
left_out options [] quotas h = refl
left_out options (piece ∷ pieces) [] h = absurd (omega arith)
left_out options (piece ∷ pieces) (quota ∷ quotas) h = ap (λ (l : List Deepest). Nothing ∷ l) (left_out options pieces quotas (omega arith))

pub none_fit : (n : ℕ) → all had_room (replicate n Nothing) ≡ true
unfolding all had_room
none_fit zero = refl
none_fit (suc n) = none_fit n

module _ (rings sizes : List ℕ) (points : List Point) (row : Row) (at : Offsets) (h : at.piece + row.pieces ≤ length rings) where
  pub length_shares : length (shares_at rings sizes points row at) ≡ row.pieces
  unfolding shares_at
  length_shares =
      length_apportion row.count (areas (pieces_at rings sizes points row at))
      ∙ length_areas (cut at.piece row.pieces rings) (drop at.ring sizes) (drop at.point points)
      ∙ length_cut at.piece row.pieces rings h

  pub length_found_in :
      (options : GlyphOptions) (left_in : Bool) (quotas : List ℕ) → at.piece + row.pieces ≤ length quotas
      → length (found_in options left_in (pieces_at rings sizes points row at) (cut at.piece row.pieces quotas)) ≡ row.pieces
  length_found_in options left_in quotas q =
      let p : length (pieces_at rings sizes points row at) ≡ row.pieces =
      length_pieces (cut at.piece row.pieces rings) (drop at.ring sizes) (drop at.point points) ∙ length_cut at.piece row.pieces rings h in
      let n = length_cut at.piece row.pieces quotas q in
      length_found options left_in (pieces_at rings sizes points row at) (cut at.piece row.pieces quotas) (omega arith) ∙ p

  pub length_found_at :
      (options : GlyphOptions) (quotas : List ℕ) → at.piece + row.pieces ≤ length quotas
      → length (found_at rings sizes points options quotas row at) ≡ row.pieces
  unfolding found_at
  length_found_at options quotas q = length_found_in options (row_is_left_in row) quotas q

pub past_piece : (rings sizes : List ℕ) (row : Row) (at : Offsets) → (past_row rings sizes row at).piece ≡ at.piece + row.pieces
unfolding past_row
past_piece rings sizes row at = refl

-- one turn of the walk
module _ {rings sizes : List ℕ} {rows rest : List Row} {at next : Offsets} {zone : ZoneAt} (h : Steps rings sizes rows at zone rest next) where
  pub flat_turn :
      {A : Type 0} {x : List A} (view : Row → Offsets → List A) (l put : List A) (j m : ℕ) → m ≡ j + length (view zone.row zone.at)
      → put ≡ sets l j (view zone.row zone.at)
      → x ≡ sets l j (flat_rows rings sizes view rows at)
      → x ≡ sets put m (flat_rows rings sizes view rest next)
  unfolding flat_rows
  flat_turn view l put j m i f g =
      let others = flat_rows rings sizes view rest (past_row rings sizes zone.row zone.at) in
      g ∙ rw (h.first, h.here, h.past) (sets_append l j (view zone.row zone.at) others ∙ rw (f, i))

  pub length_turn :
      {A : Type 0} {x : ℕ} (view : Row → Offsets → List A) (j m : ℕ) → m ≡ j + length (view zone.row zone.at)
      → x ≡ j + length (flat_rows rings sizes view rows at)
      → x ≡ m + length (flat_rows rings sizes view rest next)
  unfolding flat_rows
  length_turn view j m i g =
      let r = flat_rows rings sizes view rest (past_row rings sizes zone.row zone.at) in
      g ∙ rw (h.first, h.here, h.past) (omega (arith, length-append (view zone.row zone.at) r, i))

  pub all_turn :
      {x : Bool} (test : Row → Offsets → Bool) → test zone.row zone.at ≡ true → x ≡ all_rows rings sizes test rows at
      → x ≡ all_rows rings sizes test rest next
  unfolding all_rows
  all_turn test f g = g ∙ rw (h.first, h.here, h.past, f)

  pub all_stop : {x : Bool} (test : Row → Offsets → Bool) → test zone.row zone.at ≡ false → x ≡ all_rows rings sizes test rows at → x ≡ false
  unfolding all_rows
  all_stop test f g = g ∙ rw (h.first, h.here, f)

  pub rooms_turn : rows_room rows ≡ row_room zone.row + rows_room rest
  unfolding rows_room
  rooms_turn = rw h.first

  -- where the pieces of the zones after it start
  pub next_piece : next.piece ≡ zone.at.piece + zone.row.pieces
  next_piece = ap (λ (o : Offsets). o.piece) h.past ∙ past_piece rings sizes zone.row zone.at

-- the walk's end
module _ (rings sizes : List ℕ) (rows : List Row) (at : Offsets) (h : rows ≡ []) where
  pub flat_end :
      {A : Type 0} {x : List A} (view : Row → Offsets → List A) (l : List A) (j : ℕ) → x ≡ sets l j (flat_rows rings sizes view rows at) → x ≡ l
  unfolding flat_rows
  flat_end view l j g = g ∙ rw h

  pub length_end : {A : Type 0} {x : ℕ} (view : Row → Offsets → List A) (j : ℕ) → x ≡ j + length (flat_rows rings sizes view rows at) → x ≡ j
  unfolding flat_rows
  length_end view j g = g ∙ rw h (omega arith)

  pub all_end : {x : Bool} (test : Row → Offsets → Bool) → x ≡ all_rows rings sizes test rows at → x ≡ true
  unfolding all_rows
  all_end test g = g ∙ rw h
