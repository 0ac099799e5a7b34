-- What the code asks of the slices: the pieces, quotas and deepest points lie within them, and no zone is given more marks than it has.
-- Rests on the sum of a zone's quotas, and on no packer placing more marks than it is asked for.
use Rattle.std.specs.Prelude.{ℕ, ◌+◌, ◌≤◌, ◌≡◌, refl, Bool, cond, ◌&&◌, ◌||◌, eqb, ltb, drop, None, Some, Option}
use Rattle.std.proofs.Math.Path.{sym}
use Rattle.std.proofs.Common.{ap, ◌∙◌, length-take, length-drop}
use Rattle.std.proofs.Math.Bool.{true, false, not}
use mathlib.Core.List.{List, [], ◌∷◌}
use native.Mathlib.Omega.{arith}
use borrow.Author.Tests.{ltb-true}
use Rattle.std.proofs.Math.Dec.{leb}
use Rattle.std.proofs.Math.ListN.{length}
use Rattle.laws.specs.Sorted.{weigh}
use Rattle.laws.specs.Truth.{both_true}
use Rattle.glyphs.specs.Bounds.{ring_bounds}
use Rattle.glyphs.specs.Hash.{fnv1a}
use Rattle.glyphs.specs.Stream.{seeded}
use Rattle.glyphs.specs.declared.bounds.Extents.{Extents}
use Rattle.glyphs.specs.declared.options.GlyphArrangement.{GlyphArrangement}
use Rattle.glyphs.specs.declared.options.GlyphArrangement.TheVariants.{Uniform, Rectangular, LowDiscrepancy, Random}
use Rattle.glyphs.specs.declared.rect.Point.{Point}
use Rattle.glyphs.specs.declared.rect.Rectangle.{Rectangle}
use Rattle.glyphs.specs.declared.stream.Stream.{Stream}
use Rattle.regions.specs.Ring.{Piece, outer, sum}
use Rattle.deepest.specs.declared.search.Deepest.{Deepest}
use Rattle.deepest.specs.declared.search.Deepest.TheVariants.{Found, Nothing, Full}
use Rattle.relax.specs.Kept.{length_relaxed}
use Rattle.relax.specs.Scatter.{relax_scatter}
use Rattle.relax.specs.declared.Spreading.{Spreading}
use Rattle.lattice.specs.Context.{inset, spacing}
use Rattle.lattice.specs.Escape.{point}
use Rattle.lattice.specs.Lattice.{HexCells, take_cells}
use Rattle.lattice.specs.Lattice as lattice
use Rattle.lattice.specs.Uniform.{local_to, available, cells_at, spread_cells, pack_lattice, anchor_of, pack_around}
use Rattle.lattice.specs.declared.context.PackCtx.{PackCtx}
use Rattle.scatter.specs.LowDiscrepancy.{lone_anchor, pack_within, pack_scatter}
use Rattle.scatter.specs.Random.{Thrown, throws, throw_within, pack_random_piece}
use Rattle.discs.specs.declared.rows.Row.{Row}
use Rattle.discs.specs.declared.radius.Size.{Size}
use Rattle.discs.specs.declared.options.GlyphOptions.{GlyphOptions}
use Rattle.discs.specs.declared.rows.Offsets.{Offsets}
use Rattle.discs.specs.Region.{Zone, quotas, pack_uniform_piece, pack_low_discrepancy_piece, placed_in}
use Rattle.discs.specs.Radius.{context_at}
use Rattle.discs.specs.PlaceGlyphs.{is_left_in, pack}
use Rattle.discs.specs.Pieces.{pack_piece_from, pack_quota, pack_pieces_from}
use Rattle.discs.specs.Floor.{row_is_left_in, past_row, pack_handed, start, EachRow, Packable, Floor}
use Rattle.claims.specs.Counts.{taken_count, scattered_count, thrown_count}
use Rattle.claims.specs.HandOut.{assigned_sum}
use Rattle.claims.specs.HandOut as HandOut
use Rattle.claims.proofs.Portions.{zone_sum}
use Rattle.plan.specs.Walk.{never}
use Rattle.plan.specs.Rows.{past_piece}
use Rattle.plan.specs.Placing.{place_for, Fair}
use Rattle.job.specs.Rows.{AreRows}
use Rattle.plan.specs.Left.{Left, own_row, own_readable, own_left_in, left_next}
use Rattle.plan.specs.Own.{length_quotas, length_found_of, Filled, own_of, own_shares, own_deepest, filled_next, handed_own}

-- ---- one piece

module _ (piece : Piece) (n : ℕ) (ctx : PackCtx) (obstacles : List Rectangle) (spread : ctx.mode.spread ≡ true) where
  spread_count :
      (rectangular : Bool) (near : List Rectangle) (anchor : Point) (b : Option Extents) (at_min : HexCells) (honoring : Bool)
      → length (spread_cells piece n ctx rectangular near anchor b at_min honoring) ≤ n
  unfolding spread_cells
  spread_count rectangular near anchor None at_min honoring = taken_count at_min n anchor honoring
  spread_count rectangular near anchor (Some bounds) at_min honoring = taken_count _ n anchor honoring

  lattice_count : (rectangular : Bool) (near : List Rectangle) (anchor : Point) → length (pack_lattice piece n ctx rectangular near anchor) ≤ n
  unfolding pack_lattice
  lattice_count rectangular near anchor =
      let at_min = cells_at piece n ctx rectangular near anchor (spacing ctx) (lattice.at n) in
      let honoring = leb n (length at_min.free) in
      go at_min (not honoring && ctx.mode.strict_obstacles) (ltb (available honoring at_min) n || not ctx.mode.spread) honoring ctx.mode.spread spread
    where
      go : (at_min : HexCells) (s b h sp : Bool) → sp ≡ true
          → length (cond s (cond sp (take_cells at_min n anchor true) at_min.free)
          (cond b (take_cells at_min n anchor h) (spread_cells piece n ctx rectangular near anchor (ring_bounds (outer piece)) at_min h)))
          ≤ n
      go at_min true b h true e = taken_count at_min n anchor true
      go at_min true b h false e = absurd (never e)
      go at_min false true h sp e = taken_count at_min n anchor h
      go at_min false false h sp e = spread_count rectangular near anchor (ring_bounds (outer piece)) at_min h

  uniform_count : (rectangular : Bool) (found : Deepest) → length (pack_uniform_piece found piece n ctx obstacles rectangular) ≤ n
  unfolding pack_uniform_piece pack_around
  uniform_count rectangular Nothing = omega arith
  uniform_count rectangular Full = omega arith
  uniform_count rectangular (Found x y clearance) =
      lattice_count rectangular (local_to piece obstacles (inset ctx)) (anchor_of (point x y) piece (local_to piece obstacles (inset ctx)) (inset ctx))

  within_count : (anchor : Option Point) (b : Option Extents) → length (pack_within b anchor piece n ctx obstacles) ≤ n
  unfolding pack_within
  within_count anchor None = omega arith
  within_count anchor (Some bounds) =
      scattered_count piece n ctx (local_to piece obstacles (inset ctx)) anchor bounds.min_x bounds.max_x bounds.min_y bounds.max_y

  scatter_count : (anchor : Option Point) → length (pack_scatter anchor piece n ctx obstacles) ≤ n
  unfolding pack_scatter
  scatter_count anchor = go (eqb n 0)
    where
      go : (t : Bool) → length (cond t [] (pack_within (ring_bounds (outer piece)) anchor piece n ctx obstacles)) ≤ n
      go true = omega arith
      go false = within_count anchor (ring_bounds (outer piece))

  low_count : (found : Deepest) → length (pack_low_discrepancy_piece found piece n ctx obstacles) ≤ n
  unfolding pack_low_discrepancy_piece
  low_count Nothing = scatter_count None
  low_count Full = scatter_count None
  low_count (Found x y clearance) = scatter_count (lone_anchor (point x y) piece n ctx obstacles)

  darts_count :
      (numbers : Spreading) (attempts : ℕ) (b : Option Extents) (rng : Stream) → length (throw_within b numbers piece n attempts ctx obstacles rng).placed ≤ n
  unfolding throw_within
  darts_count numbers attempts None rng = omega arith
  darts_count numbers attempts (Some bounds) rng = go ctx.mode.spread
    where
      near : List Rectangle
      near = local_to piece obstacles (inset ctx)

      thrown : Thrown
      thrown = throws piece n attempts ctx near bounds.min_x bounds.max_x bounds.min_y bounds.max_y rng

      few : length thrown.placed ≤ n
      few = thrown_count piece n attempts ctx near bounds.min_x bounds.max_x bounds.min_y bounds.max_y rng

      go :
          (b : Bool)
          → length (cond b (record { placed = relax_scatter numbers thrown.placed piece near (spacing ctx) (inset ctx); rng = thrown.rng }) thrown).placed ≤ n
      go true = rw (length_relaxed numbers thrown.placed piece near (spacing ctx) (inset ctx)) few
      go false = few

  piece_count :
      (numbers : Spreading) (options : GlyphOptions) (arrangement : GlyphArrangement) (found : Deepest) (rng : Stream)
      → length (pack_piece_from numbers options arrangement ctx obstacles found piece n rng).placed ≤ n
  unfolding pack_piece_from pack_random_piece
  piece_count numbers options Uniform found rng = uniform_count false found
  piece_count numbers options Rectangular found rng = uniform_count true found
  piece_count numbers options LowDiscrepancy found rng = low_count found
  piece_count numbers options Random found rng = darts_count numbers options.max_attempts (ring_bounds (outer piece)) rng

  quota_count :
      (numbers : Spreading) (options : GlyphOptions) (found : Deepest) (rng : Stream)
      → length (pack_quota numbers options ctx obstacles found piece n rng).placed ≤ n
  unfolding pack_quota
  quota_count numbers options found rng = go (eqb n 0)
    where
      go :
          (b : Bool)
          → length (cond b (record { placed = []; rng = rng }) (pack_piece_from numbers options options.arrangement ctx obstacles found piece n rng)).placed ≤ n
      go true = omega arith
      go false = piece_count numbers options options.arrangement found rng

-- ---- one zone

module _ (numbers : Spreading) (options : GlyphOptions) (ctx : PackCtx) (obstacles : List Rectangle) (spread : ctx.mode.spread ≡ true) where
  pieces_count :
      (pieces : List Piece) (deepests : List Deepest) (shares : List ℕ) (rng : Stream)
      → placed_in (pack_pieces_from numbers options ctx obstacles pieces deepests shares rng) ≤ sum shares
  unfolding pack_pieces_from placed_in sum
  pieces_count [] deepests shares rng = omega arith
  pieces_count (piece ∷ pieces) [] shares rng = omega arith
  pieces_count (piece ∷ pieces) (found ∷ deepests) [] rng = omega arith
  pieces_count (piece ∷ pieces) (found ∷ deepests) (quota ∷ shares) rng =
      let thrown = pack_quota numbers options ctx obstacles found piece quota rng in
      omega (arith, quota_count piece quota ctx obstacles spread numbers options found rng, pieces_count pieces deepests shares thrown.rng)

place_count :
    (numbers : Spreading) (sizing : Option Size) (options : GlyphOptions) (obstacles : List Rectangle) (zone : Zone)
    → placed_in (place_for numbers sizing options obstacles (own_of options zone)) ≤ sum (quotas zone)
unfolding place_for pack_handed
place_count numbers None options obstacles zone = unfold placed_in in omega arith
place_count numbers (Some size) options obstacles zone =
    pieces_count numbers options (context_at options (pack options) size.radius) obstacles refl zone.pieces _ (quotas zone)
    (seeded options.seed (fnv1a zone.key))

sum_same : (l : List ℕ) → sum l ≡ HandOut.sum l
unfolding sum weigh
sum_same [] = refl
sum_same (x ∷ xs) = omega (arith, sum_same xs)

module _
    (s : List ℕ) (row : Row) (rows : List Row) (rings sizes : List ℕ) (points : List Point) (zone : Zone) (zones : List Zone) (at : Offsets)
    (l : Left s (row ∷ rows) rings sizes points (zone ∷ zones) at) where
  -- the quotas of a zone left in are its marks
  quota_sum : row_is_left_in row ≡ true → sum (quotas zone) ≡ row.count
  unfolding is_left_in
  quota_sum e =
      let r = own_row s row rows rings sizes points zone zones at l in
      let i : is_left_in zone ≡ true = sym (own_left_in s row rows rings sizes points zone zones at l) ∙ e in
      let some = ltb-true 0 (length zone.pieces) (both_true (ltb 0 zone.count) (ltb 0 (length zone.pieces)) i).1 in
      let k = l.known.0 in
      sum_same (quotas zone) ∙ sym (assigned_sum (quotas zone)) ∙ zone_sum zone k.pieces k.few some (rw (← r.count) r.fits.few) ∙ sym r.count

  module _ (options : GlyphOptions) (shares : List ℕ) (deepest : List Deepest) (f : Filled options shares deepest (zone ∷ zones) at) where
    shares_fit : at.piece ≤ length shares → at.piece + row.pieces ≤ length shares
    shares_fit h =
        omega (
          arith,
          h,
          ap length (own_shares options s row rows rings sizes points shares deepest zone zones at l f),
          length_quotas zone,
          (own_row s row rows rings sizes points zone zones at l).pieces,
          length-take row.pieces (drop at.piece shares),
          length-drop at.piece shares,
        )

    deepest_fit : at.piece ≤ length deepest → at.piece + row.pieces ≤ length deepest
    deepest_fit h =
        omega (
          arith,
          h,
          ap length (own_deepest options s row rows rings sizes points shares deepest zone zones at l f),
          length_found_of options zone,
          (own_row s row rows rings sizes points zone zones at l).pieces,
          length-take row.pieces (drop at.piece deepest),
          length-drop at.piece deepest,
        )

    packable : at.piece ≤ length shares → at.piece ≤ length deepest → Packable s rings sizes points shares deepest row at
    packable p q =
        let r = own_readable s row rows rings sizes points zone zones at l in
        record {
          stands = record {
            pieces = r.ringed;
            ring = r.sized;
            point = r.within;
            laid = r.laid;
            found = deepest_fit q;
            marks = r.marks;
          };
          key = (own_row s row rows rings sizes points zone zones at l).inside;
          shared = shares_fit p;
          few = λ (e : row_is_left_in row ≡ true). rw (own_shares options s row rows rings sizes points shares deepest zone zones at l f, quota_sum e) r.marks;
        }

    fair :
        (numbers : Spreading) (sizing : Option Size) (obstacles : List Rectangle)
        → Fair numbers sizing options obstacles s rings sizes points shares deepest row at
    unfolding Fair
    fair numbers sizing obstacles e =
        rw (
          handed_own options s row rows rings sizes points shares deepest zone zones at l f,
          ← quota_sum e,
        ) (place_count numbers sizing options obstacles zone)

-- ---- all zones

module _ (options : GlyphOptions) (s rings sizes : List ℕ) (points : List Point) (shares : List ℕ) (deepest : List Deepest) where
  all_packable :
      (rows : List Row) (zones : List Zone) (at : Offsets) → Left s rows rings sizes points zones at → Filled options shares deepest zones at
      → at.piece ≤ length shares → at.piece ≤ length deepest
      → EachRow rings sizes (Packable s rings sizes points shares deepest) rows at
  unfolding EachRow AreRows
  all_packable [] zones at l f p q = tt
  all_packable (row ∷ rows) [] at l f p q = absurd l.are_rows
  all_packable (row ∷ rows) (zone ∷ zones) at l f p q =
      let past = past_piece rings sizes row at in (
        packable s row rows rings sizes points zone zones at l options shares deepest f p q,
        all_packable rows zones (past_row rings sizes row at) (left_next s row rows rings sizes points zone zones at l)
            (filled_next options s row rows rings sizes points shares deepest zone zones at l f)
            (rw past (shares_fit s row rows rings sizes points zone zones at l options shares deepest f p))
            (rw past (deepest_fit s row rows rings sizes points zone zones at l options shares deepest f q)),
      )

  pub floor_is :
      (rows : List Row) (zones : List Zone) → Left s rows rings sizes points zones start → Filled options shares deepest zones start
      → Floor s rows rings sizes points shares deepest
  floor_is rows zones l f = all_packable rows zones start l f (omega arith) (omega arith)

  pub all_fair :
      (numbers : Spreading) (sizing : Option Size) (obstacles : List Rectangle) (rows : List Row) (zones : List Zone) (at : Offsets)
      → Left s rows rings sizes points zones at → Filled options shares deepest zones at
      → EachRow rings sizes (Fair numbers sizing options obstacles s rings sizes points shares deepest) rows at
  unfolding EachRow AreRows
  all_fair numbers sizing obstacles [] zones at l f = tt
  all_fair numbers sizing obstacles (row ∷ rows) [] at l f = absurd l.are_rows
  all_fair numbers sizing obstacles (row ∷ rows) (zone ∷ zones) at l f = (
    fair s row rows rings sizes points zone zones at l options shares deepest f numbers sizing obstacles,
    all_fair numbers sizing obstacles rows zones (past_row rings sizes row at) (left_next s row rows rings sizes points zone zones at l)
        (filled_next options s row rows rings sizes points shares deepest zone zones at l f),
  )
