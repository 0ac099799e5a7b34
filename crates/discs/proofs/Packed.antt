-- What is packed of one piece, by what the packers answer: none, the spots written, or a trial's number of them.
-- Rests on the definitions, and on the room that was lent.
use Rattle.std.proofs.Common.{
  ◌≡◌,
  ℕ,
  ◌*◌,
  ◌≤◌,
  Bool,
  true,
  false,
  cond,
  not,
  ◌&&◌,
  ◌||◌,
  ltb,
  leb,
  List,
  [],
  length,
  sym,
  refl,
  ap,
  ◌∙◌,
  arith,
  length-take,
  eq-eqb,
  ne_eqb,
  leb-false,
  Option,
  None,
}
use lib.Ieee.{Float}
use Rattle.laws.specs.Lists.{written}
use Rattle.glyphs.specs.Spots.{flat, length_flat}
use Rattle.glyphs.specs.declared.mode.PackMode.{PackMode}
use Rattle.glyphs.specs.declared.options.GlyphArrangement.{GlyphArrangement}
use Rattle.glyphs.specs.declared.rect.Point.{Point}
use Rattle.glyphs.specs.declared.rect.Rectangle.{Rectangle}
use Rattle.glyphs.specs.declared.stream.Stream.{Stream}
use Rattle.regions.specs.Pieces.{rings_of}
use Rattle.regions.specs.Ring.{Piece, outer}
use Rattle.glyphs.specs.Bounds.{ring_bounds}
use Rattle.deepest.specs.declared.search.Deepest.{Deepest}
use Rattle.deepest.specs.declared.search.Deepest.TheVariants.{Found, Nothing, Full}
use Rattle.lattice.specs.Context.{inset, spacing}
use Rattle.lattice.specs.Escape.{point}
use Rattle.lattice.specs.Lattice.{HexCells, at, lattice_valid_cells, take_cells}
use Rattle.lattice.specs.Uniform.{available, local_to, anchor_of, spread_cells, pack_lattice, pack_around}
use Rattle.lattice.specs.declared.context.PackCtx.{PackCtx}
use Rattle.scatter.specs.LowDiscrepancy.{lone_anchor, pack_scatter}
use Rattle.discs.specs.Region.{pack_uniform_piece, pack_low_discrepancy_piece}
use Rattle.discs.specs.Pieces.{pack_piece_from, pack_quota, StrictTrial, Packs}
use Rattle.discs.specs.Bundles.{share_packed}
use Rattle.discs.specs.declared.bundle.PackingAt.{PackingAt}
use Rattle.discs.specs.declared.bundle.Share.{Share}
use Rattle.discs.proofs.Written.{written_fits}

-- ---- answers

module _ (mode : PackMode) (n : ℕ) (placed : List Point) where
  pub packs_none : (entry : List Float) → placed ≡ [] → Packs mode n placed 0 entry entry
  unfolding written flat
  packs_none entry e = rw e (record { counted = refl; most = omega arith; spots = λ m. refl })

  pub packs_written :
      (other : List Point) (count : ℕ) (exit entry : List Float) → placed ≡ other → count ≡ length other → exit ≡ written (flat other) entry
      → length exit ≡ length entry → length entry ≡ n * 2 → Packs mode n placed count exit entry
  packs_written other count exit entry e c w l h =
      let f = written_fits (flat other) entry (rw w at l) in
      rw e (record { counted = c; most = omega (arith, length_flat other); spots = λ m. w })

  pub packs_trial :
      (other : List Point) (count : ℕ) (exit entry : List Float) → mode.spread ≡ false → placed ≡ other → count ≡ length other → length placed ≤ n
      → Packs mode n placed count exit entry
  packs_trial other count exit entry t e c l =
      record { counted = c ∙ ap length (sym e); most = omega (arith, ap length e); spots = λ m. let w : ◌≡◌ {A = ℕ} 0 1 = cc in absurd (omega arith) }

-- a final packing is no trial
pub no_trial : (mode : PackMode) → mode.spread ≡ true → StrictTrial mode
no_trial mode e f = let w : ◌≡◌ {A = ℕ} 0 1 = cc in absurd (omega arith)

-- ---- a lattice

module _ (piece : Piece) (n : ℕ) (ctx : PackCtx) (obstacles : List Rectangle) where
  pub lattice_none :
      (found : Deepest) (rectangular : Bool) → ((x y d : Float) → found ≡ Found x y d → ⊥)
      → pack_uniform_piece found piece n ctx obstacles rectangular ≡ []
  unfolding pack_uniform_piece
  lattice_none Nothing rectangular k = refl
  lattice_none Full rectangular k = refl
  lattice_none (Found x y clearance) rectangular k = absurd (k x y clearance refl)

  pub lattice_at :
      (found : Deepest) (rectangular : Bool) (x y clearance : Float) → found ≡ Found x y clearance
      → pack_uniform_piece found piece n ctx obstacles rectangular ≡ pack_around (point x y) piece n ctx obstacles rectangular
  unfolding pack_uniform_piece
  lattice_at found rectangular x y clearance e = rw e

  -- a trial has no more cells than are wanted
  few :
      (spread strict : Bool) (anchor : Point) (cells : HexCells) (u w : List Point) (h x : Bool)
      → spread ≡ false → strict ≡ true → leb n (length cells.free) ≡ h
      → length (cond (not h && strict) (cond spread u cells.free) (cond (x || not spread) (take_cells cells n anchor h) w)) ≤ n
  unfolding take_cells
  few true strict anchor cells u w h x t s e = let z : ◌≡◌ {A = ℕ} 0 1 = cc in absurd (omega arith)
  few false false anchor cells u w h x t s e = let z : ◌≡◌ {A = ℕ} 0 1 = cc in absurd (omega arith)
  few false true anchor cells u w true true t s e = simp length-take (omega arith)
  few false true anchor cells u w true false t s e = simp length-take (omega arith)
  few false true anchor cells u w false x t s e = let k = leb-false n (length cells.free) e in omega arith

  around_few :
      (poi : Point) (rectangular : Bool) → ctx.mode.spread ≡ false → ctx.mode.strict_obstacles ≡ true
      → length (pack_around poi piece n ctx obstacles rectangular) ≤ n
  unfolding pack_around pack_lattice
  around_few poi rectangular t s =
      let near = local_to piece obstacles (inset ctx) in
      let anchor = anchor_of poi piece near (inset ctx) in
      let cells = lattice_valid_cells piece anchor (record { spacing = spacing ctx; rectangular = rectangular }) (inset ctx) near (at n) in
      let honoring = leb n (length cells.free) in
      few ctx.mode.spread ctx.mode.strict_obstacles anchor cells (take_cells cells n anchor true)
      (spread_cells piece n ctx rectangular near anchor (ring_bounds (outer piece)) cells honoring) honoring (ltb (available honoring cells) n) t s refl

  pub trial_few :
      (found : Deepest) (rectangular : Bool) → ctx.mode.spread ≡ false → ctx.mode.strict_obstacles ≡ true
      → length (pack_uniform_piece found piece n ctx obstacles rectangular) ≤ n
  unfolding pack_uniform_piece
  trial_few Nothing rectangular e f = omega arith
  trial_few Full rectangular e f = omega arith
  trial_few (Found x y clearance) rectangular e f = around_few (point x y) rectangular e f

  -- ---- a sequence of low discrepancy

  pub low_none :
      (found : Deepest) → ((x y d : Float) → found ≡ Found x y d → ⊥)
      → pack_low_discrepancy_piece found piece n ctx obstacles ≡ pack_scatter None piece n ctx obstacles
  unfolding pack_low_discrepancy_piece
  low_none Nothing k = refl
  low_none Full k = refl
  low_none (Found x y clearance) k = absurd (k x y clearance refl)

  pub low_at :
      (found : Deepest) (x y clearance : Float) (anchor : Option Point) → found ≡ Found x y clearance → anchor ≡ lone_anchor (point x y) piece n ctx obstacles
      → pack_low_discrepancy_piece found piece n ctx obstacles ≡ pack_scatter anchor piece n ctx obstacles
  unfolding pack_low_discrepancy_piece
  low_at found x y clearance anchor e a = rw (e, a)

-- ---- by the arrangement

module _ (how : PackingAt) (share : Share) (rng : Stream) where
  pub packed_none : share.quota ≡ 0 → share_packed how share rng ≡ record { placed = []; rng = rng }
  unfolding pack_quota
  packed_none e = rw (eq-eqb share.quota 0 e)

  pub packed_by :
      (arrangement : GlyphArrangement) → (share.quota ≡ 0 → ⊥) → how.packing.options.arrangement ≡ arrangement
      → share_packed how share rng
      ≡ pack_piece_from how.packing.numbers how.packing.options arrangement how.ctx how.packing.obstacles.now share.deepest (rings_of share.piece)
      share.quota rng
  unfolding pack_quota
  packed_by arrangement h e = rw (ne_eqb share.quota 0 h, e)
