-- A turn of the loop over a zone's pieces: what is left to pack, and where its spots go.
-- Rests on the laws of a list that is written run after run.
use Rattle.std.proofs.Common.{◌≡◌, ℕ, ◌+◌, ◌-◌, ◌*◌, ◌≤◌, true, List, [], ◌∷◌, ◌++◌, length, take, drop, sym, refl, ap, ◌∙◌, arith}
use mathlib.Core.List.{flatten}
use mathlib.Core.Logic.{◌⊎◌, inl, inr}
use lib.Ieee.{Float}
use Rattle.laws.specs.Lists.{written}
use Rattle.glyphs.specs.Spots.{flat, length_flat}
use Rattle.glyphs.specs.declared.rect.Point.{Point}
use Rattle.glyphs.specs.declared.rect.Rectangle.{Rectangle}
use Rattle.glyphs.specs.declared.stream.Stream.{Stream}
use Rattle.regions.specs.Ring.{Piece, sum}
use Rattle.relax.specs.declared.Spreading.{Spreading}
use Rattle.lattice.specs.declared.context.PackCtx.{PackCtx}
use Rattle.scatter.specs.Random.{Thrown}
use Rattle.deepest.specs.declared.search.Deepest.{Deepest}
use Rattle.discs.specs.Region.{placed_in}
use Rattle.discs.specs.Pieces.{deepest_from, deepests_of, pack_quota, pack_pieces_from, Packs, PacksAll}
use Rattle.discs.specs.Joined.{flat_append}
use Rattle.discs.specs.declared.options.GlyphOptions.{GlyphOptions}
use Rattle.discs.proofs.Written.{written_at, at_start, at_end, run_next}

-- ---- where a walk over pieces, their quotas and their deepest points ends

pub none_left : {A : Type 0} (xs : List A) → length xs ≡ 0 → xs ≡ []
none_left [] h = refl
none_left (x ∷ xs) h = absurd (omega arith)

-- one of the three has ended
pub ended :
    {X U V W T : Type 0} {P : V → Type 0} {Q : W → Type 0} {R : T → Type 0} → ((v : V) → P v → X) → ((w : W) → Q w → X) → ((t : T) → R t → X)
    → ((u : U) × (((v : V) × P v) ⊎ ((w : W) × Q w))) ⊎ ((t : T) × R t) → X
ended {X} {P = P} {Q = Q} f g h (inl u) = inner u.1
  where
    inner : ((v : _) × P v) ⊎ ((w : _) × Q w) → X
    inner (inl v) = f v.0 v.1
    inner (inr w) = g w.0 w.1
ended f g h (inr t) = h t.0 t.1

-- ---- a turn

module _
    (numbers : Spreading) (options : GlyphOptions) (ctx : PackCtx) (obstacles : List Rectangle) (pieces : List Piece) (deepests : List Deepest)
    (quotas : List ℕ) (start : Stream) (entry : List Float) where
  abbrev packs : List Piece → List Deepest → List ℕ → Stream → List (List Point)
  packs ps ds = pack_pieces_from numbers options ctx obstacles ps (deepests_of ds)

  -- what is known before the pieces that are left, with their deepest points and quotas
  pub record Going (ps : List Piece) (ds : List Deepest) (qs : List ℕ) (placed : ℕ) (rng : Stream) (spots : List Float) : Type 0 where
    pub room : placed + sum qs ≤ sum quotas
    pub counts : placed_in (packs pieces deepests quotas start) ≡ placed + placed_in (packs ps ds qs rng)
    pub writes :
        ctx.mode.spread ≡ true
        → written (flat (flatten (packs pieces deepests quotas start))) entry
        ≡ written_at (placed * 2) (flat (flatten (packs ps ds qs rng))) spots

  pub begin : Going pieces deepests quotas 0 start entry
  begin = record { room = omega arith; counts = omega arith; writes = λ e. at_start _ entry }

module _
    {numbers : Spreading} {options : GlyphOptions} {ctx : PackCtx} {obstacles : List Rectangle} {pieces : List Piece} {deepests : List Deepest}
    {quotas : List ℕ} {start : Stream} {entry : List Float} {ps : List Piece} {ds : List Deepest} {qs : List ℕ} {placed : ℕ} {rng : Stream}
    {spots : List Float}
    (g : Going numbers options ctx obstacles pieces deepests quotas start entry ps ds qs placed rng spots) where
  abbrev from : List Piece → List Deepest → List ℕ → Stream → List (List Point)
  from = packs numbers options ctx obstacles pieces deepests quotas start entry

  finish : from ps ds qs rng ≡ [] → PacksAll ctx.mode (from pieces deepests quotas start) placed spots entry
  unfolding placed_in flat flatten
  finish e =
      record {
        counted = omega (arith, g.counts ∙ ap (λ (t : List (List Point)). placed + placed_in t) e);
        spots = λ m. sym (g.writes m ∙ ap (λ (t : List (List Point)). written_at (placed * 2) (flat (flatten t)) spots) e ∙ at_end (placed * 2) spots);
      }

  pub no_piece : ps ≡ [] → PacksAll ctx.mode (from pieces deepests quotas start) placed spots entry
  unfolding pack_pieces_from
  no_piece e = finish (rw e)

  pub no_point : ds ≡ [] → PacksAll ctx.mode (from pieces deepests quotas start) placed spots entry
  unfolding pack_pieces_from
  no_point e = finish (rw e (go ps))
    where
      go : (ps : List Piece) → from ps [] qs rng ≡ []
      go [] = refl
      go (p ∷ ps) = refl

  pub no_quota : qs ≡ [] → PacksAll ctx.mode (from pieces deepests quotas start) placed spots entry
  unfolding pack_pieces_from
  no_quota e = finish (rw e (go ps ds))
    where
      go : (ps : List Piece) (ds : List Deepest) → from ps ds [] rng ≡ []
      go [] ds = refl
      go (p ∷ ps) [] = refl
      go (p ∷ ps) (d ∷ ds) = refl

  -- the next piece
  module _
      {piece : Piece} {found : Deepest} {quota : ℕ} {ps' : List Piece} {ds' : List Deepest} {qs' : List ℕ}
      (ep : ps ≡ piece ∷ ps') (ed : ds ≡ found ∷ ds') (eq : qs ≡ quota ∷ qs') where
    abbrev thrown : Thrown
    thrown = pack_quota numbers options ctx obstacles (deepest_from found) piece quota rng

    rooms : placed + quota + sum qs' ≤ sum quotas
    unfolding sum
    rooms = let s : sum qs ≡ quota + sum qs' = rw eq in omega (arith, g.room)

    pub quota_fits : placed + quota ≤ sum quotas
    quota_fits = omega (arith, rooms)

    first : from ps ds qs rng ≡ thrown.placed ∷ from ps' ds' qs' thrown.rng
    unfolding pack_pieces_from
    first = rw (ep, ed, eq)

    pub turn :
        (part : List Float) (count : ℕ) (next : Stream)
        → Packs ctx.mode quota thrown.placed count part (take (placed * 2 + quota * 2 - placed * 2) (drop (placed * 2) spots))
        → next ≡ thrown.rng → sum quotas * 2 ≤ length spots
        → Going numbers options ctx obstacles pieces deepests quotas start entry ps' ds' qs' (placed + count) next
        (take (placed * 2) spots ++ (part ++ drop (placed * 2 + quota * 2 - placed * 2) (drop (placed * 2) spots)))
    unfolding placed_in flatten
    turn part count next p en room =
        let n = length_flat thrown.placed in
        let m : (placed + count) * 2 ≡ placed * 2 + length (flat thrown.placed) = omega (arith, p.counted) in
        rw en
        (record {
          room = omega (arith, p.most, rooms);
          counts = omega (arith, g.counts, p.counted, ap placed_in first);
          writes = λ x.
              g.writes x
              ∙ ap (λ (t : List (List Point)). written_at (placed * 2) (flat (flatten t)) spots) first
              ∙ rw (flat_append thrown.placed, m)
              (run_next (placed * 2) (placed * 2 + quota * 2 - placed * 2) (flat thrown.placed) _ spots part (p.spots x)
              (omega (arith, n, p.counted, p.most)) (omega (arith, rooms)));
        })
