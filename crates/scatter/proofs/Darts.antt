-- Darts as loops throw them: turns of the attempts and of the glyphs, the two passes, and the packer by its parts.
-- Rests on the laws of marks at the front of a slice.
use Rattle.std.specs.Prelude.{◌≡◌, refl, Bool, false, cond, List, [], ◌∷◌, ◌++◌, take, Float, None}
use Rattle.std.proofs.Common.{sym, ◌∙◌}
use Rattle.std.proofs.Math.Path.{ap}
use Rattle.std.proofs.Math.Bool.{true}
use Prim.Native.Nat.{ℕ, zero, suc, ◌+◌, ◌-◌, ◌*◌, ◌≤◌, ◌<◌}
use native.Mathlib.Omega.{arith}
use Rattle.std.proofs.Math.ListN.{length, length-append}
use Rattle.laws.specs.Lists.{written}
use Rattle.glyphs.specs.declared.rect.Point.{Point}
use Rattle.glyphs.specs.declared.rect.Rectangle.{Rectangle}
use Rattle.glyphs.specs.declared.stream.Drawn.{Drawn}
use Rattle.glyphs.specs.declared.stream.Stream.{Stream}
use Rattle.glyphs.specs.Bounds.{ring_bounds}
use Rattle.glyphs.specs.Spots.{spots_of, flat, apart, put_spot}
use Rattle.regions.specs.Pieces.{rings_of}
use Rattle.regions.specs.Ring.{Piece, outer}
use Rattle.relax.specs.declared.Spreading.{Spreading}
use Rattle.relax.specs.Kept.{length_relaxed}
use Rattle.relax.specs.Scatter.{relax_scatter}
use Rattle.lattice.specs.Context.{inset, spacing}
use Rattle.lattice.specs.declared.context.PackCtx.{PackCtx}
use Rattle.scatter.specs.Placed.{Front, length_first, placed_front, first_put, front_put, placed_over}
use Rattle.scatter.specs.Random.{Thrown, Dart, hit, miss, after_dart, lands, throw, glyphs, throws, throw_within, pack_random_piece}
use Rattle.scatter.specs.declared.random.Taken.{Taken}
use Rattle.scatter.specs.declared.site.Site.{Site}
use Rattle.scatter.specs.Sites.{Boxed, Beside, ends_first}
use Rattle.scatter.specs.Darts.{aimed, held_in, Holds, lands_at, darts, marks, pass_from, throws_at, trying}

pub held_end :
    (count : ℕ) (rng : Stream) (spots entry : List Float) (whole : Thrown) → length spots ≡ length entry → Front count spots entry → count * 2 ≤ length entry
    → held_in count rng spots ≡ whole → Holds whole (record { count = count; rng = rng }) spots entry
held_end count rng spots entry whole same front h e =
    let first = sym (length_first count spots (omega arith)) in
    (first ∙ ap (λ (t : Thrown). length t.placed) e, ap (λ (t : Thrown). t.rng) e, front ∙ ap (λ (t : Thrown). written (flat t.placed) entry) e)

-- what is written is read back
pub holds_read : (thrown : Thrown) (t : Taken) (exit entry : List Float) → Holds thrown t exit entry → held_in t.count t.rng exit ≡ thrown
holds_read thrown t exit entry h = rw (h.0, h.1, h.2, placed_front thrown.placed entry (length thrown.placed) refl)

-- the answer to a slice that had fewer marks
pub holds_over :
    (before after : Thrown) (t u : Taken) (exit between entry : List Float) → length before.placed ≤ length after.placed
    → Holds before t between entry → Holds after u exit between → Holds after u exit entry
holds_over before after t u exit between entry h b a =
    (a.0, a.1, a.2 ∙ ap (λ (l : List Float). written (flat after.placed) l) b.2 ∙ placed_over before.placed after.placed entry h)

same_marks :
    (next : Thrown → Thrown) (ps : List Point) (r s : Stream) (d : Dart)
    → after_dart next (record { placed = ps; rng = r }) d ≡ after_dart next (record { placed = ps; rng = s }) d
same_marks next ps r s (hit p rng) = refl
same_marks next ps r s (miss rng) = refl

module _ (site : Site) (attempts : ℕ) (honor : Bool) where
  -- ---- turns of the loops
  pub next_glyph :
      (count : ℕ) (rng : Stream) (spots : List Float) → count < site.n
      → pass_from site attempts honor count rng spots ≡ trying site attempts honor 0 count rng spots
  unfolding glyphs
  next_glyph count rng spots h =
      let e : site.n - count ≡ suc (site.n - (count + 1)) = omega arith in
      let f : attempts - 0 ≡ attempts = omega arith in
      rw (e, f)

  pub no_glyph : (count : ℕ) (rng : Stream) (spots : List Float) → site.n ≤ count → pass_from site attempts honor count rng spots ≡ held_in count rng spots
  unfolding glyphs
  no_glyph count rng spots h =
      let e : site.n - count ≡ 0 = omega arith in
      rw e

  pub out_of_attempts :
      (t count : ℕ) (rng : Stream) (spots : List Float) → attempts ≤ t
      → trying site attempts honor t count rng spots ≡ held_in count rng spots
  unfolding throw
  out_of_attempts t count rng spots h =
      let e : attempts - t ≡ 0 = omega arith in
      rw e

  module _ (t count : ℕ) (rng : Stream) (spots : List Float) (h : t < attempts) (d : Drawn Point) (ed : d ≡ aimed rng site.extents) where
    abbrev lands_here : Bool
    lands_here =
        lands (rings_of site.piece) site.n attempts site.ctx site.near.now
        site.extents.min_x site.extents.max_x site.extents.min_y site.extents.max_y honor (take count (spots_of spots)) d.value

    attempt :
        darts site attempts honor (attempts - t) (take count (spots_of spots)) rng
        ≡ cond lands_here (hit d.value d.next) (darts site attempts honor (attempts - (t + 1)) (take count (spots_of spots)) d.next)
    unfolding throw
    attempt =
        let e : attempts - t ≡ suc (attempts - (t + 1)) = omega arith in
        rw (e, ed)

    module _
        (placed : List Float) (ep : spots_of placed ≡ take count (spots_of spots)) (b : Bool) (eb : b ≡ lands_at site honor (spots_of placed) d.value)
      where
        told : lands_here ≡ b
        unfolding lands apart
        told = rw (eb, ep)

        pub missed : b ≡ false → trying site attempts honor t count rng spots ≡ trying site attempts honor (t + 1) count d.next spots
        missed e =
            let later = darts site attempts honor (attempts - (t + 1)) (take count (spots_of spots)) d.next in
            rw (attempt, told, e) (same_marks (marks site attempts honor (site.n - (count + 1))) (take count (spots_of spots)) rng d.next later)

        pub landed :
            (later entry : List Float) → b ≡ true → later ≡ put_spot spots count d.value
            → length spots ≡ length entry → count * 2 + 1 < length entry → Front count spots entry
            → Front (count + 1) later entry × (trying site attempts honor t count rng spots ≡ pass_from site attempts honor (count + 1) d.next later)
        landed later entry e put same k front =
            let p = d.value in
            let f : take (count + 1) (spots_of (put_spot spots count p)) ≡ take count (spots_of spots) ++ p ∷ [] = first_put count spots entry same front p k in
            rw put (front_put count spots entry same front p k, rw (attempt, told, e, f))

  -- ---- a pass takes no mark away, and places no more than are left
  more_marks : (left : ℕ) (t : Thrown) → length t.placed ≤ length (marks site attempts honor left t).placed
  unfolding glyphs
  more_marks zero t = omega arith
  more_marks (suc left) t = after (darts site attempts honor attempts t.placed t.rng) (λ (u : Thrown). more_marks left u)
    where
      after :
          (d : Dart) → ((u : Thrown) → length u.placed ≤ length (marks site attempts honor left u).placed)
          → length t.placed ≤ length (after_dart (marks site attempts honor left) t d).placed
      after (hit p rng) f =
          let e : length (t.placed ++ p ∷ []) ≡ length t.placed + 1 = simp length-append (omega arith) in
          omega (arith, e, f (record { placed = t.placed ++ p ∷ []; rng = rng }))
      after (miss rng) f = omega arith

  few_marks : (left : ℕ) (t : Thrown) → length (marks site attempts honor left t).placed ≤ length t.placed + left
  unfolding glyphs
  few_marks zero t = omega arith
  few_marks (suc left) t = after (darts site attempts honor attempts t.placed t.rng) (λ (u : Thrown). few_marks left u)
    where
      after :
          (d : Dart) → ((u : Thrown) → length (marks site attempts honor left u).placed ≤ length u.placed + left)
          → length (after_dart (marks site attempts honor left) t d).placed ≤ length t.placed + suc left
      after (hit p rng) f =
          let e : length (t.placed ++ p ∷ []) ≡ length t.placed + 1 = simp length-append (omega arith) in
          omega (arith, e, f (record { placed = t.placed ++ p ∷ []; rng = rng }))
      after (miss rng) f = omega arith

-- ---- the two passes
module _ (site : Site) (attempts : ℕ) (rng : Stream) where
  abbrev pub both : Thrown
  both = throws_at site attempts rng

  pub few_first : (entry : List Float) → length (pass_from site attempts true 0 rng entry).placed ≤ site.n
  few_first entry = omega (arith, few_marks site attempts true (site.n - 0) (held_in 0 rng entry))

  pub few_both : length both.placed ≤ site.n
  unfolding throws
  few_both = go (ends_first site)
    where
      start : Thrown
      start = marks site attempts true site.n (record { placed = []; rng = rng })

      few : length start.placed ≤ site.n
      few = omega (arith, few_marks site attempts true site.n (record { placed = []; rng = rng }))

      go : (b : Bool) → length (cond b start (marks site attempts false (site.n - length start.placed) start)).placed ≤ site.n
      go true = few
      go false = omega (arith, few, few_marks site attempts false (site.n - length start.placed) start)

module _ (site : Site) (attempts : ℕ) (rng : Stream) (entry : List Float) where
  abbrev first : Thrown
  first = pass_from site attempts true 0 rng entry

  pub one_pass : ends_first site ≡ true → both site attempts rng ≡ first
  unfolding throws
  one_pass h = let e : site.n - 0 ≡ site.n = omega arith in rw (h, e)

  two_passes : ends_first site ≡ false → both site attempts rng ≡ marks site attempts false (site.n - length first.placed) first
  unfolding throws
  two_passes h = let e : site.n - 0 ≡ site.n = omega arith in rw (h, e)

  pub second_pass :
      (t u : Taken) (between exit : List Float) → ends_first site ≡ false → Holds first t between entry
      → Holds (pass_from site attempts false t.count t.rng between) u exit between → Holds (both site attempts rng) u exit entry
  second_pass t u between exit h a b =
      let later = marks site attempts false (site.n - length first.placed) first in
      let e : pass_from site attempts false t.count t.rng between ≡ later =
      ap (λ (v : Thrown). marks site attempts false (site.n - t.count) v) (holds_read first t between entry a)
      ∙ ap (λ (k : ℕ). marks site attempts false (site.n - k) first) a.0 in
      rw (two_passes h) (holds_over first later t u exit between entry (more_marks site attempts false (site.n - length first.placed) first) a (rw e at b))

-- ---- the packer
module _ (numbers : Spreading) (piece : Piece) (n attempts : ℕ) (ctx : PackCtx) (obstacles : List Rectangle) (rng : Stream) where
  pub no_marks : ring_bounds (outer piece) ≡ None → pack_random_piece numbers piece n attempts ctx obstacles rng ≡ record { placed = []; rng = rng }
  unfolding pack_random_piece throw_within
  no_marks h = rw h

module _ (numbers : Spreading) (site : Site) (attempts : ℕ) (obstacles : List Rectangle) (rng : Stream) where
  abbrev pub whole : Thrown
  whole = pack_random_piece numbers (rings_of site.piece) site.n attempts site.ctx obstacles rng

  abbrev thrown : Thrown
  thrown = both site attempts rng

  abbrev even : List Point → List Point
  even ps = relax_scatter numbers ps (rings_of site.piece) site.near.now (spacing site.ctx) (inset site.ctx)

  abbrev evened : Thrown
  evened = record { placed = even thrown.placed; rng = thrown.rng }

  packed : Boxed site → Beside site obstacles → whole ≡ cond site.ctx.mode.spread evened thrown
  unfolding pack_random_piece throw_within
  packed box en = rw (box, en) (rw box)

  pub unspread : Boxed site → Beside site obstacles → site.ctx.mode.spread ≡ false → whole ≡ thrown
  unspread box en h = packed box en ∙ ap (λ (b : Bool). cond b evened thrown) h

  pub relaxed :
      (t : Taken) (between exit entry : List Float) → Boxed site → Beside site obstacles → site.ctx.mode.spread ≡ true → Holds thrown t between entry
      → exit ≡ written (flat (even (take t.count (spots_of between)))) between
      → Holds whole t exit entry
  relaxed t between exit entry box en h a e =
      let ps = even thrown.placed in
      let m : length ps ≡ length thrown.placed = length_relaxed numbers thrown.placed _ _ _ _ in
      let f : take t.count (spots_of between) ≡ thrown.placed = ap (λ (v : Thrown). v.placed) (holds_read thrown t between entry a) in
      let g : whole ≡ evened = packed box en ∙ ap (λ (b : Bool). cond b evened thrown) h in
      rw g
      (a.0 ∙ sym m, a.1, e ∙ rw (f, a.2) (placed_over thrown.placed ps entry (omega (arith, m))))
