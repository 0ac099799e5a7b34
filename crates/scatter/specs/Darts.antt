-- Darts as loops throw them: where the next is thrown, what stands at the front of a slice, and a pass from there on.
-- Rests on the definitions of the source.
use Rattle.std.specs.Prelude.{◌≡◌, Bool, not, ◌&&◌, ◌||◌, List, take, Float}
use Prim.Native.Nat.{ℕ, ◌+◌, ◌-◌}
use Rattle.std.proofs.Math.ListN.{length}
use Rattle.laws.specs.Any.{all}
use Rattle.laws.specs.Lists.{written}
use Rattle.float.specs.Ops.{◌*ᶠ◌, ◌≥ᶠ◌}
use Rattle.glyphs.specs.declared.bounds.Extents.{Extents}
use Rattle.glyphs.specs.declared.rect.Point.{Point}
use Rattle.glyphs.specs.declared.stream.Drawn.{Drawn}
use Rattle.glyphs.specs.declared.stream.Stream.{Stream}
use Rattle.glyphs.specs.Rect.{clear_of_obstacles}
use Rattle.glyphs.specs.Spots.{spots_of, flat, apart}
use Rattle.glyphs.specs.Stream.{random_range}
use Rattle.regions.specs.Clearance.{signed_clearance}
use Rattle.regions.specs.Pieces.{rings_of}
use Rattle.lattice.specs.Context.{inset, spacing}
use Rattle.scatter.specs.Random.{Thrown, Dart, after_dart, throw, glyphs, throws}
use Rattle.scatter.specs.declared.random.Taken.{Taken}
use Rattle.scatter.specs.declared.site.Site.{Site}

-- where the next dart is thrown: let x = rng.random_range(..); let y = rng.random_range(..)
abbrev pub aimed : Stream → Extents → Drawn Point
aimed rng range =
    let x = random_range rng range.min_x range.max_x in
    let y = random_range x.next range.min_y range.max_y in
    record { value = record { x = x.value; y = y.value }; next = y.next }

-- the first marks of a slice, and a stream
abbrev pub held_in : ℕ → Stream → List Float → Thrown
held_in count rng spots = record { placed = take count (spots_of spots); rng = rng }

-- an answer with what stands at the front of a slice, the rest of which is as before
abbrev pub Holds : Thrown → Taken → List Float → List Float → Type 0
Holds thrown t exit entry = (t.count ≡ length thrown.placed) × (t.rng ≡ thrown.rng) × (exit ≡ written (flat thrown.placed) entry)

-- a place keeps the spacing to the marks placed, the clearance and, where it is to honor them, the obstacles
abbrev pub lands_at : Site → Bool → List Point → Point → Bool
lands_at site honor placed p =
    all (apart p (spacing site.ctx *ᶠ spacing site.ctx)) placed
    && signed_clearance p.x p.y (rings_of site.piece) ≥ᶠ inset site.ctx
    && (not honor || clear_of_obstacles p.x p.y site.near.now (inset site.ctx))

module _ (site : Site) (attempts : ℕ) where
  abbrev pub throws_at : Stream → Thrown
  throws_at rng =
      throws (rings_of site.piece) site.n attempts site.ctx site.near.now
      site.extents.min_x site.extents.max_x site.extents.min_y site.extents.max_y rng

module _ (site : Site) (attempts : ℕ) (honor : Bool) where
  abbrev pub darts : ℕ → List Point → Stream → Dart
  darts left placed rng =
      throw (rings_of site.piece) site.n attempts site.ctx site.near.now
      site.extents.min_x site.extents.max_x site.extents.min_y site.extents.max_y honor left placed rng

  abbrev pub marks : ℕ → Thrown → Thrown
  marks left t =
      glyphs (rings_of site.piece) site.n attempts site.ctx site.near.now
      site.extents.min_x site.extents.max_x site.extents.min_y site.extents.max_y honor left t

  -- a pass from the first marks of a slice on, and from within an attempt at the next
  abbrev pub pass_from : ℕ → Stream → List Float → Thrown
  pass_from count rng spots = marks (site.n - count) (held_in count rng spots)

  abbrev pub trying : ℕ → ℕ → Stream → List Float → Thrown
  trying t count rng spots =
      after_dart (marks (site.n - (count + 1))) (held_in count rng spots) (darts (attempts - t) (take count (spots_of spots)) rng)
