-- The deepest point of a job's piece, and where an anchor escapes to, lie within the reach of the rounding laws.
-- Rests on both being inside the piece: an exit is taken only where its clearance is the inset.
use Rattle.std.specs.Prelude.{◌||◌, Bool, not, cond, eqb, length, Option, None, Some}
use Rattle.std.proofs.Math.Bool.{true, false}
use mathlib.Core.List.{List, [], ◌∷◌, foldl}
use Rattle.std.proofs.Math.Dec.{T}
use Rattle.std.specs.Float.Ieee.{Float, binary64}
use Rattle.std.specs.Float.Ieee.Fits.{add-fits, sub-fits}
use Rattle.laws.specs.Every.{Every}
use Rattle.float.specs.Ops.{◌+ᶠ◌, ◌*ᶠ◌, ◌<ᶠ◌, ◌≤ᶠ◌, 1ᶠ}
use Rattle.float.specs.Laws.Nan.{Number}
use Rattle.float.specs.Laws.Compare.{not_lt_le}
use Rattle.glyphs.specs.declared.rect.Point.{Point}
use Rattle.glyphs.specs.declared.rect.Rectangle.{Rectangle}
use Rattle.glyphs.specs.Rect.{clear_of_obstacles}
use Rattle.glyphs.specs.Spots.{squared_distance}
use Rattle.regions.specs.Ring.{Piece}
use Rattle.regions.specs.Clearance.{signed_clearance}
use Rattle.regions.specs.Facts.{clearance_number}
use Rattle.deepest.specs.declared.search.Deepest.{Deepest}
use Rattle.deepest.specs.declared.search.Deepest.TheVariants.{Found, Nothing, Full}
use Rattle.lattice.specs.declared.escape.Exit.{Exit}
use Rattle.lattice.specs.Escape.{point, 1e-9ᶠ, better, exits, consider, or_anchor, best_exit, escape_obstacles}
use Rattle.lattice.specs.Uniform.{anchor_of}
use Rattle.claims.specs.Kept.{Fits, Stands, Sited}

-- ---- the deepest point of one piece
abbrev pub SitedAt : Deepest → Type 0
SitedAt Nothing = Unit {0}
SitedAt Full = Unit {0}
SitedAt (Found x y d) = Sited (point x y)

-- ---- escapes
abbrev ExitSited : Option Exit → Type 0
ExitSited None = Unit {0}
ExitSited (Some exit) = Sited exit.place

module _
    (piece : Piece) (near : List Rectangle) (inset : Float) (N : Number inset) (sited : (p : Point) → Stands piece inset p → Sited p) (anchor : Point)
    (a : Sited anchor) where
  considered : (b : Option Exit) (p : Point) → Fits p → ExitSited b → ExitSited (consider anchor piece near inset b p)
  unfolding consider
  considered b p f s =
      go (clear_of_obstacles p.x p.y near inset) (signed_clearance p.x p.y piece <ᶠ inset) (better b (record { square = squared_distance p anchor; place = p }))
      (λ t. not_lt_le inset (signed_clearance p.x p.y piece) N (clearance_number p.x p.y piece) t)
    where
      go :
          (c l t : Bool) → (T (not l) → T (inset ≤ᶠ signed_clearance p.x p.y piece))
          → ExitSited (cond (not c || l) b (cond t (Some (record { square = squared_distance p anchor; place = p })) b))
      go false l t h = s
      go true true t h = s
      go true false true h = sited p (record { fits = f; deep = h tt })
      go true false false h = s

  all_considered : (ps : List Point) → Every Fits ps → (b : Option Exit) → ExitSited b → ExitSited (foldl (consider anchor piece near inset) b ps)
  all_considered [] f b s = s
  all_considered (p ∷ ps) f b s = all_considered ps f.1 (consider anchor piece near inset b p) (considered b p f.0 s)

  exits_fit : (pad : Float) (rect : Rectangle) → Every Fits (exits anchor pad rect)
  unfolding exits
  exits_fit pad rect =
      let x = a.across.num.fit in
      let y = a.along.num.fit in (
        record { across = sub-fits binary64 _ _; along = y },
        (
          record { across = add-fits binary64 _ _; along = y },
          (record { across = x; along = sub-fits binary64 _ _ }, (record { across = x; along = add-fits binary64 _ _ }, tt)),
        ),
      )

  best_sited : ExitSited (best_exit anchor piece near inset)
  unfolding best_exit
  best_sited = go near None tt
    where
      pad : Float
      pad = inset *ᶠ (1ᶠ +ᶠ 1e-9ᶠ)

      go :
          (rects : List Rectangle) (b : Option Exit) → ExitSited b
          → ExitSited (foldl (λ (best : Option Exit) (rect : Rectangle). foldl (consider anchor piece near inset) best (exits anchor pad rect)) b rects)
      go [] b s = s
      go (rect ∷ rects) b s = go rects _ (all_considered (exits anchor pad rect) (exits_fit pad rect) b s)

  pub escape_sited : Sited (escape_obstacles anchor piece near inset)
  unfolding escape_obstacles
  escape_sited = go (clear_of_obstacles anchor.x anchor.y near inset) (best_exit anchor piece near inset) best_sited
    where
      go : (t : Bool) (b : Option Exit) → ExitSited b → Sited (cond t anchor (or_anchor anchor b))
      go true b s = a
      go false None s = a
      go false (Some exit) s = s

  pub anchor_sited : Sited (anchor_of anchor piece near inset)
  unfolding anchor_of
  anchor_sited = go (eqb (length near) 0)
    where
      go : (t : Bool) → Sited (cond t anchor (escape_obstacles anchor piece near inset))
      go true = a
      go false = escape_sited
