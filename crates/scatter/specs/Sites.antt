-- What holds of a site: it has its piece's bounds and the obstacles near it; and whether its first pass is its only one. Definitions only.
use Rattle.std.specs.Prelude.{◌≡◌, Bool, ◌||◌, List, eqb, length, Some}
use Rattle.glyphs.specs.declared.rect.Rectangle.{Rectangle}
use Rattle.glyphs.specs.Bounds.{ring_bounds}
use Rattle.glyphs.specs.Rect.{obstacles_near}
use Rattle.regions.specs.Pieces.{rings_of}
use Rattle.regions.specs.Ring.{outer}
use Rattle.lattice.specs.Context.{inset}
use Rattle.scatter.specs.declared.site.Site.{Site}

abbrev pub Boxed : Site → Type 0
Boxed site = ring_bounds (outer (rings_of site.piece)) ≡ Some site.extents

abbrev pub Beside : Site → List Rectangle → Type 0
Beside site obstacles = site.near.now ≡ obstacles_near (Some site.extents) obstacles (inset site.ctx)

-- obstacles are walls, or there are none
abbrev pub ends_first : Site → Bool
ends_first site = site.ctx.mode.strict_obstacles || eqb (length site.near.now) 0
