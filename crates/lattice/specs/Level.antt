-- What is found once for a height serves each place of it: the near edges and the crossings, where they fit. Definitions only.
use Rattle.std.specs.Prelude.{◌≡◌, true, Option, IfSome, Float}
use Rattle.float.specs.Ops.{◌<ᶠ◌, 0ᶠ}
use Rattle.regions.specs.Pieces.{rings_of}
use Rattle.lattice.specs.Crossings.{Crossed}
use Rattle.lattice.specs.Edges.{NearEdges}
use Rattle.lattice.specs.declared.level.Level.{Level}
use Rattle.lattice.specs.declared.site.Site.{Site}

-- the edges and the crossings of a height
pub record Fits (y : Float) (level : Level) (site : Site) : Type 0 where
  pub positive : 0ᶠ <ᶠ site.margin.least ≡ true
  pub near_edges : NearEdges y site.margin.least (rings_of site.piece) level.edges.now
  pub crossed : Crossed y site.piece level.crossings.now level.ends.now

abbrev pub Levelled : Float → Option Level → Site → Type 0
Levelled y level site = IfSome level (λ l. Fits y l site)
