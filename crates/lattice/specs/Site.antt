-- What places are judged by, as definitions take it: the rings of the piece, the clearance and the obstacles. Definitions only.
use Rattle.std.specs.Prelude.{List, Float}
use Rattle.glyphs.specs.declared.rect.Rectangle.{Rectangle}
use Rattle.regions.specs.Pieces.{rings_of}
use Rattle.regions.specs.Ring.{Piece}
use Rattle.lattice.specs.declared.site.Site.{Site}

abbrev pub in_site : {A : Type 0} → (Piece → Float → List Rectangle → A) → Site → A
in_site f site = f (rings_of site.piece) site.margin.least site.near.now
