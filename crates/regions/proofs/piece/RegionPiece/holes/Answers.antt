-- The holes are what is left of a piece once its first ring is taken.
use Rattle.std.proofs.Common.{◌≡◌, List, [], ◌∷◌, Option, Some, None, Bor}
use Rattle.std.specs.Prelude.{MatchOption}
use Rattle.glyphs.specs.declared.rect.Point.{Point}
use Rattle.regions.specs.Ring.{Piece, holes}
use Rattle.regions.proofs.piece.RegionPiece.holes.Goals as goal

left : (r : Option (Bor (List Point))) (all others : Piece) → MatchOption r ((all ≡ []) × (others ≡ [])) (λ x. all ≡ x.now ∷ others) → others ≡ holes all
unfolding holes
left None all others h = rw (h.0, h.1)
left (Some ring) all others h = rw h

pub returns : goal.returns
returns c = rw (← c.rings-rings.ensures) (left _ _ _ c.next.ensures.steps)
