-- What it is for the deepest points that a packer starts from to be the pieces' own.
-- Rests on the definitions alone.
use Rattle.std.specs.Prelude.{◌≡◌, ℕ, true, List, [], ◌∷◌}
use Rattle.regions.specs.Ring.{Piece}
use Rattle.deepest.specs.declared.search.Deepest.{Deepest}
use Rattle.discs.specs.Region.{quotas, deepest_of}
use Rattle.discs.specs.Searches.{starts_deepest}
use Rattle.discs.specs.declared.options.GlyphOptions.{GlyphOptions}

-- each deepest point that a packer starts from is the piece's own
abbrev pub Own : ℕ → GlyphOptions → List Piece → List Deepest → List ℕ → Type 0
Own room options [] deepests quotas = Unit {0}
Own room options (piece ∷ pieces) deepests [] = Unit {0}
Own room options (piece ∷ pieces) [] (quota ∷ quotas) = ⊥
Own room options (piece ∷ pieces) (found ∷ deepests) (quota ∷ quotas) =
    (starts_deepest options.arrangement piece quota ≡ true → found ≡ deepest_of room options piece) × Own room options pieces deepests quotas
