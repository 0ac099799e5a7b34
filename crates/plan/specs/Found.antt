-- What the searches of a zone leave behind. Definitions only.
use Rattle.std.specs.Prelude.{ℕ, ◌≡◌, Bool, true, cond}
use mathlib.Core.List.{List, [], ◌∷◌}
use Rattle.std.proofs.lemmas.List.Edits.{sets}
use Rattle.laws.specs.Any.{all}
use Rattle.regions.specs.Ring.{Piece}
use Rattle.deepest.specs.declared.search.Deepest.{Deepest}
use Rattle.deepest.specs.declared.search.Deepest.TheVariants.{Nothing}
use Rattle.discs.specs.declared.options.GlyphOptions.{GlyphOptions}
use Rattle.discs.specs.Searches.{searched, had_room}

-- the deepest point of a piece, where its zone is left in and it is searched for; 1,600 cells may wait
unfoldable pub found_for : GlyphOptions → Bool → Piece → ℕ → Deepest
found_for options left_in piece quota = cond left_in (searched 1600 options piece quota) Nothing

unfoldable pub found_in : GlyphOptions → Bool → List Piece → List ℕ → List Deepest
found_in options left_in [] quotas = []
found_in options left_in (piece ∷ pieces) [] = []
found_in options left_in (piece ∷ pieces) (quota ∷ quotas) = found_for options left_in piece quota ∷ found_in options left_in pieces quotas

-- whether each search had room, and where each had, what was put from `start` on
pub record Searched (start : ℕ) (fit : Bool) (founds : List Deepest) (r : Bool) (deepest deepest' : List Deepest) : Type 0 where
  pub fits : r ≡ fit
  pub put : r ≡ true → deepest' ≡ sets deepest start founds

-- the same of the pieces of one zone
abbrev pub PiecesSearched : ℕ → List Deepest → Bool → List Deepest → List Deepest → Type 0
PiecesSearched start founds r deepest deepest' = Searched start (all had_room founds) founds r deepest deepest'
