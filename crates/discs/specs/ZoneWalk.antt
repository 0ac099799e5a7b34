-- The walk over the zones of a job, as the code takes it, and one turn of it.
-- Rests on the definitions.
use Rattle.std.specs.Prelude.{◌≡◌, ℕ, List, [], ◌∷◌, MatchOption, Option}
use Rattle.discs.specs.Floor.{EachRow, Steps, start, past_row}
use Rattle.discs.specs.declared.rows.Offsets.{Offsets}
use Rattle.discs.specs.declared.rows.Row.{Row}
use Rattle.discs.specs.declared.rows.ZoneAt.{ZoneAt}
use Rattle.discs.specs.declared.layout.Layout.{Layout}
use Rattle.discs.specs.declared.layout.Walk.{Walk}

-- a walk over all zones
pub record WalksOver (all : Layout) (walk : Walk) : Type 0 where
  pub layout : walk.layout ≡ all
  pub rows : walk.rows.now ≡ all.rows.now
  pub at : walk.at ≡ start

-- a call gives a zone and leaves the others, or none where none is left
pub record StepsOn (s : Walk) (zone : ZoneAt) (t : Walk) : Type 0 where
  pub step : Steps s.layout.rings.now s.layout.sizes.now s.rows.now s.at zone t.rows.now t.at
  pub layout : t.layout ≡ s.layout

abbrev pub GivesZone : Walk → Option ZoneAt → Walk → Type 0
GivesZone s r t = MatchOption r ((s.rows.now ≡ []) × (t.rows.now ≡ [])) (λ zone. StepsOn s zone t)

abbrev pub rows_left : Walk → List Row
rows_left walk = walk.rows.now

-- ---- laws

-- what holds of each row holds of the first, and of the others
pub each_first :
    (rings sizes : List ℕ) {rows rest : List Row} {row : Row} {at : Offsets} (P : Row → Offsets → Type 0)
    → rows ≡ row ∷ rest → EachRow rings sizes P rows at
    → P row at × EachRow rings sizes P rest (past_row rings sizes row at)
unfolding EachRow
each_first rings sizes P h e = rw h at e

-- what holds of each row holds of a turn's zone, and of the rows left
pub each_turn :
    {rings sizes : List ℕ} {rows rest : List Row} {at next : Offsets} {zone : ZoneAt} (P : Row → Offsets → Type 0)
    → Steps rings sizes rows at zone rest next → EachRow rings sizes P rows at
    → P zone.row zone.at × EachRow rings sizes P rest next
unfolding EachRow
each_turn P h e = rw h.past (rw (h.first, h.here) at e)

pub each_as :
    {P Q : Row → Offsets → Type 0} (rings sizes : List ℕ) (rows : List Row) (at : Offsets)
    → ((row : Row) (at : Offsets) → P row at → Q row at) → EachRow rings sizes P rows at → EachRow rings sizes Q rows at
unfolding EachRow
each_as rings sizes [] at f e = tt
each_as rings sizes (row ∷ rows) at f e = (f row at e.0, each_as rings sizes rows (past_row rings sizes row at) f e.1)
