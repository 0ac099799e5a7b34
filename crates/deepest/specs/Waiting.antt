-- What becomes of the cells that wait as one enters or leaves: they stay in the slice that was lent. Definitions only.
use Rattle.std.specs.Prelude.{◌≡◌, ℕ, ◌+◌, List, Option, Some, None, Float}
use Rattle.deepest.specs.Cells.{Rows}
use Rattle.deepest.specs.Queue.{Pushed, Popped}
use Rattle.regions.specs.Ring.{Piece}
use Rattle.deepest.specs.Deepest.{cell_of}
use Rattle.deepest.specs.Turns.{Quartered}
use Rattle.deepest.specs.declared.queue.Cell.{Cell}
use Rattle.deepest.specs.declared.waiting.Waiting.{Waiting}

-- none waits yet
pub record Starts (l : Rows) (lent-halves : List Float) (w : Waiting) : Type 0 where
  pub cells : w.cells.now ≡ l
  pub halves : w.halves.now ≡ lent-halves
  pub len : w.len ≡ 0
  pub entered : w.entered ≡ 0

-- a cell enters
pub record Enters (w : Waiting) (x y d : Float) (halvings : ℕ) (w' : Waiting) : Type 0 where
  pub pushed : Pushed w.halves.now w.cells.now w.len (cell_of x y d halvings w.entered) w'.cells.now
  pub halves : w'.halves.now ≡ w.halves.now
  pub len : w'.len ≡ w.len + 1
  pub entered : w'.entered ≡ w.entered + 1
  pub same : w'.cells.ghost_name ≡ w.cells.ghost_name

-- the cell c leaves
pub record Left (w : Waiting) (c : Cell) (w' : Waiting) : Type 0 where
  pub popped : Popped w.halves.now w.cells.now w.len c w'.cells.now
  pub halves : w'.halves.now ≡ w.halves.now
  pub len : w.len ≡ w'.len + 1
  pub entered : w'.entered ≡ w.entered
  pub same : w'.cells.ghost_name ≡ w.cells.ghost_name

-- the first leaves, if any waits
abbrev pub Leaves : Waiting → Option Cell → Waiting → Type 0
Leaves w None w' = (w.len ≡ 0) × (w' ≡ w)
Leaves w (Some c) w' = Left w c w'

-- the four quarters of the cell c enter
pub record Quarters (piece : Piece) (w : Waiting) (c : Cell) (w' : Waiting) : Type 0 where
  pub quartered : Quartered piece w.halves.now w.cells.now w.len c w.entered w'.cells.now
  pub halves : w'.halves.now ≡ w.halves.now
  pub len : w'.len ≡ w.len + 4
  pub entered : w'.entered ≡ w.entered + 4
  pub same : w'.cells.ghost_name ≡ w.cells.ghost_name
