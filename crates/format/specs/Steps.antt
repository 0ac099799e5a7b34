-- What the functions that read rings and pieces ask for, and what they leave behind where they find no fault. Definitions only.
use Rattle.std.specs.Prelude.{ℕ, ◌+◌, ◌-◌, ◌*◌, ◌≤◌, ◌≡◌, List, [], ◌∷◌, ◌++◌, length}
use Rattle.glyphs.specs.declared.rect.Point.{Point}
use Rattle.format.specs.Rows.{past, each, flat}
use Rattle.format.specs.Numbers.{u8, u16}
use Rattle.format.specs.Pieces.{ring, ring_end, ring_sizes, piece_end, piece_points}
use Rattle.format.specs.declared.pieces.Pieces.{Pieces}

-- there is room for every point that the bytes from `at` on can hold: each takes eight
abbrev pub Room : {V R P : ℕ} → List ℕ → ℕ → Pieces V R P → Type 0
Room {V} {R} {P} s at pieces = 8 * length pieces.points.items + (length s - at) ≤ 8 * V

-- the reading went from `from` to `end`, and put the points xs, the ring sizes ns and the ring counts ps behind those there
pub record PiecesPut {V R P : ℕ} (from end : ℕ) (xs : List Point) (ns ps : List ℕ) (pieces : Pieces V R P) (to : ℕ) (pieces' : Pieces V R P) : Type 0 where
  pub at : to ≡ end
  pub few : 8 * length pieces'.points.items + from ≤ 8 * length pieces.points.items + to
  pub points : pieces'.points.items ≡ pieces.points.items ++ xs
  pub sizes : pieces'.sizes.items ≡ pieces.sizes.items ++ ns
  pub rings : pieces'.rings.items ≡ pieces.rings.items ++ ps

-- of the ring at `at`
abbrev pub RingPut : {V R P : ℕ} → List ℕ → ℕ → Pieces V R P → ℕ → Pieces V R P → Type 0
RingPut s at = PiecesPut at (ring_end s at) (ring s at) (u16 s at ∷ []) []

-- of the piece at `at`
abbrev pub PiecePut : {V R P : ℕ} → List ℕ → ℕ → Pieces V R P → ℕ → Pieces V R P → Type 0
PiecePut s at = PiecesPut at (piece_end s at) (piece_points s at) (ring_sizes s at) (u8 s at ∷ [])

-- of the n pieces from `at` on
abbrev pub RunPut : {V R P : ℕ} → List ℕ → ℕ → ℕ → Pieces V R P → ℕ → Pieces V R P → Type 0
RunPut s n at =
    PiecesPut at (past (piece_end s) n at) (flat (piece_points s) (piece_end s) n at) (flat (ring_sizes s) (piece_end s) n at) (each (u8 s) (piece_end s) n at)
