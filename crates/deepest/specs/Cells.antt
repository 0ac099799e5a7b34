-- Cells in a list of rows of five floats: x, y, clearance, halvings and entry, the last two as bit patterns.
-- Rests on the kit's laws of bit patterns.
use Rattle.std.specs.Prelude.{◌≡◌, ℕ, ◌<◌, not, T, List, [], ◌∷◌, length, ◌≢◌, from_bits, slice_index_or, slice_set, to_bits, Float}
use Rattle.std.proofs.Common.{subst, arith, le_of_lt, lt_of_lt_of_le, lit<}
use Rattle.std.proofs.Math.Bool.{Bool}
use Rattle.std.proofs.Math.ListN.{length-set}
use Rattle.std.proofs.Math.Seq.{get_or-set_same, get_or-set_other}
use Rattle.std.specs.Float.Ieee.{nan, binary64}
use Rattle.std.specs.Float.Ieee.Bits.{to_bits-of_bits, nan_bits_is}
use Rattle.float.specs.Laws.Nan.{Number}
use Rattle.float.specs.Laws.Pattern.{no_nan}
use Rattle.deepest.specs.declared.queue.Cell.{Cell}

abbrev pub Rows : Type 0
Rows = List (List Float)

-- the cell that a row holds, and the row of a cell
unfoldable pub cell_of_row : List Float → Cell
cell_of_row r =
    record {
      x = slice_index_or r 0 nan;
      y = slice_index_or r 1 nan;
      d = slice_index_or r 2 nan;
      halvings = to_bits binary64 (slice_index_or r 3 nan);
      entry = to_bits binary64 (slice_index_or r 4 nan);
    }

unfoldable pub row_of : Cell → List Float
row_of c = c.x ∷ c.y ∷ c.d ∷ from_bits binary64 c.halvings ∷ from_bits binary64 c.entry ∷ []

unfoldable pub cell_at : Rows → ℕ → Cell
unfolding cell_of_row
cell_at l k = cell_of_row (slice_index_or l k [])

unfoldable pub put_cell : Rows → ℕ → Cell → Rows
put_cell l k c = slice_set l k (row_of c)

-- a cell whose numbers are bit patterns of floats that are no NaN
pub record Tagged (c : Cell) : Type 0 where
  pub few : c.halvings < 22
  pub early : c.entry < 4611686018427387904

-- the place k holds such a cell
pub record Sound (l : Rows) (k : ℕ) : Type 0 where
  pub halved : Number (slice_index_or (slice_index_or l k []) 3 nan)
  pub entered : Number (slice_index_or (slice_index_or l k []) 4 nan)
  pub tagged : Tagged (cell_at l k)

-- ---- laws

pub tag_number : (n : ℕ) → n < 4611686018427387904 → Number (from_bits binary64 n)
tag_number n h = subst (λ (b : Bool). T (not b)) (nan_bits_is binary64 n) (no_nan n (omega arith))

tag_back : (n : ℕ) → n < 4611686018427387904 → to_bits binary64 (from_bits binary64 n) ≡ n
tag_back n h = to_bits-of_bits binary64 n (lt_of_lt_of_le h (le_of_lt (lit< tt))) (tag_number n h)

row_back : (c : Cell) → Tagged c → cell_of_row (row_of c) ≡ c
unfolding cell_of_row row_of
row_back c t = rw (tag_back c.halvings (omega (arith, t.few)), tag_back c.entry t.early)

pub length_put : (l : Rows) (k : ℕ) (c : Cell) → length (put_cell l k c) ≡ length l
unfolding put_cell
length_put l k c = simp length-set

module _ (l : Rows) (k : ℕ) (c : Cell) where
  -- what is put is read back
  module _ (room : k < length l) (t : Tagged c) where
    pub put_same : cell_at (put_cell l k c) k ≡ c
    unfolding cell_at put_cell
    put_same = rw (get_or-set_same l k (row_of c) [] room) (row_back c t)

    pub put_sound : Sound (put_cell l k c) k
    unfolding put_cell row_of
    put_sound =
        record {
          halved = rw (get_or-set_same l k (row_of c) [] room) (tag_number c.halvings (omega (arith, t.few)));
          entered = rw (get_or-set_same l k (row_of c) [] room) (tag_number c.entry t.early);
          tagged = rw put_same t;
        }

  -- other places stay
  module _ (j : ℕ) (h : j ≢ k) where
    pub put_other : cell_at (put_cell l k c) j ≡ cell_at l j
    unfolding cell_at put_cell
    put_other = rw (get_or-set_other l k j (row_of c) [] h)

    pub put_keeps : Sound l j → Sound (put_cell l k c) j
    unfolding put_cell
    put_keeps s =
        record {
          halved = rw (get_or-set_other l k j (row_of c) [] h) s.halved;
          entered = rw (get_or-set_other l k j (row_of c) [] h) s.entered;
          tagged = rw put_other s.tagged;
        }
