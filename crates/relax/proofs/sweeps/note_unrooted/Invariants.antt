-- `note_unrooted` meets its contract. The invariant: the first i notes are those of their marks.
-- Rests on the law that notes of all marks are the marks' notes.
use Rattle.std.proofs.Common.{◌≡◌, ℕ, ◌<◌, slice_index_or}
use Rattle.std.specs.Float.{nan}
use Rattle.glyphs.specs.Spots.{spot_at}
use Rattle.regions.specs.Pieces.{rings_of}
use Rattle.regions.specs.Unrooted.{unrooted}
use Rattle.relax.proofs.sweeps.note_unrooted.Given as goal

abbrev pub invariant-loop-i : goal.invariant-loop-i
invariant-loop-i l = (k : ℕ) → k < l.i → slice_index_or l.unrooted k nan ≡ unrooted (spot_at l.spots k).x (spot_at l.spots k).y (rings_of l.piece)
