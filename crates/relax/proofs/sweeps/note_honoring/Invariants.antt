-- `note_honoring` meets its contract. The invariant: the first i notes are those of their marks.
-- Rests on the law that notes of all marks are the marks' notes, and on the margin's being that of the inset.
use Rattle.std.proofs.Common.{◌≡◌, ℕ, ◌<◌, false, slice_index_or}
use Rattle.glyphs.specs.Rect.{clear_of_obstacles}
use Rattle.glyphs.specs.Spots.{spot_at}
use Rattle.relax.proofs.sweeps.note_honoring.Given as goal

abbrev pub invariant-loop-i : goal.invariant-loop-i
invariant-loop-i l =
    (k : ℕ) → k < l.i
    → slice_index_or l.honoring k false ≡ clear_of_obstacles (spot_at l.spots k).x (spot_at l.spots k).y l.obstacles l.inset
