-- What the zones' reading put behind one another is the job's.
-- Rests on the laws of the job's flat lists.
use Prim.Native.Nat.{ℕ, ◌+◌}
use mathlib.Core.Path.{◌∙◌}
use mathlib.Core.List.{List}
use Rattle.format.specs.Numbers.{u16}
use Rattle.format.specs.declared.pieces.Pieces.{Pieces}
use Rattle.discs.specs.declared.rows.Row.{Row}
use Rattle.job.specs.Job.{zones_at, rows_of}
use Rattle.job.specs.JobLaws.{all_points, all_sizes, all_rings}
use Rattle.job.specs.Steps.{ZonesPut, JobPut}

pub job_put :
    {V R P : ℕ} (s : List ℕ) (pieces : Pieces V R P) (rows : List Row) (to : ℕ) (pieces' : Pieces V R P) (rows' : List Row)
    → ZonesPut s (u16 s (zones_at s)) (zones_at s + 2) pieces rows to pieces' rows' → JobPut s pieces pieces' rows rows'
unfolding rows_of
job_put s pieces rows to pieces' rows' z =
    let p = z.put in
    record {
      points = p.points ∙ rw all_points;
      sizes = p.sizes ∙ rw all_sizes;
      rings = p.rings ∙ rw all_rings;
      row = z.row;
    }
