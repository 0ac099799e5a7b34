-- The zones that `place_glyphs` leaves in, at the radius that it finds: each keeps what is claimed of its pieces.
-- Rests on the law of a zone, and on the radius being 2 ^ -21 to 1,084 wherever spots are placed.
use Rattle.std.specs.Prelude.{◌≤◌, ◌<◌, length}
use Rattle.discs.specs.Region.{Zone}
use Rattle.job.specs.Known.{ZoneKnown}

-- a zone left in
pub record LeftIn (zone : Zone) : Type 0 where
  pub known : ZoneKnown zone
  pub some : 0 < length zone.pieces
  pub few : zone.count ≤ 2000
