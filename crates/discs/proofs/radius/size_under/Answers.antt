-- `size_under` meets its contract: the search free of obstacles, then the one with them.
-- Rests on what the searches ensure.
use Rattle.std.proofs.Common.{arith}
use Rattle.discs.specs.Bundles.{work_on}
use Rattle.discs.specs.PlaceGlyphs.{size_under}
use Rattle.discs.proofs.radius.size_under.Goals as goal

pub auto_radius-free-requires : goal.auto_radius-free-requires
auto_radius-free-requires c = omega (arith, c.requires)

pub returns-then-is_empty : goal.returns-then-is_empty
unfolding size_under
returns-then-is_empty c =
    record {
      size = rw (← c.is_empty.ensures, c.if-is_empty.true, c.unwrap_or-r_free.ensures, c.auto_radius-free.ensures.search);
      same = c.auto_radius-free.ensures.same;
    }

pub auto_radius-walled-requires : goal.auto_radius-walled-requires
auto_radius-walled-requires c = omega (arith, c.requires, c.auto_radius-free.ensures.same.lent.near_long)

pub returns : goal.returns
unfolding size_under
returns c =
    record {
      size = rw (
        ← c.is_empty.ensures,
        c.if-is_empty.false,
        c.max.ensures,
        c.unwrap_or.ensures,
        c.unwrap_or-r_free.ensures,
        c.auto_radius-walled.ensures.search,
        c.auto_radius-free.ensures.search,
      );
      same = work_on c.auto_radius-free.ensures.same c.auto_radius-walled.ensures.same;
    }
