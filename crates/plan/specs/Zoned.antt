-- How long the quotas are after they are put, and the room in what the packers are lent.
-- Rests on the kit's laws of lists.
use Rattle.std.specs.Prelude.{ℕ, ◌≤◌, ◌≡◌, Bool, List, length, take, Float}
use Rattle.std.proofs.Common.{◌∙◌, arith, length-take-le}
use Rattle.std.proofs.Math.Path.{ap}
use Rattle.std.proofs.lemmas.List.Edits.{sets}
use Rattle.std.proofs.Math.Seq.{length-sets}
use Rattle.glyphs.specs.declared.rect.Rectangle.{Rectangle}
use Rattle.glyphs.specs.declared.rect.Point.{Point}
use Rattle.discs.specs.declared.rows.Row.{Row}
use Rattle.discs.specs.Floor.{Lends, start}
use Rattle.plan.specs.Rows.{flat_rows, shares_at}

-- ---- the slices

pub shares_long :
    (rows : List Row) (rings sizes : List ℕ) (points : List Point) (shares₀ shares : List ℕ)
    → shares ≡ sets shares₀ 0 (flat_rows rings sizes (shares_at rings sizes points) rows start) → length shares ≡ length shares₀
shares_long rows rings sizes points shares₀ shares e = ap length e ∙ length-sets shares₀ 0 (flat_rows rings sizes (shares_at rings sizes points) rows start)

pub pillars_lend :
    (m : ℕ) (obstacles pillars near : List Rectangle) (second : List Float) (flags : List Bool) (spots : List Float)
    → m ≤ length obstacles → m ≤ length pillars → length obstacles ≤ 64 → 64 ≤ length near
    → length second ≡ 8000 → length flags ≡ 2000 → 4000 ≤ length spots → Lends (take m pillars) near second flags spots
pillars_lend m obstacles pillars near second flags spots h i few a b c d =
    record {
      room_near = omega (arith, length-take-le m pillars i, h, few, a);
      room_second = omega (arith, b);
      room_flags = omega (arith, c);
      room_spots = d;
    }
