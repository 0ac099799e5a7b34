-- A zone's bytes in the sheet: those that the code puts are the definition's.
-- Rests on the laws of a sheet's bytes, and on there being two floats for each spot.
use Rattle.std.specs.Prelude.{ℕ, ◌+◌, ◌-◌, ◌*◌, ◌/◌, ◌≤◌, ◌≡◌, true, false, length, Float, Option}
use Rattle.std.proofs.Common.{sym, arith, length-take-le}
use mathlib.Core.List.{List, append-nil, flatten, flat_map}
use Rattle.std.proofs.Math.ListN.{take}
use Rattle.laws.specs.Lists.{written}
use Rattle.glyphs.specs.Spots.{flat}
use Rattle.glyphs.specs.declared.rect.Rectangle.{Rectangle}
use Rattle.glyphs.specs.declared.rect.Point.{Point}
use Rattle.format.specs.Numbers.{float_bytes}
use Rattle.sheet.specs.Sheet.{Placement, zone_head, placement_bytes}
use Rattle.sheet.specs.Laws.{put_none, put_both}
use Rattle.sheet.specs.Steps.{Put}
use Rattle.sheet.specs.declared.Writer.{Writer}
use Rattle.sheet.proofs.Back.{length_placement}
use Rattle.relax.specs.declared.Spreading.{Spreading}
use Rattle.deepest.specs.declared.search.Deepest.{Deepest}
use Rattle.discs.specs.declared.radius.Size.{Size}
use Rattle.discs.specs.declared.options.GlyphOptions.{GlyphOptions}
use Rattle.discs.specs.declared.rows.Row.{Row}
use Rattle.discs.specs.declared.rows.Offsets.{Offsets}
use Rattle.discs.specs.Region.{placed_in}
use Rattle.discs.specs.Joined.{length_joined}
use Rattle.discs.specs.Floor.{cut, handed_at, row_is_left_in}
use Rattle.job.specs.Job.{row_room}
use Rattle.plan.specs.Shares.{front_is}
use Rattle.plan.specs.Rows.{length_cut}
use Rattle.plan.specs.Placing.{placement_for, spots_at, placed_at, bytes_at}

pub room_in : (row : Row) → row_is_left_in row ≡ true → row_room row ≡ 5 + row.len + 16 * row.count
unfolding row_room
room_in row e = rw e

-- what is put for a row: its key, how many of its marks are left, and the spots
abbrev pub placement_of : List ℕ → Row → ℕ → List Float → Placement
placement_of s row placed spots = record { key = cut row.key row.len s; unplaced = row.count - placed; spots = take (placed * 2) spots }

module _ (s : List ℕ) (row : Row) (placed : ℕ) (spots : List Float) (h : row.key + row.len ≤ length s) (i : placed * 2 ≤ length spots) where
  key_long : length (cut row.key row.len s) ≡ row.len
  key_long = length_cut row.key row.len s h

  spots_long : length (take (placed * 2) spots) ≡ placed * 2
  spots_long = length-take-le (placed * 2) spots i

  pub bytes_long : length (placement_bytes (placement_of s row placed spots)) ≡ 5 + row.len + 16 * placed
  bytes_long = omega (arith, length_placement (placement_of s row placed spots), key_long, spots_long)

  pub placement_put :
      {a b c : Writer} (part : List Float) → part ≡ cut 0 (placed * 2) spots
      → Put (zone_head (cut row.key row.len s) placed (row.count - placed)) 1 a b → Put (flat_map float_bytes part) 0 b c
      → Put (placement_bytes (placement_of s row placed spots)) 1 a c
  unfolding placement_bytes
  placement_put part e p q =
      let half : length (take (placed * 2) spots) / 2 ≡ placed = rw spots_long (omega arith) in
      rw half (put_both _ _ 1 0 p (rw e at q))

module _
    (numbers : Spreading) (sizing : Option Size) (options : GlyphOptions) (obstacles : List Rectangle) (s rings sizes : List ℕ) (points : List Point)
    (quotas : List ℕ) (deepest : List Deepest) (row : Row) (at : Offsets) where
  pub bytes_out :
      (w : Writer) → row_is_left_in row ≡ false → Put (bytes_at numbers sizing options obstacles s rings sizes points quotas deepest row at) 0 w w
  unfolding bytes_at placed_at flat_map
  bytes_out w e = rw e (put_none w)

  pub none_out : row_is_left_in row ≡ false → length (placed_at numbers sizing options obstacles s rings sizes points quotas deepest row at) ≡ 0
  unfolding placed_at
  none_out e = rw e

  pub one_in : row_is_left_in row ≡ true → length (placed_at numbers sizing options obstacles s rings sizes points quotas deepest row at) ≡ 1
  unfolding placed_at
  one_in e = rw e

  pub bytes_in :
      (placed : ℕ) (spots₀ spots₁ : List Float) → row_is_left_in row ≡ true
      → placed ≡ placed_in (spots_at numbers sizing options obstacles s rings sizes points quotas deepest row at)
      → spots₁ ≡ written (flat (flatten (spots_at numbers sizing options obstacles s rings sizes points quotas deepest row at))) spots₀
      → placement_bytes (placement_of s row placed spots₁) ≡ bytes_at numbers sizing options obstacles s rings sizes points quotas deepest row at
  unfolding bytes_at placed_at flat_map placement_for handed_at
  bytes_in placed spots₀ spots₁ e p q =
      let all = spots_at numbers sizing options obstacles s rings sizes points quotas deepest row at in
      let f : take (placed_in all * 2) (written (flat (flatten all)) spots₀) ≡ flat (flatten all) =
      front_is (flat (flatten all)) spots₀ (placed_in all * 2) (length_joined all) in
      rw (e, p, q, f) (sym (append-nil _))

  pub bytes_count :
      (placed : ℕ) (spots₀ spots₁ : List Float) → row_is_left_in row ≡ true
      → placed ≡ placed_in (spots_at numbers sizing options obstacles s rings sizes points quotas deepest row at)
      → spots₁ ≡ written (flat (flatten (spots_at numbers sizing options obstacles s rings sizes points quotas deepest row at))) spots₀
      → row.key + row.len ≤ length s → placed * 2 ≤ length spots₁
      → length (bytes_at numbers sizing options obstacles s rings sizes points quotas deepest row at) ≡ 5 + row.len + 16 * placed
  bytes_count placed spots₀ spots₁ e p q h i = rw (← bytes_in placed spots₀ spots₁ e p q) (bytes_long s row placed spots₁ h i)
