-- What the structs of the code hold: the zones left in, the marks of a region, and what is lent; with their laws.
-- Rests on the definitions.
use Rattle.std.specs.Prelude.{◌≡◌, ℕ, ◌*◌, ◌≤◌, Bool, List, length, Float}
use Rattle.std.proofs.Math.Path.{refl}
use Rattle.std.proofs.Common.{◌∙◌}
use Rattle.glyphs.specs.declared.rect.Point.{Point}
use Rattle.glyphs.specs.declared.rect.Rectangle.{Rectangle}
use Rattle.glyphs.specs.declared.stream.Stream.{Stream}
use Rattle.regions.specs.Pieces.{rings_of}
use Rattle.scatter.specs.Random.{Thrown}
use Rattle.discs.specs.Region.{pack_uniform_piece, pack_low_discrepancy_piece}
use Rattle.discs.specs.Pieces.{deepests_of, pack_quota, pack_pieces_from, pack_region_from}
use Rattle.discs.specs.Slices.{pieces_left}
use Rattle.discs.specs.Floor.{Handed, handed_at, handed_from, handed_work, handed_feasible, Packable, start}
use Rattle.discs.specs.Walk.{holding}
use Rattle.discs.specs.declared.rows.Offsets.{Offsets}
use Rattle.discs.specs.declared.rows.Row.{Row}
use Rattle.discs.specs.declared.bundle.Zones.{Zones}
use Rattle.discs.specs.declared.bundle.Region.{Region}
use Rattle.discs.specs.declared.bundle.Share.{Share}
use Rattle.discs.specs.declared.bundle.Packing.{Packing}
use Rattle.discs.specs.declared.bundle.PackingAt.{PackingAt}
use Rattle.discs.specs.declared.bundle.Lent.{Lent}
use Rattle.discs.specs.declared.bundle.Work.{Work}

module _ (zones : Zones) where
  -- the zone of a row, as it is handed in
  abbrev pub zone_at : Row → Offsets → Handed
  zone_at =
      handed_at zones.bytes.now zones.layout.rings.now zones.layout.sizes.now zones.layout.points.now zones.quotas.now zones.deepest.now

  abbrev pub IsPackable : Row → Offsets → Type 0
  IsPackable =
      Packable zones.bytes.now zones.layout.rings.now zones.layout.sizes.now zones.layout.points.now zones.quotas.now zones.deepest.now

  -- the zones left in, of these rows, whose pieces start there, and of all
  abbrev pub work_from : List Row → Offsets → List Handed
  work_from rows at =
      handed_work
      (handed_from zones.bytes.now zones.layout.rings.now zones.layout.sizes.now zones.layout.points.now zones.quotas.now zones.deepest.now rows at)

  abbrev pub zones_work : List Handed
  zones_work = work_from zones.layout.rows.now start

-- whether the zones left in hold their marks, with these obstacles at a radius
abbrev pub fits_in : Packing → Zones → List Rectangle → Float → Bool
fits_in packing zones = handed_feasible packing.numbers packing.options (zones_work zones)

-- the marks of one piece: as a lattice, as a sequence of low discrepancy, and by the arrangement, with the stream after them
abbrev pub lattice_packed : PackingAt → Share → Bool → List Point
lattice_packed how share = pack_uniform_piece share.deepest (rings_of share.piece) share.quota how.ctx how.packing.obstacles.now

abbrev pub scatter_packed : PackingAt → Share → List Point
scatter_packed how share = pack_low_discrepancy_piece share.deepest (rings_of share.piece) share.quota how.ctx how.packing.obstacles.now

abbrev pub share_packed : PackingAt → Share → Stream → Thrown
share_packed how share =
    pack_quota how.packing.numbers how.packing.options how.ctx how.packing.obstacles.now share.deepest (rings_of share.piece) share.quota

-- the marks of a region's pieces, from a stream and from that of its key
abbrev pub pieces_packed : PackingAt → Region → Stream → List (List Point)
pieces_packed how region =
    pack_pieces_from how.packing.numbers how.packing.options how.ctx how.packing.obstacles.now (pieces_left region.pieces)
    (deepests_of region.deepest.now) region.quotas.now

abbrev pub region_packed : PackingAt → Region → List (List Point)
region_packed how region =
    pack_region_from how.packing.numbers how.packing.options how.ctx how.packing.obstacles.now region.key.now (pieces_left region.pieces)
    region.quotas.now region.deepest.now

-- whether a zone holds its marks in a trial
abbrev pub zone_held : PackingAt → Handed → Bool
zone_held how = holding how.packing.numbers how.packing.options how.ctx how.packing.obstacles.now

-- what is lent has room for the obstacles and for n marks
pub record HasRoom (packing : Packing) (n : ℕ) (lent : Lent) : Type 0 where
  pub near : length packing.obstacles.now ≤ length lent.near.now
  pub second : n * 2 ≤ length lent.second.now
  pub flags : n ≤ length lent.flags.now

-- each slice is the one that was lent, and as long as it was
pub record SameLent (lent lent' : Lent) : Type 0 where
  pub near : lent'.near.ghost_name ≡ lent.near.ghost_name
  pub second : lent'.second.ghost_name ≡ lent.second.ghost_name
  pub flags : lent'.flags.ghost_name ≡ lent.flags.ghost_name
  pub near_long : length lent'.near.now ≡ length lent.near.now
  pub second_long : length lent'.second.now ≡ length lent.second.now
  pub flags_long : length lent'.flags.now ≡ length lent.flags.now

pub record SameWork (work work' : Work) : Type 0 where
  pub lent : SameLent work.lent work'.lent
  pub spots : work'.spots.ghost_name ≡ work.spots.ghost_name
  pub spots_long : length work'.spots.now ≡ length work.spots.now

-- ---- laws

pub lent_on : {a b c : Lent} → SameLent a b → SameLent b c → SameLent a c
lent_on f g =
    record {
      near = g.near ∙ f.near;
      second = g.second ∙ f.second;
      flags = g.flags ∙ f.flags;
      near_long = g.near_long ∙ f.near_long;
      second_long = g.second_long ∙ f.second_long;
      flags_long = g.flags_long ∙ f.flags_long;
    }

pub work_on : {a b c : Work} → SameWork a b → SameWork b c → SameWork a c
work_on f g = record { lent = lent_on f.lent g.lent; spots = g.spots ∙ f.spots; spots_long = g.spots_long ∙ f.spots_long }

pub lent_same : (a : Lent) → SameLent a a
lent_same a = record { near = refl; second = refl; flags = refl; near_long = refl; second_long = refl; flags_long = refl }

pub work_same : (a : Work) → SameWork a a
work_same a = record { lent = lent_same a.lent; spots = refl; spots_long = refl }
