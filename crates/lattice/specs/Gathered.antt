-- The cells that are gathered while some of the free ones wait: what two slices and the run hold, and what one more cell changes.
-- Rests on the laws of what two slices hold, and of free cells that wait.
use Rattle.std.specs.Prelude.{◌≡◌, ℕ, suc, ◌+◌, ◌≤◌, min, true, false, List, length, take, refl, Float}
use Rattle.std.proofs.Math.Path.{sym, ap, subst}
use Rattle.std.proofs.Common.{◌∙◌}
use native.Mathlib.Omega.{arith}
use Rattle.std.proofs.Math.Seq.{take_all}
use Rattle.laws.specs.Bounded.{insert_behind}
use Rattle.laws.specs.Lists.{written}
use Rattle.float.specs.Ops.{◌≥ᶠ◌}
use Rattle.glyphs.specs.declared.rect.Point.{Point}
use Rattle.glyphs.specs.declared.rect.Rectangle.{Rectangle}
use Rattle.glyphs.specs.Rect.{clear_of_obstacles}
use Rattle.glyphs.specs.Spots.{flat}
use Rattle.regions.specs.Ring.{Piece}
use Rattle.regions.specs.Clearance.{signed_clearance}
use Rattle.lattice.specs.Flat.{points, length_points}
use Rattle.lattice.specs.Gather.{Fit, Grown, gather_cell, gathered_fit}
use Rattle.lattice.specs.Held.{held_in, Holds, Ready, free_le, holds_start, holds_blocked, turn}
use Rattle.lattice.specs.Lattice.{HexCells, by_anchor}
use Rattle.lattice.specs.Merge.{inserted_none}
use Rattle.lattice.specs.Waiting.{Line, Onward, lined, length_lined, lined_order}
use Rattle.lattice.specs.declared.count.Counts.{Counts}
use Rattle.lattice.specs.declared.gather.Gathered.{Gathered}
use Rattle.lattice.specs.declared.gather.Gathering.{Gathering}
use Rattle.lattice.specs.declared.gather.Wanted.{Wanted}
use Rattle.lattice.specs.declared.waiting.Free.{Free}

-- the numbers of cells in the two slices
abbrev pub kept_of : Gathered → Counts
kept_of t = record { free = t.free.kept; blocked = t.blocked }

-- the cells in the two slices and the run
abbrev pub gathered_in : Point → ℕ → Gathered → List Float → List Float → List Float → HexCells
gathered_in anchor nf t free blocked run = record { free = lined anchor nf t.free free run; blocked = points t.blocked blocked }

-- what is asked of them before one more cell is gathered
pub record Waits (anchor : Point) (nf nb : ℕ) (t : Gathered) (free blocked run : List Float) : Type 0 where
  pub ready : Ready anchor nf nb (kept_of t) free blocked
  pub line : Line anchor nf t.free free run

-- and then: they hold the cells, and behind what they hold the two slices are as they were
pub record Gathers (anchor : Point) (nf nb : ℕ) (cells : HexCells) (t r : Gathered) (free blocked run free₀ blocked₀ : List Float) : Type 0 where
  pub waits : Waits anchor nf nb r free blocked run
  pub cells_are : gathered_in anchor nf r free blocked run ≡ cells
  pub holds : Holds (held_in (kept_of r) free blocked) (kept_of r) free blocked free₀ blocked₀
  pub grown : Grown (held_in (kept_of t) free₀ blocked₀) (held_in (kept_of r) free blocked)

-- ---- the same of a gathering
abbrev pub held_by : Gathering → HexCells
held_by g = held_in (kept_of g.t) g.free.now g.blocked.now

abbrev pub gathered_by : Wanted → Gathering → HexCells
gathered_by w g = gathered_in w.anchor w.free g.t g.free.now g.blocked.now g.run

abbrev pub IsReady : Wanted → Gathering → Type 0
IsReady w g = Ready w.anchor w.free w.blocked (kept_of g.t) g.free.now g.blocked.now

abbrev pub IsWaiting : Wanted → Gathering → Type 0
IsWaiting w g = Waits w.anchor w.free w.blocked g.t g.free.now g.blocked.now g.run

abbrev pub HoldsNow : HexCells → Gathering → Gathering → Type 0
HoldsNow cells g₀ g = Holds cells (kept_of g.t) g.free.now g.blocked.now g₀.free.now g₀.blocked.now

abbrev pub GathersNow : Wanted → HexCells → Gathering → Gathering → Type 0
GathersNow w cells g₀ g = Gathers w.anchor w.free w.blocked cells g₀.t g.t g.free.now g.blocked.now g.run g₀.free.now g₀.blocked.now

-- ---- before a row
module _ (anchor : Point) (nf nb : ℕ) (t : Counts) (f b g : List Float) (r : Ready anchor nf nb t f b) where
  abbrev begun : Gathered
  begun = record { free = record { kept = t.free; waiting = 0 }; blocked = t.blocked }

  pub waits_begun : Waits anchor nf nb begun f b g
  unfolding points
  waits_begun =
      record {
        ready = r;
        line = record { kept_le = free_le anchor nf nb t f b r; room = r.free_room; order = r.fit.free_order; waiting_le = omega arith; run_order = tt };
      }

  pub begun_are : gathered_in anchor nf begun f b g ≡ held_in t f b
  unfolding points
  begun_are =
      ap (λ (ps : List Point). record { free = ps; blocked = points t.blocked b })
      (ap (take nf) (inserted_none (by_anchor anchor) (points t.free f)) ∙ take_all nf (points t.free f) r.fit.free_fits)

module _ (anchor : Point) (nf nb : ℕ) (t : Gathered) (f b g : List Float) (w : Waits anchor nf nb t f b g) where
  kept_number : t.free.kept ≡ length (points t.free.kept f)
  kept_number = ap (λ (x : Counts). x.free) w.ready.counts

  blocked_number : t.blocked ≡ length (points t.blocked b)
  blocked_number = ap (λ (x : Counts). x.blocked) w.ready.counts

  start : Holds (held_in (kept_of t) f b) (kept_of t) f b f b
  start = holds_start anchor nf nb (kept_of t) f b w.ready

  -- ---- after it, when those that wait are merged
  pub holds_merged :
      64 ≤ length g → (m : ℕ) (f' : List Float) → m ≡ min (t.free.kept + t.free.waiting) nf → f' ≡ written (flat (lined anchor nf t.free f g)) f
      → Holds (gathered_in anchor nf t f b g) (record { free = m; blocked = t.blocked }) f' b f b
  holds_merged room m f' n e =
      let c : m ≡ length (lined anchor nf t.free f g) = n ∙ sym (length_lined anchor nf t.free f g w.line room) in
      let d = blocked_number in
      record { counts = cc; free_is = e; blocked_is = start.blocked_is }

  pub merged_fit : 64 ≤ length g → Fit anchor nf nb (gathered_in anchor nf t f b g) × Grown (held_in (kept_of t) f b) (gathered_in anchor nf t f b g)
  merged_fit room =
      let n = length_lined anchor nf t.free f g w.line room in (
        record {
          free_fits = omega arith;
          blocked_fits = w.ready.fit.blocked_fits;
          free_order = lined_order anchor nf t.free f g w.line;
          blocked_order = w.ready.fit.blocked_order;
        },
        (omega (arith, kept_number, w.line.kept_le), omega arith),
      )

  -- ---- one cell
  module _ (piece : Piece) (c : Float) (near : List Rectangle) (p : Point) where
    pub gathers_out :
        signed_clearance p.x p.y piece ≥ᶠ c ≡ false
        → Gathers anchor nf nb (gather_cell piece c near anchor nf nb (gathered_in anchor nf t f b g) p) t t f b g f b
    unfolding gather_cell
    gathers_out e = rw e (record { waits = w; cells_are = refl; holds = start; grown = (omega arith, omega arith) })

    pub gathers_free :
        signed_clearance p.x p.y piece ≥ᶠ c ≡ true → clear_of_obstacles p.x p.y near c ≡ true
        → (r : Free) (f' g' : List Float) → Line anchor nf r f' g'
        → lined anchor nf r f' g' ≡ take nf (insert_behind (by_anchor anchor) p (lined anchor nf t.free f g)) → Onward t.free r f f'
        → Gathers anchor nf nb (gather_cell piece c near anchor nf nb (gathered_in anchor nf t f b g) p)
        t (record { free = r; blocked = t.blocked }) f' b g' f b
    unfolding gather_cell
    gathers_free e k r f' g' l q o =
        let n : length (points r.kept f') ≡ r.kept = length_points r.kept f' (omega (arith, l.kept_le, l.room)) in
        let d : r.kept ≡ length (points r.kept f') = sym n in
        let m = blocked_number in
        let number :
        ◌≡◌ {A = Counts} (record { free = r.kept; blocked = t.blocked })
        (record { free = length (points r.kept f'); blocked = length (points t.blocked b) }) = cc in
        rw (e, k) (record {
          waits = record {
            ready = record {
              counts = number;
              fit = record {
                free_fits = omega (arith, l.kept_le);
                blocked_fits = w.ready.fit.blocked_fits;
                free_order = l.order;
                blocked_order = w.ready.fit.blocked_order;
              };
              free_room = l.room;
              blocked_room = w.ready.blocked_room;
            };
            line = l;
          };
          cells_are = ap (λ (ps : List Point). record { free = ps; blocked = points t.blocked b }) q;
          holds = record { counts = number; free_is = o.free_is; blocked_is = start.blocked_is };
          grown = (omega (arith, kept_number, o.grown), omega arith);
        })

    pub gathers_blocked :
        signed_clearance p.x p.y piece ≥ᶠ c ≡ true → clear_of_obstacles p.x p.y near c ≡ false
        → (k : ℕ) → k ≡ min (suc t.blocked) nb → (b' : List Float) → b' ≡ written (flat (take nb (insert_behind (by_anchor anchor) p (points t.blocked b)))) b
        → Gathers anchor nf nb (gather_cell piece c near anchor nf nb (gathered_in anchor nf t f b g) p) t (record { free = t.free; blocked = k }) f b' g f b
    unfolding gather_cell
    gathers_blocked e z k n b' h =
        let cells = held_in (kept_of t) f b in
        let fit = gathered_fit piece c near anchor nf nb cells p w.ready.fit in
        let held =
        turn anchor nf nb (kept_of t) f b w.ready f b start (gather_cell piece c near anchor nf nb cells p) fit _ _ _
        (holds_blocked anchor nf nb (kept_of t) f b w.ready piece c near p e z k n b' h) in
        let q : points k b' ≡ take nb (insert_behind (by_anchor anchor) p (points t.blocked b)) = ap (λ (x : HexCells). x.blocked) held.0 ∙ rw (e, z) in
        rw (e, z) (record {
          waits = record { ready = held.1; line = w.line };
          cells_are = ap (λ (ps : List Point). record { free = lined anchor nf t.free f g; blocked = ps }) q;
          holds = held.2;
          grown = subst (Grown cells) (sym held.0) fit.1;
        })
