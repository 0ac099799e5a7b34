-- `throw_glyphs` meets its contract. The invariants: what is left of the pass ends as the whole pass, and the slice differs only in its first marks.
-- Rests on the laws of a turn of each loop.
use mathlib.Core.Path.{◌≡◌}
use Prim.Native.Nat.{◌≤◌}
use lib.ListN.{length}
use Rattle.scatter.specs.Darts.{aimed, pass_from, trying}
use Rattle.scatter.specs.Placed.{Front}
use Rattle.scatter.proofs.random.throw_glyphs.Given as goal

abbrev pub invariant-loop : goal.invariant-loop
invariant-loop l =
    (l.spots ≡ l.initial.spots)
    × (l.ahead ≡ aimed l.rng l.range)
    × (trying l.site l.attempts l.honor l.counter l.count l.rng l.spots ≡ pass_from l.site l.attempts l.honor l.initial.count l.initial.rng l.initial.spots)

abbrev pub invariant-glyphs : goal.invariant-glyphs
invariant-glyphs l =
    (l.count ≤ l.n)
    × (length l.spots ≡ length l.initial.spots)
    × Front l.count l.spots l.initial.spots
    × (l.ahead ≡ aimed l.rng l.range)
    × (pass_from l.site l.attempts l.honor l.count l.rng l.spots ≡ pass_from l.site l.attempts l.honor l.initial.count l.initial.rng l.initial.spots)
