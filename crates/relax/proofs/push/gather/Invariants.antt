-- `gather` meets its contract. The invariant: the list's first push as those before it did and then the first k marks.
-- Rests on the law of a mark gathered, and on a fold's next element.
use mathlib.Core.Path.{◌≡◌}
use mathlib.Core.List.{List, foldl}
use Prim.Native.Nat.{◌≤◌, ◌+◌}
use lib.ListN.{length, take}
use Rattle.glyphs.specs.Spots.{spots_of}
use Rattle.glyphs.specs.declared.rect.Point.{Point}
use Rattle.relax.specs.declared.push.Force.{Force}
use Rattle.relax.specs.Field.{push_of}
use Rattle.relax.proofs.push.gather.Given as goal

abbrev pub invariant-loop-k : goal.invariant-loop-k
invariant-loop-k l =
    let pushed : Force → List Point → Force = foldl (push_of l.influence l.p) in
    record {
      few : l.count ≤ l.m + l.k;
      room : length l.near ≡ length l.initial.near;
      pushes :
          (f : Force)
          → pushed f (take l.count (spots_of l.near))
          ≡ pushed (pushed f (take l.m (spots_of l.initial.near))) (take l.k (spots_of l.spots));
    }
