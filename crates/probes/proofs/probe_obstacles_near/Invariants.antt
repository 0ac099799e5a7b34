-- `probe_obstacles_near` counts no more than it has looked at.
-- Rests on nothing.
use Prim.Native.Nat.{◌≤◌}
use Rattle.probes.proofs.probe_obstacles_near.Given as goal

abbrev pub invariant-loop-k : goal.invariant-loop-k
invariant-loop-k l = l.many ≤ l.k
