-- The loop of `Near::next`: what is left stays until a number comes, and there are fewer runs.
use Rattle.std.proofs.Common.{◌≡◌, length}
use Rattle.segment_grid.specs.Walk.{numbers_left, runs_left}
use Rattle.segment_grid.proofs.near.NearIterator.next.Given as goal

abbrev pub invariant-loop-number : goal.invariant-loop-number
invariant-loop-number l = numbers_left l.self-inside.q l.self-inside.hits l.self-inside.runs ≡ l.fn.self

abbrev pub decreases-loop-number : goal.decreases-loop-number
decreases-loop-number l = length (runs_left l.self-inside.runs)
