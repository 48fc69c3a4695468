-- The loop of `Runs::next`: what is left stays until a run comes, and there are fewer levels.
use Rattle.std.proofs.Common.{◌≡◌, length}
use Rattle.segment_grid.specs.Walk.{runs_left}
use Rattle.segment_grid.proofs.walk.RunsIterator.next.Given as goal

abbrev pub invariant-loop-row : goal.invariant-loop-row
invariant-loop-row l = runs_left l.self ≡ runs_left l.fn.self

abbrev pub decreases-loop-row : goal.decreases-loop-row
decreases-loop-row l = length l.self.levels.now
