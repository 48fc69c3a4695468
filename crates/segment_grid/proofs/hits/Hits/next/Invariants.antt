-- The loop of `Hits::next`: what is left stays until a number comes, and there are fewer boxes to test.
use Rattle.std.proofs.Common.{◌≡◌, length}
use Rattle.segment_grid.specs.Walk.{hits_left}
use Rattle.segment_grid.proofs.hits.Hits.next.Given as goal

abbrev pub invariant-loop-number : goal.invariant-loop-number
invariant-loop-number l = hits_left l.q l.self ≡ hits_left l.q l.fn.self

abbrev pub decreases-loop-number : goal.decreases-loop-number
decreases-loop-number l = length l.self.rest.boxes.now
