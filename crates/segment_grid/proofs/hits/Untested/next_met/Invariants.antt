-- The loop of `Untested::next_met`: what is left stays until a box is met.
use Rattle.std.proofs.Common.{◌≡◌, length}
use Rattle.segment_grid.specs.Walk.{hits_ahead}
use Rattle.segment_grid.proofs.hits.Untested.next_met.Given as goal

abbrev pub invariant-loop-number : goal.invariant-loop-number
invariant-loop-number l = hits_ahead l.q l.self ≡ hits_ahead l.q l.fn.self

abbrev pub decreases-loop-number : goal.decreases-loop-number
decreases-loop-number l = length l.self.numbers.now
