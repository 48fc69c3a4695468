-- The invariant and the measure of the loop of `read_plain`.
use Rattle.std.proofs.Common.{◌≡◌, ◌≤◌, [], length}
use Rattle.pbm_edges.specs.Pbm.{plain_pixels}
use Rattle.pbm_edges.proofs.reader.read_plain.Given as goal

abbrev pub invariant-loop-rest : goal.invariant-loop-rest
invariant-loop-rest l = record {
  same : plain_pixels l.count l.pixels.items l.rest ≡ plain_pixels l.count [] l.text;
  few : length l.pixels.items ≤ l.count;
}

abbrev pub decreases-loop-rest : goal.decreases-loop-rest
decreases-loop-rest l = length l.rest
