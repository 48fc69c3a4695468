-- The invariant and the measure of the loop of `settled`.
use Rattle.std.proofs.Common.{◌≡◌, ◌++◌, length, map}
use Rattle.cxf_font.specs.Letters.{spot_of}
use Rattle.cxf_font.proofs.spot.settled.Given as goal

abbrev pub invariant-loop-p : goal.invariant-loop-p
invariant-loop-p l = l.spots.items ++ map (spot_of l.layout l.letter l.shift) l.rest ≡ map (spot_of l.layout l.letter l.shift) l.fn.points

abbrev pub decreases-loop-p : goal.decreases-loop-p
decreases-loop-p l = length l.rest
