-- What the loop of `ends_box` keeps.
use Rattle.stroke_engrave.proofs.Ends.{IsBoxSoFar}
use Rattle.stroke_engrave.proofs.bounds.ends_box.Given as goal

abbrev pub invariant-loop-stroke : goal.invariant-loop-stroke
invariant-loop-stroke l = IsBoxSoFar l.strokes l.stroke-index l.low l.high
