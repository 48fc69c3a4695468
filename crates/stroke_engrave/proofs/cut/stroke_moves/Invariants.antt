-- What the loop of `stroke_moves` keeps.
use Rattle.std.proofs.Common.{◌≡◌, map, take}
use Rattle.stroke_engrave.specs.Moves.{stroke_move}
use Rattle.stroke_engrave.proofs.cut.stroke_moves.Given as goal

abbrev pub invariant-loop-stroke : goal.invariant-loop-stroke
invariant-loop-stroke l = l.moves.items ≡ map (stroke_move l.depth) (take l.stroke-index l.strokes)
