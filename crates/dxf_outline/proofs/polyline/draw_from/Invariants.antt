-- The invariant and the measure of the loop of `draw_from`.
use Rattle.std.proofs.Common.{◌∷◌, length}
use Rattle.dxf_outline.specs.State.{drawn_of}
use Rattle.dxf_outline.proofs.Through.{IsThrough}
use Rattle.dxf_outline.proofs.polyline.draw_from.Given as goal

abbrev pub invariant-loop-corner : goal.invariant-loop-corner
invariant-loop-corner l = IsThrough l.chord (drawn_of l.initial.outline) (drawn_of l.outline) l.is_full l.before l.rest (l.fn.first ∷ l.others)

abbrev pub decreases-loop-corner : goal.decreases-loop-corner
decreases-loop-corner l = length l.rest
