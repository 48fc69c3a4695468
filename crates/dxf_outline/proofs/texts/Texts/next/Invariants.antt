-- The invariant and the measure of the loop of `Texts::next`.
use Rattle.std.proofs.Common.{◌≡◌, length}
use Rattle.dxf_outline.specs.Texts.{texts_in}
use Rattle.dxf_outline.proofs.texts.Texts.next.Given as goal

abbrev pub invariant-loop-line : goal.invariant-loop-line
invariant-loop-line l = texts_in l.self-inside.size l.self-inside.lines ≡ l.fn.self

abbrev pub decreases-loop-line : goal.decreases-loop-line
decreases-loop-line l = length l.self-inside.lines
