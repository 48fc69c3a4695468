-- The invariants of the loop of `write_each`.
use Rattle.std.proofs.Common.{◌≡◌, ◌++◌, All, drop, take}
use Rattle.gcode_text.specs.Visits.{IsVisit, visit_lines}
use Rattle.gcode_text.specs.Written.{code_text}
use Rattle.gcode_text.proofs.visits.write_each.Given as goal

abbrev pub invariant-loop-visit : goal.invariant-loop-visit
invariant-loop-visit l = record {
  text : l.code.items ++ code_text (visit_lines l.units l.before (drop l.visit-index l.visits)) ≡ l.initial.code.items ++ code_text (visit_lines l.units l.initial.before l.visits);
  range : All IsVisit (take l.visit-index l.visits);
}
