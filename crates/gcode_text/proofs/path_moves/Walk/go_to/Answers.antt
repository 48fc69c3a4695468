-- Answers the goals of `Walk::go_to`.
use Rattle.std.proofs.Common.{arith}
use Rattle.gcode_text.proofs.Walks.{begins, goes_on}
use Rattle.gcode_text.proofs.path_moves.Walk.go_to.Goals as goal
use Rattle.gcode_text.proofs.path_moves.Walk.go_to.Goals.{in-Some+in_ok-push, in_default}

pub invariant_of-self-2 : goal.invariant_of-self-2
invariant_of-self-2 c =
    let old = c.self.inside in
    elim c.match-self.branch [
      | in-Some+in_ok-push w ↦ rw w.self-inside-is (goes_on old.moves.items w.push.new.self.items old.at _ w.in-Some.from c.args.to w.in-Some.is c.self.invariant (omega arith) w.in_ok-push.ensures.items)
      | in_default w ↦ rw w.self-inside-is (begins old.moves.items old.at c.args.to w.in_default.is c.self.invariant)
    ]
