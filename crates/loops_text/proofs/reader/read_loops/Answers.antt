-- Answers the goals of `read_loops`.
use Rattle.std.proofs.Common.{sym, ◌≡◌, ◌∷◌, ◌++◌, [], ap, ◌∙◌}
use Rattle.std.proofs.lemmas.Result.{err_from_is_err_and}
use Rattle.text_lines.specs.Cutting.{piece_of}
use Rattle.loops_text.specs.Grammar.{loops_of}
use Rattle.loops_text.proofs.Reading.{drawing_with, IsTurn, fault_of_turn, next_of_turn, push_fault-of_turn}
use Rattle.loops_text.proofs.reader.read_loops.Goals as goal
use Rattle.loops_text.proofs.reader.read_loops.Goals.{in-Memory, in_default-matches}
use Rattle.loops_text.specs.Edges.{push_fault}
use Rattle.std.proofs.lemmas.Bool.{true≢false}
use Rattle.std.proofs.lemmas.Option.{none-some}

pub returns-in_err-read_loop-clause-fault : goal.returns-in_err-read_loop-clause-fault
returns-in_err-read_loop-clause-fault c =
    let turn : IsTurn c.loop-line.drawing c.loop-line.line-iterator c.next.new.self c.of.result c.in-Some-loop_start.first c.edges-room.result (loops_of c.args.bytes.now) =
    record { line = piece_of c.in-Some.line; so_far = c.loop-line.invariant; step = c.in-Some.ensures.steps; start = c.in-Some-loop_start.ensures; its_words = c.of.ensures; counted = c.edges-room.ensures.count } in
    let p = err_from_is_err_and c.from_residual.result c.from_residual.ensures.1 in
    rw (p.1, p.2) (λ kind. fault_of_turn turn _ (c.in_err-read_loop.ensures.fault kind))

pub loop-line-preserved : goal.loop-line-preserved
loop-line-preserved c =
    let turn : IsTurn c.loop-line.drawing c.loop-line.line-iterator c.next.new.self c.of.result c.in-Some-loop_start.first c.edges-room.result (loops_of c.args.bytes.now) =
    record { line = piece_of c.in-Some.line; so_far = c.loop-line.invariant; step = c.in-Some.ensures.steps; start = c.in-Some-loop_start.ensures; its_words = c.of.ensures; counted = c.edges-room.ensures.count } in
    let pushed : c.push_loop.new.self ≡ c.loop-line.drawing ++ c.read_loop.new.points.items ∷ [] = c.in_default-push_loop.ensures.ok ∙ ap (λ points. c.loop-line.drawing ++ points ∷ []) c.deref.ensures.value in
    ap (λ loops. drawing_with loops c.next.new.self) pushed ∙ next_of_turn turn c.read_loop.new.points.items c.in_ok-read_loop.ensures.points

pub prove-unreachable-requires : goal.prove-unreachable-requires
prove-unreachable-requires c =
    let turn : IsTurn c.loop-line.drawing c.loop-line.line-iterator c.next.new.self c.of.result c.in-Some-loop_start.first c.edges-room.result (loops_of c.args.bytes.now) =
    record { line = piece_of c.in-Some.line; so_far = c.loop-line.invariant; step = c.in-Some.ensures.steps; start = c.in-Some-loop_start.ensures; its_words = c.of.ensures; counted = c.edges-room.ensures.count } in
    let free = push_fault-of_turn turn c.edges-room.ensures.few c.read_loop.new.points.items c.in_ok-read_loop.ensures.points in
    let none = ap (push_fault c.loop-line.drawing) c.deref.ensures.value ∙ free in
    elim c.match-matches.branch [
      | in-Memory w ↦ true≢false (sym w.matches-is ∙ c.if-prove.true)
      | in_default-matches w ↦ none-some c.in-Err.fault (sym none ∙ c.in-Err.ensures.fault w.in_default-matches.not-Memory)
    ]
