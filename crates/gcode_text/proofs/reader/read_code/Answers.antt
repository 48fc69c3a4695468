-- Answers the goals of `read_code`.
use Rattle.std.proofs.Common.{[], ◌∙◌, ap, subst, sym}
use Rattle.std.proofs.lemmas.Result.{IfOk-weaker}
use Rattle.gcode_text.specs.Moves.{moves_of}
use Rattle.gcode_text.specs.Reading.{HasFault}
use Rattle.gcode_text.proofs.Collects.{IfErr-weaker}
use Rattle.gcode_text.proofs.Follows.{few_moves, follows}
use Rattle.gcode_text.proofs.reader.read_code.Goals as goal

pub returns-clause-moves : goal.returns-clause-moves
returns-clause-moves c =
    let code = c.args.code.now in
    let stands = c.in_ok-feed.ensures.grown [] c.new-reader.ensures.nothing in
    let same = ap (λ units. moves_of units code) (c.feed.ensures.units ∙ c.new-reader.ensures.units) in
    IfOk-weaker c.finish.result _ _ (λ moves here. sym same ∙ here code stands) c.finish.ensures.moves

pub returns-clause-fault : goal.returns-clause-fault
returns-clause-fault c =
    let code = c.args.code.now in
    let stands = c.in_ok-feed.ensures.grown [] c.new-reader.ensures.nothing in
    let same = ap (λ units. moves_of units code) (c.feed.ensures.units ∙ c.new-reader.ensures.units) in
    IfErr-weaker c.finish.result _ _ (λ fault here. subst (HasFault fault) same (here code stands)) c.finish.ensures.fault

pub returns-clause-follow : goal.returns-clause-follow
returns-clause-follow c = IfOk-weaker c.finish.result _ _ (λ moves is. follows c.args.units c.args.code.now moves.items is) (returns-clause-moves c)

pub returns-clause-few : goal.returns-clause-few
returns-clause-few c = IfOk-weaker c.finish.result _ _ (λ moves is. few_moves c.args.units c.args.code.now moves.items is) (returns-clause-moves c)
