-- Answers the goals of `Collected::take_all`.
use Rattle.std.proofs.Common.{◌≡◌, ◌-◌, length, take, drop, ap, ◌∙◌, arith}
use Rattle.std.proofs.lemmas.List.{length-drop}
use Rattle.gcode_text.proofs.Collects.{Continues-line}
use Rattle.gcode_text.proofs.Cutting.{rest_is}
use Rattle.gcode_text.proofs.reader.Collected.take_all.Goals as goal

pub loop-rest-preserved : goal.loop-rest-preserved
loop-rest-preserved c =
    let rest = c.loop-rest.rest.now in
    let len = c.take_line-len.result in
    let before = c.loop-rest.invariant in
    let left : length (take (length rest - len) (drop len rest)) ≡ length rest - len = ap length (rest_is rest len) ∙ length-drop len rest in
    record {
      units = c.take_line-len.ensures.units ∙ before.units;
      fed = omega (arith, left, c.take_line-len.ensures.fed, c.take_line-len.ensures.within, before.fed);
      moves = Continues-line _ c.loop-rest.self c.take_line-len.new.self _ rest len c.take_line-len.ensures.after c.take_line-len.ensures.silent before.moves;
    }
