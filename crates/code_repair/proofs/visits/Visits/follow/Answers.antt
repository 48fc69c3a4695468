-- Answers the goals of `follow`.
use Rattle.std.proofs.Common.{arith, ◌∙◌}
use Rattle.engrave_model.specs.Drawing.{edges_of}
use Rattle.code_repair.proofs.Stepping.{led_step}
use Rattle.code_repair.proofs.visits.Visits.follow.Goals as goal

pub loop-line_move-preserved : goal.loop-line_move-preserved
loop-line_move-preserved c =
    let kept = c.loop-line_move.invariant in
    let taken = c.in_ok-take.ensures in
    let counted = kept.counted in
    let more = taken.counted in
    record {
      led = led_step (edges_of c.args.scene.now) c.args.bit.now c.args.self.now c.args.moves.now c.loop-line_move.line_move-index c.line_move-item.result c.loop-line_move.self c.take.new.self
          (omega arith) c.line_move-item.is taken.step taken.last kept.safe kept.led;
      counted = omega arith;
      safe = c.take.ensures.safe ∙ kept.safe;
    }
