-- Answers the goals of `judge_pieces`.
use Rattle.std.proofs.Common.{refl, arith}
use Rattle.engrave_model.specs.Drawing.{edges_of}
use Rattle.engrave_core.specs.Judging.{IsJudgedTo}
use Rattle.engrave_core.proofs.StreamedCode.{at_start}
use Rattle.engrave_core.proofs.stream.judge_pieces.Goals as goal

pub pieces-init : goal.pieces-init
pieces-init g c =
    let new = c.new-judged.result in
    record {
      under = omega arith;
      units = c.new-judged.ensures.units;
      fed = c.new-judged.ensures.fed;
      value =
          at_start (g.D.Depot.held c.args.depot.now) c.args.name.now
          (λ bytes. IsJudgedTo (edges_of c.args.scene.now) c.args.bit.now bytes new.stepper new.verdict new.count)
          (c.new-judged.ensures.judged (edges_of c.args.scene.now) c.args.bit.now);
      same = refl;
      misses = omega arith;
      faults = omega arith;
    }
