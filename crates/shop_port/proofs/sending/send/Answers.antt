-- Answers the goals of `send`.
use Rattle.std.proofs.Common.{arith}
use Rattle.shop_port.proofs.Fronts.{appended_more, more_within}
use Rattle.shop_port.proofs.sending.send.Goals as goal

pub loop-sent-preserved : goal.loop-sent-preserved
loop-sent-preserved g c = record {
  within = more_within c.args.bytes.now c.loop-sent.sent c.in-Ok.n c.loop-sent.invariant.within c.in-Ok.ensures.range;
  appended =
      appended_more (g.S.Sink.written c.args.sink.now) (g.S.Sink.written c.loop-sent.sink) (g.S.Sink.written c.write.new.self)
      c.args.bytes.now c.loop-sent.sent c.in-Ok.n c.loop-sent.invariant.appended c.in-Ok.ensures.appended;
  faults = omega (arith, c.in-Ok.ensures.faults);
}
