-- The invariants of the loop of `send`.
use Rattle.std.proofs.Common.{length, take, ◌-◌, ◌≤◌}
use Rattle.shop_port.specs.Output.{Appended}
use Rattle.shop_port.proofs.sending.send.Given as goal

abbrev pub invariant-loop-sent : goal.invariant-loop-sent
invariant-loop-sent g l = record {
  within : l.sent ≤ length l.bytes;
  appended : Appended (g.S.Sink.written l.initial.sink) (g.S.Sink.written l.sink) (take l.sent l.bytes);
  faults : g.S.Sink.faults l.initial.sink ≤ g.S.Sink.faults l.sink;
}

abbrev pub decreases-loop-sent : goal.decreases-loop-sent
decreases-loop-sent g l = length l.bytes - l.sent
