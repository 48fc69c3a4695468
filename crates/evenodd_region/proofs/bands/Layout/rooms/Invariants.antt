-- What the loop of `Layout::rooms` keeps.
use Rattle.std.proofs.Common.{◌≡◌, vec_len}
use Rattle.evenodd_region.proofs.bands.Layout.rooms.Given as goal

abbrev pub invariant-loop-e : goal.invariant-loop-e
invariant-loop-e l = vec_len l.rooms ≡ l.self.count
