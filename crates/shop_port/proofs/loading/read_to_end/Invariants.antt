-- The invariants of the loop of `read_to_end`.
use Rattle.std.proofs.Common.{length, ◌-◌, ◌+◌, ◌≤◌, ◌≡◌, IfSome}
use Rattle.shop_port.specs.Loading.{IsFront}
use Rattle.shop_port.proofs.loading.read_to_end.Given as goal

abbrev pub invariant-pieces : goal.invariant-pieces
invariant-pieces g l = record {
  under : length l.bytes.items ≤ l.cap;
  front : IfSome (g.D.Depot.held l.initial.depot) (λ files. IsFront (files l.name) l.bytes.items);
  same : g.D.Depot.held l.depot ≡ g.D.Depot.held l.initial.depot;
  misses : g.D.Depot.misses l.initial.depot ≤ g.D.Depot.misses l.depot;
  faults : g.D.Depot.faults l.initial.depot ≤ g.D.Depot.faults l.depot;
}

abbrev pub decreases-pieces : goal.decreases-pieces
decreases-pieces g l = l.cap + 1 - length l.bytes.items
