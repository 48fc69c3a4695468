-- What the loop of `box_round` keeps.
use Rattle.std.specs.List.{AllWithin}
use Rattle.depth_rule.specs.Together.{IsHeldIn}
use Rattle.depth_rule.proofs.together.box_round.Given as goal

abbrev pub invariant-loop-edge : goal.invariant-loop-edge
invariant-loop-edge l = AllWithin (IsHeldIn l.q) l.edges 0 l.edge-index
