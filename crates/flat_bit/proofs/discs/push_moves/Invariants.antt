-- What the loop of `push_moves` keeps.
use Rattle.std.proofs.Common.{◌≡◌, ◌++◌, drop}
use Rattle.flat_bit.specs.Discs.{moves_from, moves_over}
use Rattle.flat_bit.proofs.discs.push_moves.Given as goal

abbrev pub invariant-loop-node : goal.invariant-loop-node
invariant-loop-node l = record {
  deep : l.from.depth ≡ l.radius;
  moves : l.moves.items ++ moves_from l.radius l.from (drop l.node-index l.nodes) ≡ l.fn.moves.items ++ moves_over l.radius l.nodes;
}
