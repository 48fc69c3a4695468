-- What the loop of `disc_moves` keeps.
use Rattle.std.proofs.Common.{◌≡◌, ◌++◌, drop}
use Rattle.flat_bit.specs.Discs.{disc_moves}
use Rattle.flat_bit.proofs.discs.disc_moves.Given as goal

abbrev pub invariant-loop-chain : goal.invariant-loop-chain
invariant-loop-chain l = l.moves.items ++ disc_moves l.radius (drop l.chain-index l.chains) ≡ disc_moves l.radius l.chains
