-- The invariant of the loop of `chain_moves`.
use Rattle.std.proofs.Common.{◌≡◌, flat_map, take}
use Rattle.gcode_text.specs.Path.{chain_places}
use Rattle.gcode_text.proofs.path_moves.chain_moves.Given as goal

abbrev pub invariant-loop-chain : goal.invariant-loop-chain
invariant-loop-chain l = l.walk ≡ flat_map (chain_places l.job) (take l.chain-index l.chains)
