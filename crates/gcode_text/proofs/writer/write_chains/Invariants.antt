-- The invariants of the loop of `write_chains`.
use Rattle.std.proofs.Common.{◌≡◌, ◌++◌, All, flat_map, take}
use Rattle.plane_exact.specs.Nodes.{IsChain}
use Rattle.gcode_text.specs.Path.{chain_lines}
use Rattle.gcode_text.specs.Written.{code_text}
use Rattle.gcode_text.proofs.writer.write_chains.Given as goal

abbrev pub invariant-loop-chain : goal.invariant-loop-chain
invariant-loop-chain l =
    (l.code.items ≡ l.initial.code.items ++ code_text (flat_map (chain_lines l.job) (take l.chain-index l.chains)))
    × All IsChain (take l.chain-index l.chains)
