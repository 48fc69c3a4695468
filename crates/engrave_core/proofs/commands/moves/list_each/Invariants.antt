-- The invariants of the loop of `list_each`.
use Rattle.std.specs.Prelude.{flat_map}
use Rattle.std.proofs.Common.{◌≡◌, take}
use Rattle.engrave_core.specs.Commands.Moves.{move_line}
use Rattle.engrave_core.proofs.commands.moves.list_each.Given as goal

abbrev pub invariant-loop-line_move : goal.invariant-loop-line_move
invariant-loop-line_move l = l.text.items ≡ flat_map move_line (take l.line_move-index l.moves)
