-- What is left of a line, with the block of the words before.
use Rattle.std.specs.Prelude.{ℕ, Bool, true, ◌&&◌, nat_le, Option, Some, None, List, [], ◌∷◌, Result, Err}
use Rattle.grid_num.specs.declared.units.Units.{Units}
use Rattle.gcode_text.specs.Grammar.{judge_words, line_words}
use Rattle.gcode_text.specs.declared.block.Block.{Block}
use Rattle.gcode_text.specs.declared.fault.CodeKind.{CodeKind}
use Rattle.gcode_text.specs.declared.fault.CodeKind.TheVariants as kind

-- the block of the words before and of those outside comments
abbrev pub judge_text : Units → Block → Option (List ℕ) → Result Block CodeKind
judge_text units block None = Err kind.OpenComment
judge_text units block (Some outside) = judge_words units block (line_words outside)

-- the text is empty, or begins with a capital
abbrev pub starts_word : List ℕ → Bool
starts_word [] = true
starts_word (byte ∷ rest) = nat_le 65 byte && nat_le byte 90
