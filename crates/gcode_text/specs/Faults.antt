-- The words that are printed for a fault of a G-code program.
use Rattle.std.specs.Prelude.{ℕ, List, ◌++◌, codes, decimal}
use Rattle.gcode_text.specs.declared.fault.CodeFault.{CodeFault}
use Rattle.gcode_text.specs.declared.fault.CodeKind.{CodeKind}
use Rattle.gcode_text.specs.declared.fault.CodeKind.TheVariants as kind

-- the words of a kind
abbrev pub code_words : CodeKind → List ℕ
code_words kind.Word = codes "word"
code_words kind.Number = codes "number"
code_words kind.OffGrid = codes "off grid"
code_words kind.Twice = codes "twice"
code_words kind.Units = codes "units"
code_words kind.Incremental = codes "incremental"
code_words kind.Unplaced = codes "unplaced"
code_words kind.OutOfRange = codes "out of range"
code_words kind.LongLine = codes "long line"
code_words kind.OpenComment = codes "open comment"
code_words kind.TooMany = codes "too many"

-- the number of the line and the words of the kind, as they end the printed line
abbrev pub code_tail : CodeFault → List ℕ
code_tail fault = decimal fault.line ++ codes " " ++ code_words fault.kind
