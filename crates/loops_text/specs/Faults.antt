-- The words that are printed for a fault of a text in loops form.
use Rattle.std.specs.Prelude.{ℕ, List, ◌++◌, codes, decimal}
use Rattle.loops_text.specs.declared.fault.LoopsFault.{LoopsFault}
use Rattle.loops_text.specs.declared.fault.LoopsKind.{LoopsKind}
use Rattle.loops_text.specs.declared.fault.LoopsKind.TheVariants.{Syntax, Short, SamePoint, OutOfRange, TooMany, Memory}

-- the words of a kind
abbrev pub loops_words : LoopsKind → List ℕ
loops_words Syntax = codes "syntax"
loops_words Short = codes "short"
loops_words SamePoint = codes "same point"
loops_words OutOfRange = codes "out of range"
loops_words TooMany = codes "too many"
loops_words Memory = codes "memory"

-- the place and the words of the kind, as they end the printed line
abbrev pub loops_tail : LoopsFault → List ℕ
loops_tail fault = decimal fault.at ++ codes " " ++ loops_words fault.kind
