-- The words that are printed for a fault of a CXF font, and of a text that is laid out.
use Rattle.std.specs.Prelude.{ℕ, List, ◌++◌, codes, decimal}
use Rattle.cxf_font.specs.declared.fault.CxfFault.{CxfFault}
use Rattle.cxf_font.specs.declared.fault.CxfKind.{CxfKind}
use Rattle.cxf_font.specs.declared.fault.CxfKind.TheVariants.{Syntax, Number, Memory}
use Rattle.cxf_font.specs.declared.lay_fault.LayFault.{LayFault}
use Rattle.cxf_font.specs.declared.lay_fault.LayFault.TheVariants as lay

-- the words of a kind
abbrev pub cxf_words : CxfKind → List ℕ
cxf_words Syntax = codes "syntax"
cxf_words Number = codes "number"
cxf_words Memory = codes "memory"

-- the number of the line and the words of the kind, as they end the printed line
abbrev pub cxf_tail : CxfFault → List ℕ
cxf_tail fault = decimal fault.line ++ codes " " ++ cxf_words fault.kind

-- the words of a fault of a text, without the place
abbrev pub lay_words : LayFault → List ℕ
lay_words (lay.NoGlyph place) = codes "no glyph"
lay_words lay.OutOfRange = codes "out of range"
lay_words lay.TooMany = codes "too many"
lay_words lay.Memory = codes "memory"

-- the words of the fault, and the place of the character that has no glyph, as they end the printed line
abbrev pub lay_tail : LayFault → List ℕ
lay_tail (lay.NoGlyph place) = codes "no glyph " ++ decimal place
lay_tail fault = lay_words fault
