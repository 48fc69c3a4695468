-- The words that are printed for a fault of a DXF file.
use Rattle.std.specs.Prelude.{ℕ, List, [], ◌++◌, codes, decimal}
use Rattle.dxf_outline.specs.declared.fault.DxfFault.{DxfFault}
use Rattle.dxf_outline.specs.declared.fault.DxfKind.{DxfKind}
use Rattle.dxf_outline.specs.declared.fault.DxfKind.TheVariants.{BadCode, Missing, Number, Unended, OutOfRange, TooMany, Memory}

-- the words of a kind, without the code that is missing
abbrev pub dxf_words : DxfKind → List ℕ
dxf_words BadCode = codes "bad code"
dxf_words (Missing code) = codes "missing"
dxf_words Number = codes "number"
dxf_words Unended = codes "unended"
dxf_words OutOfRange = codes "out of range"
dxf_words TooMany = codes "too many"
dxf_words Memory = codes "memory"

-- what stands behind the words: the code that is missing
abbrev pub missing_tail : DxfKind → List ℕ
missing_tail (Missing code) = codes " " ++ decimal code
missing_tail _ = []

-- the number of the pair and the words of the kind, as they end the printed line
abbrev pub dxf_tail : DxfFault → List ℕ
dxf_tail fault = decimal fault.pair ++ codes " " ++ dxf_words fault.kind ++ missing_tail fault.kind
