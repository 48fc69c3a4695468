-- The line that reports a refusal.
use Rattle.std.specs.Prelude.{ℕ, List, [], ◌++◌, codes, decimal}
use Rattle.std.specs.Fmt.{signed_decimal}
use Rattle.cxf_font.specs.Faults.{cxf_tail, lay_tail}
use Rattle.cxf_font.specs.declared.fault.CxfFault.{CxfFault}
use Rattle.cxf_font.specs.declared.lay_fault.LayFault.{LayFault}
use Rattle.dxf_outline.specs.Faults.{dxf_tail}
use Rattle.dxf_outline.specs.declared.fault.DxfFault.{DxfFault}
use Rattle.engrave_core.specs.declared.outcome.InputFault.{InputFault}
use Rattle.engrave_core.specs.declared.outcome.InputFault.TheVariants.{TooLong, Loops, Cxf, Dxf, Pbm, Lay, Pixels, Open, Cross, StepTooFine, TooMany, Code}
use Rattle.engrave_core.specs.declared.outcome.Kind.{Kind}
use Rattle.engrave_core.specs.declared.outcome.Kind.TheVariants.{Contacts, Nodes, Chains, Points, Moves}
use Rattle.engrave_core.specs.declared.outcome.Outcome.{Outcome}
use Rattle.engrave_core.specs.declared.outcome.Outcome.TheVariants.{Done, NotClear, Usage, Input, Absent, ReadFault, WriteFault, Memory}
use Rattle.engrave_core.specs.declared.outcome.Which.{Which}
use Rattle.engrave_core.specs.declared.outcome.Which.TheVariants as which
use Rattle.gcode_text.specs.Faults.{code_tail}
use Rattle.gcode_text.specs.declared.fault.CodeFault.{CodeFault}
use Rattle.gouge_checker.specs.declared.verdict.Verdict.{Verdict}
use Rattle.gouge_checker.specs.declared.verdict.Verdict.TheVariants as verdict
use Rattle.loops_text.specs.Faults.{loops_tail}
use Rattle.loops_text.specs.declared.fault.LoopsFault.{LoopsFault}
use Rattle.pbm_edges.specs.Faults.{flat_words, pbm_words}
use Rattle.plane_exact.specs.Plane.{GridPoint}

-- what is wrong with a file, and the option that names it
abbrev pub which_line : List ℕ → Which → List ℕ
which_line refusal which.Drawing = refusal ++ codes " drawing\n"
which_line refusal which.Code = refusal ++ codes " code\n"

-- input loops AT WORDS
abbrev pub loops_line : LoopsFault → List ℕ
loops_line fault = codes "input loops " ++ loops_tail fault ++ codes "\n"

-- input dxf pair PAIR WORDS
abbrev pub dxf_line : DxfFault → List ℕ
dxf_line fault = codes "input dxf pair " ++ dxf_tail fault ++ codes "\n"

-- input cxf line LINE WORDS
abbrev pub cxf_line : CxfFault → List ℕ
cxf_line fault = codes "input cxf line " ++ cxf_tail fault ++ codes "\n"

-- input lay WORDS
abbrev pub lay_line : LayFault → List ℕ
lay_line fault = codes "input lay " ++ lay_tail fault ++ codes "\n"

-- input open X,Y
abbrev pub open_line : GridPoint → List ℕ
open_line p = codes "input open " ++ signed_decimal p.x ++ codes "," ++ signed_decimal p.y ++ codes "\n"

-- input code line LINE WORDS
abbrev pub code_line : CodeFault → List ℕ
code_line fault = codes "input code line " ++ code_tail fault ++ codes "\n"

-- what there is too much of
abbrev pub kind_words : Kind → List ℕ
kind_words Contacts = codes "contacts"
kind_words Nodes = codes "nodes"
kind_words Chains = codes "chains"
kind_words Points = codes "points"
kind_words Moves = codes "moves"

-- the line of a fault of the input
abbrev pub input_line : InputFault → List ℕ
input_line (TooLong which) = which_line (codes "input too long") which
input_line (Loops fault) = loops_line fault
input_line (Cxf fault) = cxf_line fault
input_line (Dxf fault) = dxf_line fault
input_line (Pbm fault) = codes "input pbm " ++ pbm_words fault ++ codes "\n"
input_line (Lay fault) = lay_line fault
input_line (Pixels fault) = codes "input pixels " ++ flat_words fault ++ codes "\n"
input_line (Open p) = open_line p
input_line (Cross i j) = codes "input cross " ++ decimal i ++ codes "," ++ decimal j ++ codes "\n"
input_line (StepTooFine edge) = codes "input step too fine " ++ decimal edge ++ codes "\n"
input_line (TooMany kind) = codes "input too many " ++ kind_words kind ++ codes "\n"
input_line (Code fault) = code_line fault

-- the line of a verdict that isn't `Clear`
abbrev pub verdict_line : Verdict → List ℕ
verdict_line verdict.Clear = []
verdict_line (verdict.TooDeep line) = codes "line " ++ decimal line ++ codes " too deep\n"
verdict_line (verdict.Gouge line edge) = codes "line " ++ decimal line ++ codes " gouge edge " ++ decimal edge ++ codes "\n"
verdict_line (verdict.Outside line) = codes "line " ++ decimal line ++ codes " outside\n"

-- the line of a refusal; `Done`, `WriteFault` and `Memory` have none
abbrev pub line_of : Outcome → List ℕ
line_of Done = []
line_of (NotClear verdict) = verdict_line verdict
line_of Usage = codes "usage\n"
line_of (Input fault) = input_line fault
line_of (Absent which) = which_line (codes "absent") which
line_of ReadFault = codes "read fault\n"
line_of WriteFault = []
line_of Memory = []
