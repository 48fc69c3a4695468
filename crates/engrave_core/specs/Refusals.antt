-- The refusal that reports a fault, and which refusals there are by what is read, whatever the files have.
use Rattle.std.specs.Prelude.{◌≡◌, ◌≢◌, ◌<◌, ◌⊎◌}
use Rattle.cxf_font.specs.declared.fault.CxfFault.{CxfFault}
use Rattle.cxf_font.specs.declared.fault.CxfKind.{CxfKind}
use Rattle.cxf_font.specs.declared.fault.CxfKind.TheVariants as cxf
use Rattle.cxf_font.specs.declared.lay_fault.LayFault.{LayFault}
use Rattle.cxf_font.specs.declared.lay_fault.LayFault.TheVariants as lay
use Rattle.dxf_outline.specs.declared.fault.DxfFault.{DxfFault}
use Rattle.dxf_outline.specs.declared.fault.DxfKind.{DxfKind}
use Rattle.dxf_outline.specs.declared.fault.DxfKind.TheVariants as dxf
use Rattle.job_words.specs.declared.request.CrossWord.{CrossWord}
use Rattle.job_words.specs.declared.request.CrossWord.TheVariants as cross
use Rattle.job_words.specs.declared.request.DrawingWords.{DrawingWords}
use Rattle.job_words.specs.declared.request.FormWord.{FormWord}
use Rattle.job_words.specs.declared.request.FormWord.TheVariants as form
use Rattle.loop_join.specs.declared.joining.JoinFault.{JoinFault}
use Rattle.loop_join.specs.declared.joining.JoinFault.TheVariants as join
use Rattle.loops_text.specs.declared.fault.LoopsKind.TheVariants as loops
use Rattle.pbm_edges.specs.declared.fault.FlatFault.{FlatFault}
use Rattle.pbm_edges.specs.declared.fault.FlatFault.TheVariants as flat
use Rattle.pbm_edges.specs.declared.fault.PbmFault.{PbmFault}
use Rattle.pbm_edges.specs.declared.fault.PbmFault.TheVariants as pbm
use Rattle.gcode_text.specs.declared.fault.FinishFault.{FinishFault}
use Rattle.gcode_text.specs.declared.fault.FinishFault.TheVariants as finish
use Rattle.job_words.specs.declared.fault.WordsFault.{WordsFault}
use Rattle.job_words.specs.declared.fault.WordsFault.TheVariants as words
use Rattle.loops_text.specs.declared.fault.LoopsFault.{LoopsFault}
use Rattle.loops_text.specs.declared.fault.LoopsKind.{LoopsKind}
use Rattle.shop_port.specs.declared.loading.LoadFault.{LoadFault}
use Rattle.shop_port.specs.declared.loading.LoadFault.TheVariants as load
use Rattle.engrave_core.specs.declared.refusal.Refusal.{Refusal}
use Rattle.engrave_core.specs.declared.refusal.Refusal.TheVariants as refusal
use Rattle.engrave_core.specs.declared.stream.StreamFault.{StreamFault}
use Rattle.engrave_core.specs.declared.stream.StreamFault.TheVariants as stream
use Rattle.carve_plan.specs.declared.fault.PlanFault.{PlanFault}
use Rattle.carve_plan.specs.declared.fault.PlanFault.TheVariants as plan
use Rattle.coverage_report.specs.declared.fault.CoverFault.{CoverFault}
use Rattle.coverage_report.specs.declared.fault.CoverFault.TheVariants as cover
use Rattle.cleanup_pocket.specs.declared.fault.PocketFault.{PocketFault}
use Rattle.cleanup_pocket.specs.declared.fault.PocketFault.TheVariants as mill
use Rattle.code_repair.specs.declared.fault.RepairFault.{RepairFault}
use Rattle.code_repair.specs.declared.fault.RepairFault.TheVariants as repair
use Rattle.tangent_disc.specs.declared.contact.ContactFault.{ContactFault}
use Rattle.tangent_disc.specs.declared.contact.ContactFault.TheVariants as contact
use Rattle.engrave_core.specs.declared.outcome.InputFault.TheVariants.{TooLong, Loops, Cxf, Dxf, Pbm, Lay, Pixels, Open, Cross, StepTooFine, TooMany, Code as CodeOf}
use Rattle.engrave_core.specs.declared.outcome.Kind.TheVariants.{Contacts, Nodes, Chains, Points, Moves}
use Rattle.engrave_core.specs.declared.outcome.Outcome.{Outcome}
use Rattle.engrave_core.specs.declared.outcome.Outcome.TheVariants.{Input, Absent, ReadFault, Memory}
use Rattle.engrave_core.specs.declared.outcome.Which.{Which}
use Rattle.engrave_core.specs.declared.outcome.Which.TheVariants.{Drawing, Code}

-- ---- the refusal that reports a fault

-- the refusal of words that make no request
abbrev pub words_refusal : WordsFault → Refusal
words_refusal words.Usage = refusal.Usage
words_refusal words.Memory = refusal.Memory

-- the refusal of a file that wasn't loaded
abbrev pub file_refusal : Which → LoadFault → Refusal
file_refusal which load.Absent = refusal.Absent which
file_refusal which load.ReadFault = refusal.ReadFault
file_refusal which load.TooLong = refusal.Input (TooLong which)
file_refusal which load.Memory = refusal.Memory

abbrev loops_refusal_by : LoopsKind → LoopsFault → Refusal
loops_refusal_by loops.Memory fault = refusal.Memory
loops_refusal_by kind fault = refusal.Input (Loops fault)

-- the refusal of a text that has no drawing in loops form
abbrev pub loops_refusal : LoopsFault → Refusal
loops_refusal fault = loops_refusal_by fault.kind fault

abbrev cxf_refusal_by : CxfKind → CxfFault → Refusal
cxf_refusal_by cxf.Memory fault = refusal.Memory
cxf_refusal_by kind fault = refusal.Input (Cxf fault)

-- the refusal of a file that is no CXF font
abbrev pub cxf_refusal : CxfFault → Refusal
cxf_refusal fault = cxf_refusal_by fault.kind fault

-- the refusal of a text that can't be laid out
abbrev pub lay_refusal : LayFault → Refusal
lay_refusal lay.Memory = refusal.Memory
lay_refusal fault = refusal.Input (Lay fault)

abbrev dxf_refusal_by : DxfKind → DxfFault → Refusal
dxf_refusal_by dxf.Memory fault = refusal.Memory
dxf_refusal_by kind fault = refusal.Input (Dxf fault)

-- the refusal of a DXF file that has no outline
abbrev pub dxf_refusal : DxfFault → Refusal
dxf_refusal fault = dxf_refusal_by fault.kind fault

-- the refusal of a file that is no bitmap
abbrev pub pbm_refusal : PbmFault → Refusal
pbm_refusal pbm.Memory = refusal.Memory
pbm_refusal fault = refusal.Input (Pbm fault)

-- the refusal of a bitmap whose boundary doesn't fit the grid
abbrev pub flat_refusal : FlatFault → Refusal
flat_refusal flat.Memory = refusal.Memory
flat_refusal fault = refusal.Input (Pixels fault)

-- the refusal of segments that can't be joined
abbrev pub join_refusal : JoinFault → Refusal
join_refusal (join.Open p) = refusal.Input (Open p)
join_refusal join.Memory = refusal.Memory

-- the refusal of a text that is no G-code program of the profile
abbrev pub code_refusal : FinishFault → Refusal
code_refusal (finish.Code fault) = refusal.Input (CodeOf fault)
code_refusal finish.Memory = refusal.Memory

-- the refusal of a stored G-code program that has no verdict
abbrev pub stream_refusal : StreamFault → Refusal
stream_refusal stream.Absent = refusal.Absent Code
stream_refusal stream.ReadFault = refusal.ReadFault
stream_refusal stream.TooLong = refusal.Input (TooLong Code)
stream_refusal (stream.Code fault) = refusal.Input (CodeOf fault)

-- the refusal of a step by which a drawing's contacts can't be listed
abbrev pub contact_refusal : ContactFault → Refusal
contact_refusal (contact.StepTooFine edge) = refusal.Input (StepTooFine edge)
contact_refusal contact.TooMany = refusal.Input (TooMany Contacts)
contact_refusal contact.Memory = refusal.Memory

-- the refusal of a drawing that has no plan
abbrev pub plan_refusal : PlanFault → Refusal
plan_refusal (plan.Contact fault) = contact_refusal fault
plan_refusal plan.TooManyNodes = refusal.Input (TooMany Nodes)
plan_refusal plan.TooManyChains = refusal.Input (TooMany Chains)
plan_refusal plan.Memory = refusal.Memory

-- the refusal of a report on uncut points
abbrev pub cover_refusal : CoverFault → Refusal
cover_refusal cover.TooManyPoints = refusal.Input (TooMany Points)
cover_refusal cover.Memory = refusal.Memory

-- the refusal of a repair
abbrev pub repair_refusal : RepairFault → Refusal
repair_refusal repair.TooMany = refusal.Input (TooMany Moves)
repair_refusal repair.Memory = refusal.Memory

-- the refusal of the chains of a floor
abbrev pub mill_refusal : PocketFault → Refusal
mill_refusal mill.TooMany = refusal.Input (TooMany Chains)
mill_refusal mill.Memory = refusal.Memory

-- ---- which refusals there are

-- the refusals of a file
abbrev pub IsRefusalOfFile : Which → Outcome → Type 0
IsRefusalOfFile which (Input (TooLong other)) = other ≡ which
IsRefusalOfFile which (Absent other) = other ≡ which
IsRefusalOfFile which ReadFault = Unit {0}
IsRefusalOfFile which Memory = Unit {0}
IsRefusalOfFile which outcome = ⊥

-- the refusals of a text in loops form; running out of memory isn't reported as a fault of the text
abbrev pub IsRefusalOfLoops : Outcome → Type 0
IsRefusalOfLoops (Input (Loops fault)) = fault.kind ≢ loops.Memory
IsRefusalOfLoops Memory = Unit {0}
IsRefusalOfLoops outcome = ⊥

-- the refusals of a CXF font, and of laying out a text in it
abbrev pub IsRefusalOfCxf : Outcome → Type 0
IsRefusalOfCxf (Input (Cxf fault)) = fault.kind ≢ cxf.Memory
IsRefusalOfCxf (Input (Lay fault)) = fault ≢ lay.Memory
IsRefusalOfCxf Memory = Unit {0}
IsRefusalOfCxf outcome = ⊥

-- the refusals of a DXF file
abbrev pub IsRefusalOfDxf : Outcome → Type 0
IsRefusalOfDxf (Input (Dxf fault)) = fault.kind ≢ dxf.Memory
IsRefusalOfDxf Memory = Unit {0}
IsRefusalOfDxf outcome = ⊥

-- the refusals of a bitmap
abbrev pub IsRefusalOfPbm : Outcome → Type 0
IsRefusalOfPbm (Input (Pbm fault)) = fault ≢ pbm.Memory
IsRefusalOfPbm (Input (Pixels fault)) = fault ≢ flat.Memory
IsRefusalOfPbm Memory = Unit {0}
IsRefusalOfPbm outcome = ⊥

-- the refusals of loose segments
abbrev pub IsRefusalOfSegments : Outcome → Type 0
IsRefusalOfSegments (Input (Open p)) = Unit {0}
IsRefusalOfSegments Memory = Unit {0}
IsRefusalOfSegments outcome = ⊥

-- the refusals of a drawing's file by its form
abbrev pub IsRefusalOfForm : FormWord → Outcome → Type 0
IsRefusalOfForm form.Loops outcome = IsRefusalOfLoops outcome
IsRefusalOfForm form.Dxf outcome = IsRefusalOfDxf outcome ⊎ IsRefusalOfSegments outcome
IsRefusalOfForm form.Cxf outcome = IsRefusalOfCxf outcome ⊎ IsRefusalOfSegments outcome
IsRefusalOfForm form.Pbm outcome = IsRefusalOfPbm outcome ⊎ IsRefusalOfSegments outcome

-- the refusals of the file of open lines, by its form
abbrev pub IsRefusalOfOpenForm : FormWord → Outcome → Type 0
IsRefusalOfOpenForm form.Dxf outcome = IsRefusalOfDxf outcome
IsRefusalOfOpenForm form.Cxf outcome = IsRefusalOfCxf outcome
IsRefusalOfOpenForm form outcome = ⊥

-- the refusals of strokes: of their file, and of what it says by its form
abbrev pub IsRefusalOfStroked : FormWord → Outcome → Type 0
IsRefusalOfStroked form outcome = IsRefusalOfFile Drawing outcome ⊎ IsRefusalOfOpenForm form outcome

-- the refusals of a drawing whose edges may cross
abbrev pub IsRefusalOfEdges : CrossWord → Outcome → Type 0
IsRefusalOfEdges cross.Refuse (Input (Cross i j)) = i < j
IsRefusalOfEdges word Memory = Unit {0}
IsRefusalOfEdges word outcome = ⊥

-- the refusals of a text as a G-code program
abbrev pub IsRefusalOfCode : Outcome → Type 0
IsRefusalOfCode (Input (CodeOf fault)) = Unit {0}
IsRefusalOfCode Memory = Unit {0}
IsRefusalOfCode outcome = ⊥

-- the refusals of the drawing that the words name: of its file, of what the file says, and of its edges
abbrev pub IsRefusalOfDrawing : DrawingWords → Outcome → Type 0
IsRefusalOfDrawing shape outcome = IsRefusalOfFile Drawing outcome ⊎ (IsRefusalOfForm shape.form outcome ⊎ IsRefusalOfEdges shape.cross outcome)

-- the refusals of the file that `--code` names
abbrev pub IsRefusalOfStoredCode : Outcome → Type 0
IsRefusalOfStoredCode outcome = IsRefusalOfFile Code outcome ⊎ IsRefusalOfCode outcome

-- the refusals of a step between contacts
abbrev pub IsRefusalOfContacts : Outcome → Type 0
IsRefusalOfContacts (Input (StepTooFine edge)) = Unit {0}
IsRefusalOfContacts (Input (TooMany Contacts)) = Unit {0}
IsRefusalOfContacts Memory = Unit {0}
IsRefusalOfContacts outcome = ⊥

-- the refusals of a plan
abbrev pub IsRefusalOfPlan : Outcome → Type 0
IsRefusalOfPlan (Input (StepTooFine edge)) = Unit {0}
IsRefusalOfPlan (Input (TooMany Contacts)) = Unit {0}
IsRefusalOfPlan (Input (TooMany Nodes)) = Unit {0}
IsRefusalOfPlan (Input (TooMany Chains)) = Unit {0}
IsRefusalOfPlan Memory = Unit {0}
IsRefusalOfPlan outcome = ⊥

-- the refusals of a report on uncut points
abbrev pub IsRefusalOfReport : Outcome → Type 0
IsRefusalOfReport (Input (TooMany Points)) = Unit {0}
IsRefusalOfReport Memory = Unit {0}
IsRefusalOfReport outcome = ⊥

-- the refusals of milling a floor: of its chains, and of the report on it
abbrev pub IsRefusalOfMilling : Outcome → Type 0
IsRefusalOfMilling (Input (TooMany Chains)) = Unit {0}
IsRefusalOfMilling (Input (TooMany Points)) = Unit {0}
IsRefusalOfMilling Memory = Unit {0}
IsRefusalOfMilling outcome = ⊥

-- the refusals of a repair
abbrev pub IsRefusalOfVisits : Outcome → Type 0
IsRefusalOfVisits (Input (TooMany Moves)) = Unit {0}
IsRefusalOfVisits Memory = Unit {0}
IsRefusalOfVisits outcome = ⊥
