-- Where Done is due, or a verdict, no refusal of a reading is: each value that was needed was there.
use Rattle.std.specs.Prelude.{◌≡◌, ◌≢◌, ℕ, List, [], Option, Some, None, Result, Ok, Err, MatchResult, unwrap_or}
use Rattle.std.specs.Result.{IsErr, IsErrAnd}
use Rattle.std.proofs.Common.{refl, subst, sym}
use Rattle.grid_num.specs.Judging.{and_then}
use Rattle.grid_num.specs.declared.units.Units.{Units}
use Rattle.gouge_checker.specs.declared.verdict.Verdict.{Verdict}
use Rattle.gcode_text.specs.Moves.{moves_of}
use Rattle.gcode_text.specs.declared.state.TheConstants.{MOST_CODE_BYTES}
use Rattle.cxf_font.specs.Grammar.{font_of}
use Rattle.cxf_font.specs.Lay.{lay_of}
use Rattle.cxf_font.specs.declared.lay_fault.LayFault.{LayFault}
use Rattle.cxf_font.specs.declared.lay_fault.LayFault.TheVariants as lay
use Rattle.dxf_outline.specs.Outline.{dxf_of}
use Rattle.grid_num.specs.Units.{per_unit_of}
use Rattle.job_words.specs.declared.request.CrossWord.{CrossWord}
use Rattle.job_words.specs.declared.request.CrossWord.TheVariants as cross
use Rattle.job_words.specs.declared.request.DrawingWords.{DrawingWords}
use Rattle.job_words.specs.declared.request.FormWord.{FormWord}
use Rattle.job_words.specs.declared.request.FormWord.TheVariants as form
use Rattle.loop_join.specs.Join.{join_of}
use Rattle.loop_join.specs.Snap.{snap_of}
use Rattle.loop_join.specs.declared.joining.JoinFault.{JoinFault}
use Rattle.loop_join.specs.declared.joining.JoinFault.TheVariants as join
use Rattle.loops_text.specs.Grammar.{loops_of}
use Rattle.pbm_edges.specs.Boundary.{edges_of_pixels}
use Rattle.pbm_edges.specs.Pbm.{pbm_of}
use Rattle.pbm_edges.specs.declared.fault.FlatFault.{FlatFault}
use Rattle.pbm_edges.specs.declared.fault.FlatFault.TheVariants as flat
use Rattle.pbm_edges.specs.declared.fault.PbmFault.{PbmFault}
use Rattle.pbm_edges.specs.declared.fault.PbmFault.TheVariants as pbm
use Rattle.plane_exact.specs.declared.point.Seg.{Seg}
use Rattle.loops_text.specs.declared.reader.TheConstants.{MOST_DRAWING_BYTES}
use Rattle.shop_port.specs.Loading.{file_within}
use Rattle.shop_port.specs.declared.loading.LoadFault.{LoadFault}
use Rattle.shop_port.specs.declared.loading.LoadFault.TheVariants as load
use Rattle.engrave_core.specs.Given.{IsGivenBy}
use Rattle.engrave_core.specs.Line.{line_of}
use Rattle.engrave_core.specs.Outcome.{IfAnswered, outcome_of}
use Rattle.engrave_core.specs.Drawing.{IsDrawingOf, IsGivenByDrawing, IsGuardedResult, ReadDrawing, cxf_segments, drawing_of, dxf_segments, joined, layout_of, read_as, stored_drawing}
use Rattle.engrave_core.specs.Refusals.{file_refusal, flat_refusal, join_refusal, lay_refusal, pbm_refusal}
use Rattle.engrave_core.specs.Stored.{Files, bytes_of, code_of, or_refused, stored_code}
use Rattle.engrave_core.specs.declared.outcome.InputFault.TheVariants.{Loops, Cxf, Dxf, Code as CodeOf}
use Rattle.engrave_core.specs.declared.outcome.Outcome.{Outcome}
use Rattle.engrave_core.specs.declared.outcome.Outcome.TheVariants.{Done}
use Rattle.engrave_core.specs.declared.outcome.Outcome.TheVariants as outcome
use Rattle.engrave_core.specs.declared.outcome.Which.{Which}
use Rattle.engrave_core.specs.declared.outcome.Which.TheVariants.{Drawing, Code}
use Rattle.engrave_core.specs.declared.refusal.Refusal.{Refusal}
use Rattle.engrave_core.specs.declared.refusal.Refusal.TheVariants.{NotClear, Usage, Input, Absent, ReadFault, Memory}

pub refusal_is_not_done : (refusal : Refusal) → Done ≡ outcome_of refusal → ⊥
refusal_is_not_done (NotClear verdict) is = cc
refusal_is_not_done Usage is = cc
refusal_is_not_done (Input fault) is = cc
refusal_is_not_done (Absent which) is = cc
refusal_is_not_done ReadFault is = cc
refusal_is_not_done Memory is = cc

pub record IsFound {A : Type 0} (Gives : A → Outcome → List ℕ → Type 0) (r : Result A Refusal) (text : List ℕ) : Type 0 where
  pub value : A
  pub is : r ≡ Ok value
  pub gives : Gives value Done text

pub found : {A : Type 0} (Gives : A → Outcome → List ℕ → Type 0) (r : Result A Refusal) (text : List ℕ)
    → IsGivenBy Gives r Done text → IsFound Gives r text
found Gives (Ok x) text given = record { value = x; is = refl; gives = given }
found Gives (Err refusal) text given = absurd (refusal_is_not_done refusal given.refused)

-- ---- and where a verdict is due, no refusal of a reading is

-- reading gives a value, or a refusal that is no verdict
abbrev pub GivesNoVerdict : {A : Type 0} → Result A Refusal → Type 0
GivesNoVerdict (Ok x) = Unit {0}
GivesNoVerdict (Err refusal) = (verdict : Verdict) → refusal ≢ NotClear verdict

pub record IsFoundFor {A : Type 0} (Gives : A → Outcome → List ℕ → Type 0) (r : Result A Refusal) (verdict : Verdict) (text : List ℕ) : Type 0 where
  pub value : A
  pub is : r ≡ Ok value
  pub gives : Gives value (outcome.NotClear verdict) text

no_verdict : (refusal : Refusal) (verdict : Verdict) → ((v : Verdict) → refusal ≢ NotClear v) → outcome.NotClear verdict ≡ outcome_of refusal → ⊥
no_verdict (NotClear v) verdict other is = other v refl
no_verdict Usage verdict other is = cc
no_verdict (Input fault) verdict other is = cc
no_verdict (Absent which) verdict other is = cc
no_verdict ReadFault verdict other is = cc
no_verdict Memory verdict other is = cc

pub found_for : {A : Type 0} (Gives : A → Outcome → List ℕ → Type 0) (r : Result A Refusal) (verdict : Verdict) (text : List ℕ)
    → GivesNoVerdict r → IsGivenBy Gives r (outcome.NotClear verdict) text → IsFoundFor Gives r verdict text
found_for Gives (Ok x) verdict text other given = record { value = x; is = refl; gives = given }
found_for Gives (Err refusal) verdict text other given = absurd (no_verdict refusal verdict other given.refused)

or_refused_gives_none : {A E : Type 0} (refusal : E → Refusal) → ((e : E) (verdict : Verdict) → refusal e ≢ NotClear verdict) → (r : Result A E) → GivesNoVerdict (or_refused refusal r)
or_refused_gives_none refusal other (Ok x) = tt
or_refused_gives_none refusal other (Err e) = other e

then_gives_none : {A B : Type 0} (r : Result A Refusal) (next : A → Result B Refusal) → GivesNoVerdict r → ((x : A) → GivesNoVerdict (next x)) → GivesNoVerdict (and_then r next)
then_gives_none (Ok x) next other later = later x
then_gives_none (Err refusal) next other later = other

file_gives_none : (which : Which) (fault : LoadFault) (verdict : Verdict) → file_refusal which fault ≢ NotClear verdict
file_gives_none which load.Absent verdict is = cc
file_gives_none which load.ReadFault verdict is = cc
file_gives_none which load.TooLong verdict is = cc
file_gives_none which load.Memory verdict is = cc

join_gives_none : (fault : JoinFault) (verdict : Verdict) → join_refusal fault ≢ NotClear verdict
join_gives_none (join.Open p) verdict is = cc
join_gives_none join.Memory verdict is = cc

lay_gives_none : (fault : LayFault) (verdict : Verdict) → lay_refusal fault ≢ NotClear verdict
lay_gives_none (lay.NoGlyph place) verdict is = cc
lay_gives_none lay.OutOfRange verdict is = cc
lay_gives_none lay.TooMany verdict is = cc
lay_gives_none lay.Memory verdict is = cc

pbm_gives_none : (fault : PbmFault) (verdict : Verdict) → pbm_refusal fault ≢ NotClear verdict
pbm_gives_none pbm.Magic verdict is = cc
pbm_gives_none pbm.Header verdict is = cc
pbm_gives_none pbm.Size verdict is = cc
pbm_gives_none pbm.Short verdict is = cc
pbm_gives_none pbm.Pixel verdict is = cc
pbm_gives_none pbm.Memory verdict is = cc

flat_gives_none : (fault : FlatFault) (verdict : Verdict) → flat_refusal fault ≢ NotClear verdict
flat_gives_none flat.OutOfRange verdict is = cc
flat_gives_none flat.TooMany verdict is = cc
flat_gives_none flat.Memory verdict is = cc

joined_gives_none : (skipped : Option ℕ) (segs : List Seg) → GivesNoVerdict (joined skipped segs)
joined_gives_none skipped segs =
    then_gives_none (or_refused join_refusal (join_of segs)) _ (or_refused_gives_none join_refusal join_gives_none (join_of segs)) (λ loops. tt)

read_gives_none : (form : FormWord) (shape : DrawingWords) (text : List ℕ) → GivesNoVerdict (read_as form shape text)
read_gives_none form.Loops shape text =
    then_gives_none (or_refused (λ fault. Input (Loops fault)) (loops_of text)) _
    (or_refused_gives_none (λ fault. Input (Loops fault)) (λ fault verdict is. cc) (loops_of text)) (λ loops. tt)
read_gives_none form.Dxf shape text =
    let drawn = dxf_of (per_unit_of shape.units) shape.chord text in
    then_gives_none (dxf_segments shape text) (λ read. joined read.skipped read.segments)
    (then_gives_none (or_refused (λ fault. Input (Dxf fault)) drawn) _ (or_refused_gives_none (λ fault. Input (Dxf fault)) (λ fault verdict is. cc) drawn) (λ drawn. tt))
    (λ read. joined_gives_none read.skipped read.segments)
read_gives_none form.Cxf shape text =
    then_gives_none (cxf_segments shape text) (λ read. joined read.skipped read.segments)
    (then_gives_none (or_refused (λ fault. Input (Cxf fault)) (font_of text)) _
    (or_refused_gives_none (λ fault. Input (Cxf fault)) (λ fault verdict is. cc) (font_of text))
    (λ font. let laid = lay_of font (unwrap_or shape.text []) (layout_of shape) shape.chord in
    then_gives_none (or_refused lay_refusal laid) _ (or_refused_gives_none lay_refusal lay_gives_none laid) (λ segs. tt)))
    (λ read. joined_gives_none read.skipped read.segments)
read_gives_none form.Pbm shape text =
    then_gives_none (or_refused pbm_refusal (pbm_of text)) _ (or_refused_gives_none pbm_refusal pbm_gives_none (pbm_of text))
    (λ map. then_gives_none (or_refused flat_refusal (edges_of_pixels map shape.pixel)) (joined None)
    (or_refused_gives_none flat_refusal flat_gives_none (edges_of_pixels map shape.pixel)) (joined_gives_none None))

stored_drawing_gives_none : (files : Files) (shape : DrawingWords) → GivesNoVerdict (stored_drawing files shape)
unfolding stored_drawing drawing_of
stored_drawing_gives_none files shape =
    then_gives_none (bytes_of Drawing MOST_DRAWING_BYTES (files shape.drawing)) (drawing_of shape)
    (or_refused_gives_none (file_refusal Drawing) (file_gives_none Drawing) (file_within MOST_DRAWING_BYTES (files shape.drawing)))
    (λ text. read_gives_none shape.form shape text)

guarded_gives_none : (word : CrossWord) (drawing answer : Result ReadDrawing Refusal) → GivesNoVerdict drawing → IsGuardedResult word drawing answer → GivesNoVerdict answer
guarded_gives_none word (Err refusal) answer other is = subst GivesNoVerdict (sym is) other
guarded_gives_none cross.Refuse (Ok drawing) (Ok answer) other is = tt
guarded_gives_none cross.Refuse (Ok drawing) (Err refusal) other is = λ verdict same. let crossed = is.is in cc
guarded_gives_none cross.Evenodd (Ok drawing) answer other is = subst GivesNoVerdict (sym is) other

pub drawing_gives_none : (files : Files) (shape : DrawingWords) (answer : Result ReadDrawing Refusal) → IsDrawingOf files shape answer → GivesNoVerdict answer
unfolding IsDrawingOf
drawing_gives_none files shape answer is = guarded_gives_none shape.cross (stored_drawing files shape) answer (stored_drawing_gives_none files shape) is

pub code_gives_none : (files : Files) (units : Units) (name : List ℕ) → GivesNoVerdict (stored_code files units name)
unfolding stored_code code_of
code_gives_none files units name =
    then_gives_none (bytes_of Code MOST_CODE_BYTES (files name)) (code_of units)
    (or_refused_gives_none (file_refusal Code) (file_gives_none Code) (file_within MOST_CODE_BYTES (files name)))
    (λ text. or_refused_gives_none (λ fault. Input (CodeOf fault)) (λ fault verdict is. cc) (moves_of units text))

-- ---- the same of a drawing

pub record IsFoundDrawing (Gives : ReadDrawing → Outcome → List ℕ → Type 0) (files : Files) (shape : DrawingWords) (outcome : Outcome) (text : List ℕ) : Type 0 where
  pub drawing : ReadDrawing
  pub is : IsDrawingOf files shape (Ok drawing)
  pub gives : Gives drawing outcome text

pub found_drawing : (Gives : ReadDrawing → Outcome → List ℕ → Type 0) (files : Files) (shape : DrawingWords) (text : List ℕ)
    → IsGivenByDrawing Gives files shape Done text → IsFoundDrawing Gives files shape Done text
found_drawing Gives files shape text due = go due.answer due.is due.given
  where
    go : (answer : Result ReadDrawing Refusal) → IsDrawingOf files shape answer → IsGivenBy Gives answer Done text → IsFoundDrawing Gives files shape Done text
    go (Ok drawing) is given = record { drawing = drawing; is = is; gives = given }
    go (Err refusal) is given = absurd (refusal_is_not_done refusal given.refused)

pub found_drawing_for : (Gives : ReadDrawing → Outcome → List ℕ → Type 0) (files : Files) (shape : DrawingWords) (verdict : Verdict) (text : List ℕ)
    → IsGivenByDrawing Gives files shape (outcome.NotClear verdict) text → IsFoundDrawing Gives files shape (outcome.NotClear verdict) text
found_drawing_for Gives files shape verdict text due = go due.answer due.is due.given
  where
    go : (answer : Result ReadDrawing Refusal) → IsDrawingOf files shape answer → IsGivenBy Gives answer (outcome.NotClear verdict) text → IsFoundDrawing Gives files shape (outcome.NotClear verdict) text
    go (Ok drawing) is given = record { drawing = drawing; is = is; gives = given }
    go (Err refusal) is given = absurd (no_verdict refusal verdict (drawing_gives_none files shape (Err refusal) is) given.refused)

-- a result that is a refusal is answered by it, where it is due
pub refused_is_answered : {A : Type 0} (Is : A → Type 0) (Due : Outcome → List ℕ → Type 0) (r : Result A Refusal) (refusal : Refusal) → IsErr r → IsErrAnd r (λ given. given ≡ refusal)
    → IfAnswered (outcome_of refusal) (Due (outcome_of refusal) (line_of (outcome_of refusal)))
    → MatchResult r Is (λ given. IfAnswered (outcome_of given) (Due (outcome_of given) (line_of (outcome_of given))))
refused_is_answered Is Due (Ok x) refusal fails is due = cc
refused_is_answered Is Due (Err given) refusal fails is due = subst (λ g. IfAnswered (outcome_of g) (Due (outcome_of g) (line_of (outcome_of g)))) (sym is) due
