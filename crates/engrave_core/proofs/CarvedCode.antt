-- What `carve` writes is good, and its refusals are those of the plan and of the report.
use Rattle.std.specs.Prelude.{◌≡◌, ◌≤◌, ℕ, List, Ok}
use Rattle.std.proofs.Common.{ap, refl, subst, sym, ◌∙◌, inl, inr}
use Rattle.carve_plan.proofs.Planned.{plan_carves, plan_within}
use Rattle.carve_plan.specs.Plan.{AskedPocket, IsPlan}
use Rattle.gcode_text.specs.Moves.{moves_of}
use Rattle.coverage_report.specs.Report.{IsCoverFault, IsReportOn}
use Rattle.coverage_report.specs.declared.fault.CoverFault.{CoverFault}
use Rattle.coverage_report.specs.declared.fault.CoverFault.TheVariants.{TooManyPoints, Memory}
use Rattle.gcode_text.specs.Path.{IsReadBack, chain_moves, job_note, path_text, program_text}
use Rattle.gcode_text.specs.declared.job.Job.{Job}
use Rattle.job_words.specs.declared.request.DrawingWords.{DrawingWords}
use Rattle.plane_exact.specs.Nodes.{AreWithinLimits, GridNode}
use Rattle.plane_exact.specs.Plane.{GridPoint}
use Rattle.plane_exact.specs.Uncut.{UncutPoints}
use Rattle.plane_exact.specs.declared.moves.LineMove.{LineMove}
use Rattle.engrave_core.specs.Commands.Carve.{IsCarvedOrRefused, IsDueOfCarve, StoresWellCarved}
use Rattle.engrave_core.specs.Programs.{IsProgramOf, IsUnprogrammed}
use Rattle.engrave_core.specs.Drawing.{IsDrawingOf, ReadDrawing}
use Rattle.engrave_core.specs.Line.{line_of}
use Rattle.engrave_core.specs.Outcome.{IfAnswered, outcome_of}
use Rattle.engrave_core.specs.Refusals.{cover_refusal, plan_refusal}
use Rattle.engrave_core.specs.Stored.{Files}
use Rattle.engrave_core.specs.declared.outcome.Outcome.TheVariants.{Done}
use Rattle.engrave_core.proofs.Done.{found_drawing, refusal_is_not_done}

-- a fault of the report is answered by its refusal, where there is a plan
pub unreported : (job : Job) (pitch : ℕ) (asked : AskedPocket) (loops : List (List GridPoint)) (plan : List (List GridNode)) (fault : CoverFault)
    → IsPlan loops job.bit job.limit job.step asked plan → IsCoverFault loops pitch fault
    → IfAnswered (outcome_of (cover_refusal fault)) (IsUnprogrammed job pitch asked loops (outcome_of (cover_refusal fault)) (line_of (outcome_of (cover_refusal fault))))
unreported job pitch asked loops plan TooManyPoints is many =
    inr (record {
      plan = plan;
      is = is;
      many = many;
      refuses = record { refused = refl; line = refl };
    })
unreported job pitch asked loops plan Memory is many = tt

carved_of : (files : Files) (shape : DrawingWords) (job : Job) (pitch : ℕ) (asked : AskedPocket) (text : List ℕ) (drawing : ReadDrawing) → IsDrawingOf files shape (Ok drawing)
    → IsCarvedOrRefused job pitch asked drawing.loops Done text → StoresWellCarved files shape job pitch text
carved_of files shape job pitch asked text drawing is (inl carved) = record { drawing = drawing; is = is; good = carved.program.good }
carved_of files shape job pitch asked text drawing is (inr (inl refused)) = absurd (refusal_is_not_done (plan_refusal refused.fault) refused.refuses.refused)
carved_of files shape job pitch asked text drawing is (inr (inr refused)) = absurd (refusal_is_not_done (cover_refusal TooManyPoints) refused.refuses.refused)

-- what is due with Done is a good program
pub carved_is_good : (files : Files) (shape : DrawingWords) (job : Job) (pitch : ℕ) (asked : AskedPocket) (text : List ℕ)
    → IsDueOfCarve files shape job pitch asked Done text → StoresWellCarved files shape job pitch text
carved_is_good files shape job pitch asked text due =
    let read = found_drawing _ files shape text due in
    carved_of files shape job pitch asked text read.drawing read.is read.gives

-- a plan, seen as chains, is within the limits of a path
pub plan_is_within : (job : Job) (asked : AskedPocket) (loops : List (List GridPoint)) (plan given : List (List GridNode)) → given ≡ plan
    → IsPlan loops job.bit job.limit job.step asked plan → AreWithinLimits given
plan_is_within job asked loops plan given given_is is = subst AreWithinLimits (sym given_is) (plan_within loops job.bit job.limit job.step asked plan is)

-- the text of a plan, with the report on its moves, is the drawing's program
pub programmed : (job : Job) (pitch : ℕ) (asked : AskedPocket) (loops : List (List GridPoint)) (plan given : List (List GridNode)) (moves : List LineMove) (uncut : UncutPoints) (text : List ℕ)
    → 1 ≤ job.bit.sn → given ≡ plan → IsPlan loops job.bit job.limit job.step asked plan → moves ≡ chain_moves job plan
    → IsReportOn loops job.bit moves pitch uncut → text ≡ program_text job given uncut → (AreWithinLimits given → IsReadBack job given uncut)
    → IsProgramOf job pitch asked loops plan uncut text
programmed job pitch asked loops plan given moves uncut text some given_is is moves_are report text_is read =
    let program : text ≡ program_text job plan uncut = text_is ∙ ap (λ chains. program_text job chains uncut) given_is in
    let on_plan = subst (λ m. IsReportOn loops job.bit m pitch uncut) moves_are report in
    let within = plan_is_within job asked loops plan given given_is is in
    record {
      is = is;
      report = on_plan;
      program = program;
      good = record {
        moves = chain_moves job plan;
        read = ap (moves_of job.units) program ∙ subst (λ chains. IsReadBack job chains uncut) given_is (read within);
        carves = plan_carves loops job.bit job.limit job.step asked job plan some is;
        uncut = uncut;
        report = on_plan;
        printed = record { front = path_text (job_note job) job plan; is = program };
      };
    }

-- the text of a plan is read back as its moves
pub read_back : (job : Job) (asked : AskedPocket) (loops : List (List GridPoint)) (plan given : List (List GridNode)) (moves : List LineMove) (uncut : UncutPoints) (text : List ℕ)
    → given ≡ plan → IsPlan loops job.bit job.limit job.step asked plan → moves ≡ chain_moves job plan → text ≡ program_text job given uncut
    → (AreWithinLimits given → IsReadBack job given uncut) → moves_of job.units text ≡ Ok moves
read_back job asked loops plan given moves uncut text given_is is moves_are text_is read =
    let within = plan_is_within job asked loops plan given given_is is in
    ap (moves_of job.units) text_is ∙ read within ∙ ap (λ chains. Ok (chain_moves job chains)) given_is ∙ ap Ok (sym moves_are)
