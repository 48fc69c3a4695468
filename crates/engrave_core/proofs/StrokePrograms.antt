-- The program that `strokes` writes cuts exactly the strokes, and its refusal of too many points.
use Rattle.std.specs.Prelude.{◌≡◌, ◌≤◌, ℕ, List, [], ◌∷◌, length, map, IsPermutation, Ok}
use Rattle.std.proofs.Common.{ap, inl, inr, refl, subst, sym, ◌∙◌}
use Rattle.carve_plan.proofs.Planned.{same_chains, same_within}
use Rattle.coverage_report.specs.Report.{IsReportFault}
use Rattle.coverage_report.specs.declared.fault.CoverFault.{CoverFault}
use Rattle.coverage_report.specs.declared.fault.CoverFault.TheVariants.{TooManyPoints, Memory}
use Rattle.gcode_text.specs.Moves.{moves_of}
use Rattle.gcode_text.specs.Path.{chain_moves, path_text}
use Rattle.gcode_text.specs.Strokes.{AreStrokesReadBack, strokes_text, strokes_title}
use Rattle.gcode_text.specs.declared.job.Job.{Job}
use Rattle.job_words.specs.declared.request.DrawingWords.{DrawingWords}
use Rattle.path_order.specs.Order.{IsOrder, chain_at}
use Rattle.plane_exact.specs.Nodes.{AreWithinLimits, GridNode}
use Rattle.plane_exact.specs.declared.point.Seg.{Seg}
use Rattle.stroke_engrave.proofs.Along.{chains_few}
use Rattle.stroke_engrave.proofs.Engraved.{strokes_cut}
use Rattle.stroke_engrave.specs.Chains.{chains_of}
use Rattle.stroke_engrave.specs.Cut.{AreStrokeCounts, IsStrokePoint}
use Rattle.engrave_core.specs.Commands.Strokes.{IsDueOfStrokes, IsEngraved, IsEngravedOrRefused, StoresEngraved}
use Rattle.engrave_core.specs.Drawing.{stored_strokes}
use Rattle.engrave_core.specs.Line.{line_of}
use Rattle.engrave_core.specs.Outcome.{IfAnswered, outcome_of}
use Rattle.engrave_core.specs.Refusals.{cover_refusal}
use Rattle.engrave_core.specs.Stored.{Files}
use Rattle.engrave_core.specs.declared.outcome.Outcome.TheVariants.{Done}
use Rattle.engrave_core.proofs.Done.{found, refusal_is_not_done}

module _ (job : Job) (depth pitch : ℕ) (strokes : List Seg) where
  -- a fault of the counts is answered by its refusal
  pub uncounted : (fault : CoverFault) → IsReportFault (IsStrokePoint job.bit depth strokes pitch) fault
      → IfAnswered (outcome_of (cover_refusal fault)) (IsEngravedOrRefused job depth pitch strokes (outcome_of (cover_refusal fault)) (line_of (outcome_of (cover_refusal fault))))
  uncounted TooManyPoints many = inr (record { many = many; refuses = record { refused = refl; line = refl } })
  uncounted Memory many = tt

  module _ (order : List ℕ) (ordered : IsOrder (chains_of depth strokes) order) (few : length strokes ≤ 131072) where
    -- the strokes' chains, put in the order
    abbrev in_order : List (List GridNode)
    in_order = map (chain_at (chains_of depth strokes)) order

    same : IsPermutation (chains_of depth strokes) in_order
    same = same_chains (chains_of depth strokes) order ordered

    within : AreWithinLimits in_order
    within = same_within (chains_of depth strokes) in_order same (chains_few depth strokes few)

    -- the text of these chains, with the counts, is a program that cuts exactly the strokes
    pub engraved : (given : List (List GridNode)) (cut points : ℕ) (text : List ℕ) → 1 ≤ depth → given ≡ in_order → AreStrokeCounts job.bit depth strokes pitch cut points
        → text ≡ strokes_text job (length strokes) depth given cut points → (AreWithinLimits given → AreStrokesReadBack job (length strokes) depth given cut points)
        → IsEngraved job depth pitch strokes Done text
    engraved given cut points text some given_is counts text_is read =
        let program : text ≡ strokes_text job (length strokes) depth in_order cut points = text_is ∙ ap (λ chains. strokes_text job (length strokes) depth chains cut points) given_is in
        record {
          done = refl;
          order = order;
          ordered = ordered;
          cut = cut;
          points = points;
          counts = counts;
          program = program;
          good = record {
            moves = chain_moves job in_order;
            read = ap (moves_of job.units) program ∙ subst (λ chains. AreStrokesReadBack job (length strokes) depth chains cut points) given_is (read (subst AreWithinLimits (sym given_is) within));
            exact = λ w. strokes_cut job depth strokes in_order w some same;
            cut = cut;
            points = points;
            counts = counts;
            printed = record { front = path_text (strokes_title (length strokes) (length in_order) depth) job in_order; is = program };
          };
        }

engraved_of : (files : Files) (shape : DrawingWords) (job : Job) (depth pitch : ℕ) (text : List ℕ) (strokes : List Seg) → stored_strokes files shape ≡ Ok strokes
    → IsEngravedOrRefused job depth pitch strokes Done text → StoresEngraved files shape job depth pitch text
engraved_of files shape job depth pitch text strokes is (inl engraved) = record { strokes = strokes; is = is; good = engraved.good }
engraved_of files shape job depth pitch text strokes is (inr refused) = absurd (refusal_is_not_done (cover_refusal TooManyPoints) refused.refuses.refused)

-- what is due with Done is a program that cuts exactly the strokes
pub engraved_is_so : (files : Files) (shape : DrawingWords) (job : Job) (depth pitch : ℕ) (text : List ℕ)
    → IsDueOfStrokes files shape job depth pitch Done text → StoresEngraved files shape job depth pitch text
engraved_is_so files shape job depth pitch text due =
    let read = found (IsEngravedOrRefused job depth pitch) (stored_strokes files shape) text due in
    engraved_of files shape job depth pitch text read.value read.is read.gives
