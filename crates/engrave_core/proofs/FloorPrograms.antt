-- The program that `flat` writes removes nothing but the target, and its refusals are those of too many chains and of too many points.
use Rattle.std.specs.Prelude.{◌≡◌, ◌≤◌, ℕ, List, length, map, IsPermutation, Ok}
use Rattle.std.proofs.Common.{ap, inl, inr, refl, subst, sym, ◌∙◌}
use Rattle.carve_plan.proofs.Planned.{same_chains, same_within}
use Rattle.cleanup_pocket.specs.declared.fault.PocketFault.{PocketFault}
use Rattle.cleanup_pocket.specs.declared.fault.PocketFault.TheVariants as mill
use Rattle.coverage_report.specs.Report.{IsCoverFault}
use Rattle.coverage_report.specs.declared.fault.CoverFault.{CoverFault}
use Rattle.coverage_report.specs.declared.fault.CoverFault.TheVariants.{TooManyPoints, Memory}
use Rattle.depth_rule.specs.Deepest.{deepest_of}
use Rattle.flat_bit.specs.Fault.{IsMillFault}
use Rattle.flat_bit.specs.Flat.{IsFlat}
use Rattle.flat_bit.specs.Left.{AreLevel, IsFloorReport}
use Rattle.flat_bit.proofs.Few.{flat_few}
use Rattle.flat_bit.proofs.Floored.{floored, levelled}
use Rattle.gcode_text.specs.Flat.{IsFlatReadBack, flat_text, flat_title}
use Rattle.gcode_text.specs.Moves.{moves_of}
use Rattle.gcode_text.specs.Path.{chain_moves, path_text}
use Rattle.gcode_text.specs.declared.job.Job.{Job}
use Rattle.job_words.specs.declared.request.DrawingWords.{DrawingWords}
use Rattle.path_order.specs.Order.{IsOrder, chain_at}
use Rattle.plane_exact.specs.Nodes.{AreWithinLimits, GridNode}
use Rattle.plane_exact.specs.Plane.{GridPoint}
use Rattle.plane_exact.specs.Uncut.{UncutPoints}
use Rattle.plane_exact.specs.declared.node.TheConstants.{MOST_CHAINS}
use Rattle.engrave_core.specs.Commands.Flat.{IsDueOfFlat, IsMilledFloor, IsMilledOrRefused, StoresMilled}
use Rattle.engrave_core.specs.Drawing.{IsDrawingOf, ReadDrawing}
use Rattle.engrave_core.specs.Line.{line_of}
use Rattle.engrave_core.specs.Outcome.{IfAnswered, outcome_of}
use Rattle.engrave_core.specs.Refusals.{cover_refusal, mill_refusal}
use Rattle.engrave_core.specs.Stored.{Files}
use Rattle.engrave_core.specs.declared.commands.flat.Milling.{Milling}
use Rattle.engrave_core.specs.declared.outcome.Outcome.TheVariants.{Done}
use Rattle.engrave_core.proofs.Done.{found_drawing, refusal_is_not_done}

module _ (job : Job) (milling : Milling) (pitch : ℕ) (loops : List (List GridPoint)) where
  abbrev IsFloor : List (List GridNode) → Type 0
  IsFloor chains = IsFlat loops job.bit job.limit milling.radius milling.over milling.way chains

  -- a fault of the chains is answered by its refusal
  pub unmilled : (fault : PocketFault) → IsMillFault loops job.bit job.limit milling.radius milling.over milling.way fault
      → IfAnswered (outcome_of (mill_refusal fault)) (IsMilledOrRefused job milling pitch loops (outcome_of (mill_refusal fault)) (line_of (outcome_of (mill_refusal fault))))
  unmilled mill.TooMany many = inr (inl (record { many = many; refuses = record { refused = refl; line = refl } }))
  unmilled mill.Memory many = tt

  -- and one of the report, where there are chains
  pub unreported : (chains : List (List GridNode)) (fault : CoverFault) → IsFloor chains → length chains ≤ MOST_CHAINS → IsCoverFault loops pitch fault
      → IfAnswered (outcome_of (cover_refusal fault)) (IsMilledOrRefused job milling pitch loops (outcome_of (cover_refusal fault)) (line_of (outcome_of (cover_refusal fault))))
  unreported chains TooManyPoints are few many = inr (inr (record { chains = chains; are = are; few = few; many = many; refuses = record { refused = refl; line = refl } }))
  unreported chains Memory are few many = tt

  module _ (chains : List (List GridNode)) (are : IsFloor chains) (few : length chains ≤ MOST_CHAINS) (order : List ℕ) (ordered : IsOrder chains order) where
    -- the floor's chains, put in the order
    abbrev in_order : List (List GridNode)
    in_order = map (chain_at chains) order

    same : IsPermutation chains in_order
    same = same_chains chains order ordered

    within : AreWithinLimits in_order
    within = same_within chains in_order same (flat_few loops job.bit job.limit milling.radius milling.over milling.way chains are few)

    -- they are at the floor's depth
    pub level : (given : List (List GridNode)) → given ≡ in_order → AreLevel (deepest_of job.bit job.limit) given
    level given given_is =
        subst (AreLevel (deepest_of job.bit job.limit)) (sym given_is) (levelled loops job.bit job.limit milling.radius milling.over milling.way chains in_order are same)

    -- the text of these chains, with the report, is a program that removes nothing but the target
    pub milled : (given : List (List GridNode)) (left : UncutPoints) (text : List ℕ) → 1 ≤ job.bit.sn → 1 ≤ job.bit.sd → 1 ≤ milling.radius → given ≡ in_order
        → ((j : Job) → IsFloorReport loops job.bit job.limit milling.radius (chain_moves j given) pitch left)
        → text ≡ flat_text job milling.radius given left → (AreWithinLimits given → IsFlatReadBack job milling.radius given left)
        → IsMilledFloor job milling pitch loops Done text
    milled given left text steep over wide given_is reported text_is read =
        let program : text ≡ flat_text job milling.radius in_order left = text_is ∙ ap (λ chains. flat_text job milling.radius chains left) given_is in
        let report = subst (λ chains. IsFloorReport loops job.bit job.limit milling.radius (chain_moves job chains) pitch left) given_is (reported job) in
        record {
          done = refl;
          chains = chains;
          are = are;
          few = few;
          order = order;
          ordered = ordered;
          left = left;
          report = report;
          program = program;
          good = record {
            moves = chain_moves job in_order;
            read = ap (moves_of job.units) program ∙ subst (λ chains. IsFlatReadBack job milling.radius chains left) given_is (read (subst AreWithinLimits (sym given_is) within));
            within = λ w depth removed.
                floored loops job.bit job.limit milling.radius milling.over milling.way chains in_order job w depth steep over wide are same removed;
            left = left;
            report = report;
            printed = record { front = path_text (flat_title milling.radius) job in_order; is = program };
          };
        }

milled_of : (files : Files) (shape : DrawingWords) (job : Job) (milling : Milling) (pitch : ℕ) (text : List ℕ) (drawing : ReadDrawing) → IsDrawingOf files shape (Ok drawing)
    → IsMilledOrRefused job milling pitch drawing.loops Done text → StoresMilled files shape job milling.radius pitch text
milled_of files shape job milling pitch text drawing is (inl milled) = record { drawing = drawing; is = is; good = milled.good }
milled_of files shape job milling pitch text drawing is (inr (inl refused)) = absurd (refusal_is_not_done (mill_refusal mill.TooMany) refused.refuses.refused)
milled_of files shape job milling pitch text drawing is (inr (inr refused)) = absurd (refusal_is_not_done (cover_refusal TooManyPoints) refused.refuses.refused)

-- what is due with Done is a program that removes nothing but the target
pub milled_is_so : (files : Files) (shape : DrawingWords) (job : Job) (milling : Milling) (pitch : ℕ) (text : List ℕ)
    → IsDueOfFlat files shape job milling pitch Done text → StoresMilled files shape job milling.radius pitch text
milled_is_so files shape job milling pitch text due =
    let read = found_drawing _ files shape text due in
    milled_of files shape job milling pitch text read.drawing read.is read.gives
