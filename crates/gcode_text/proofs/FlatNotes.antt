-- The program of a flat bit is read back: its title is a note.
use Rattle.std.specs.Prelude.{codes}
use Rattle.std.proofs.Common.{ℕ, List, refl, arith}
use Rattle.std.specs.List.{All}
use Rattle.plane_exact.specs.Nodes.{AreWithinLimits, GridNode, IsChain}
use Rattle.plane_exact.specs.Uncut.{UncutPoints}
use Rattle.gcode_text.specs.Flat.{IsFlatReadBack, flat_title}
use Rattle.gcode_text.specs.Path.{IsJob}
use Rattle.gcode_text.specs.Report.{IsReport, report_lines}
use Rattle.gcode_text.specs.Written.{IsNote, is_note_byte}
use Rattle.gcode_text.specs.declared.job.Job.{Job}
use Rattle.gcode_text.specs.declared.report.Subject.TheVariants.{Floor}
use Rattle.gcode_text.proofs.Chains.{titled_read_back}
use Rattle.gcode_text.proofs.Closing.{report_noted}
use Rattle.gcode_text.proofs.Readable.{AreBytes, is_note, joined, noted}

title_is : (radius : ℕ) → IsNote (flat_title radius)
unfolding flat_title
title_is radius =
    let word : AreBytes is_note_byte 5 (codes "flat ") = record { each = refl; short = omega arith } in
    is_note (joined word (noted radius)) (omega arith)

pub flat_read_back : (job : Job) (radius : ℕ) (chains : List (List GridNode)) (left : UncutPoints) → IsJob job → All IsChain chains → AreWithinLimits chains → IsReport left
    → IsFlatReadBack job radius chains left
flat_read_back job radius chains left is_job are_chains within is_report =
    titled_read_back (flat_title radius) job chains (report_lines Floor left) (title_is radius) is_job are_chains within (report_noted Floor left is_report)
