-- The program that engraves strokes is read back: its title and its note are notes.
use Rattle.std.specs.Prelude.{codes}
use Rattle.std.proofs.Common.{ℕ, List, [], ◌∷◌, length, refl, arith}
use Rattle.std.specs.List.{All}
use Rattle.std.proofs.lemmas.List.Elements.{All-cons, All-nil}
use Rattle.plane_exact.specs.Nodes.{AreWithinLimits, GridNode, IsChain}
use Rattle.gcode_text.specs.Path.{IsJob}
use Rattle.gcode_text.specs.Strokes.{AreStrokesReadBack, cut_note, strokes_title}
use Rattle.gcode_text.specs.Written.{IsNote, is_note_byte}
use Rattle.gcode_text.specs.declared.job.Job.{Job}
use Rattle.gcode_text.proofs.Chains.{titled_read_back}
use Rattle.gcode_text.proofs.Readable.{AreBytes, is_note, joined, noted}

title_is : (strokes chains depth : ℕ) → IsNote (strokes_title strokes chains depth)
unfolding strokes_title
title_is strokes chains depth =
    let first : AreBytes is_note_byte 8 (codes "strokes ") = record { each = refl; short = omega arith } in
    let second : AreBytes is_note_byte 8 (codes " chains ") = record { each = refl; short = omega arith } in
    let third : AreBytes is_note_byte 7 (codes " depth ") = record { each = refl; short = omega arith } in
    is_note (joined first (joined (noted strokes) (joined second (joined (noted chains) (joined third (noted depth)))))) (omega arith)

note_is : (cut points : ℕ) → IsNote (cut_note cut points)
unfolding cut_note
note_is cut points =
    let first : AreBytes is_note_byte 4 (codes "cut ") = record { each = refl; short = omega arith } in
    let of : AreBytes is_note_byte 4 (codes " of ") = record { each = refl; short = omega arith } in
    is_note (joined first (joined (noted cut) (joined of (noted points)))) (omega arith)

pub strokes_read_back : (job : Job) (strokes depth : ℕ) (chains : List (List GridNode)) (cut points : ℕ) → IsJob job → All IsChain chains → AreWithinLimits chains
    → AreStrokesReadBack job strokes depth chains cut points
strokes_read_back job strokes depth chains cut points is_job are_chains within =
    titled_read_back (strokes_title strokes (length chains) depth) job chains (cut_note cut points ∷ []) (title_is strokes (length chains) depth) is_job are_chains within
    (All-cons IsNote (cut_note cut points) [] (note_is cut points) (All-nil IsNote))
