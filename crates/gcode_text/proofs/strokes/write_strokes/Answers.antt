-- Answers the goals of `write_strokes`.
use Rattle.std.proofs.Common.{[], ◌∷◌, ◌++◌, ap, length, ◌∙◌}
use Rattle.gcode_text.specs.Path.{path_text}
use Rattle.gcode_text.specs.Strokes.{cut_note, strokes_title}
use Rattle.gcode_text.specs.Written.{Note, code_text}
use Rattle.gcode_text.proofs.Growing.{titled_written}
use Rattle.gcode_text.proofs.StrokeNotes.{strokes_read_back}
use Rattle.gcode_text.proofs.strokes.write_strokes.Goals as goal

pub returns-clause-text : goal.returns-clause-text
returns-clause-text c =
    let job = c.args.job.now in
    let chains = c.args.chains.now in
    let title = strokes_title c.args.strokes (length chains) c.args.depth in
    let note = cut_note c.args.cut c.args.points in
    let path = c.in_ok-code.code.items in
    titled_written title job chains (note ∷ []) path _ _
    (c.in_ok-code.ensures.text ∙ ap (λ title. path_text title job chains) (c.as_str.ensures.value ∙ c.in_ok-title.ensures))
    (c.in_ok-write_note.ensures ∙ ap (λ note. path ++ code_text (Note note ∷ [])) (c.as_str-2.ensures.value ∙ c.in_ok-note.ensures))
    c.in_ok-write_end.ensures

pub returns-clause-read_back : goal.returns-clause-read_back
returns-clause-read_back c within = strokes_read_back c.args.job.now c.args.strokes c.args.depth c.args.chains.now c.args.cut c.args.points c.requires c.in_ok-code.ensures.range within
