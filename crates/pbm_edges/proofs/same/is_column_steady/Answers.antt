-- Answers the goals of `is_column_steady`.
use Rattle.std.proofs.Common.{◌∙◌, ap, arith}
use Rattle.pbm_edges.specs.Packed.{row_bytes}
use Rattle.pbm_edges.proofs.Steady.{column_steady, up_is}
use Rattle.pbm_edges.proofs.same.is_column_steady.Goals as goal

pub returns-then-place-steady : goal.returns-then-place-steady
returns-then-place-steady c = λ up.
    column_steady c.args.image.now c.args.steady.now c.requires.steady c.row_bytes.result c.args.block c.args.column (c.row_bytes.ensures ∙ ap row_bytes c.width-2.ensures.value) (omega arith)
    (let value = c.width.ensures.value in omega arith) (up_is _ up)
