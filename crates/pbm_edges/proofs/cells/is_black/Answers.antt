-- Answers the goals of `is_black`.
use Rattle.std.proofs.Common.{sym, ◌∙◌}
use Rattle.pbm_edges.proofs.Packing.{unpacked_at}
use Rattle.pbm_edges.proofs.cells.is_black.Goals as goal

pub returns-in-Packed : goal.returns-in-Packed
returns-in-Packed c =
    let found = rw c.deref.ensures.value at c.is_packed_black.ensures in
    rw c.in-Packed.is (found ∙ sym (unpacked_at c.in-Packed.rows.items c.args.width c.args.height c.args.col c.args.row c.requires.col c.requires.row))
