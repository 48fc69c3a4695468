-- Answers the goals of `read_cells`.
use Rattle.std.proofs.Common.{◌*◌, ◌≤◌, arith, length}
use Rattle.pbm_edges.proofs.Packing.{packed_front}
use Rattle.pbm_edges.proofs.reader.read_cells.Goals as goal

pub returns-in_ok-to_vec-in-Packed-clause-value : goal.returns-in_ok-to_vec-in-Packed-clause-value
returns-in_ok-to_vec-in-Packed-clause-value c =
    let long : c.args.heading.height * c.row_bytes.result ≤ length c.args.heading.rest.now = omega arith in
    let front = c.in_ok-to_vec-in-Packed.ensures.items_if_clones_equal (λ x y same. same) in
    rw c.in-Packed.is (packed_front c.args.heading.width c.args.heading.height c.row_bytes.result c.args.heading.rest.now _ c.row_bytes.ensures long front)
