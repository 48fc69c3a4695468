-- Answers the goals of `Clearance::lowest_is_clear`.
use Rattle.swept_move.proofs.Clearances.{lowest_test, product_is}
use Rattle.swept_move.proofs.clearance.Clearance.lowest_is_clear.Goals as goal

pub returns : goal.returns
returns c =
    let q = c.args.self in
    lowest_test _ _ q.half q.a q.c (product_is q.half_range q.half_range c.product.ensures) (product_is q.a_range q.c_range c.product-2.ensures)
