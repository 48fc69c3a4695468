-- Answers the goals of `is_edge_clear`.
use Rattle.engrave_model.proofs.Discs.{edge_clear}
use Rattle.swept_move.proofs.disc.is_edge_clear.Goals as goal

pub returns : goal.returns
returns c =
    edge_clear _ c.args.bit.now c.args.p c.args.z c.args.e c.sn.result c.sd.result c.sn.ensures.value c.sd.ensures.value
    c.dist_at_least.ensures
