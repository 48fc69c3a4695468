-- Answers the goals of `shallow_ahead`.
use Rattle.cleanup_pocket.proofs.Ahead.{shallow_read}
use Rattle.cleanup_pocket.proofs.deep.PocketFloor.shallow_ahead.Goals as goal

pub returns-clause-reach : goal.returns-clause-reach
returns-clause-reach c =
    let floor = c.args.self.now in
    shallow_read floor.bit.now.sn floor.bit.now.sd c.sn.result c.sd.result floor.deepest c.args.depth c.sn.ensures.value c.sd.ensures.value c.requires
