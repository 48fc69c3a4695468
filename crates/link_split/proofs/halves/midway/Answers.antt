-- Answers the goals of `midway`.
use Rattle.std.proofs.Common.{ap, sym, ◌∙◌}
use Rattle.engrave_model.specs.Drawing.{edges_of}
use Rattle.link_split.proofs.Halfway.{shallow_halfway}
use Rattle.link_split.proofs.halves.midway.Goals as goal

pub returns-then-mid-eq0 : goal.returns-then-mid-eq0
returns-then-mid-eq0 c =
    shallow_halfway (edges_of c.args.scene.now) c.args.bit.now c.args.limit c.args.p c.args.q c.halfway-mid.result c.halfway-mid.ensures
    (ap (λ n. n.depth) (sym c.mid.view_is) ∙ c.if-mid-eq0.true)
