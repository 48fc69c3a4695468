-- Answers the goals of `pieces_of`.
use Rattle.std.proofs.Common.{ap, ◌∙◌, max}
use Rattle.tangent_disc.proofs.Lengths.{pieces_by_length}
use Rattle.tangent_disc.proofs.pieces.pieces_of.Goals as goal

pub returns : goal.returns
returns c = pieces_by_length c.args.edge.now c.args.step c.length_up.result c.max.result c.requires.low c.length_up.ensures.value (c.max.ensures ∙ ap (λ n. max n 1) c.div_ceil.ensures)
