-- Answers the goals of `floor_left`.
use Rattle.std.proofs.Common.{◌∙◌}
use Rattle.flat_bit.proofs.FloorReports.{floor_reported}
use Rattle.flat_bit.proofs.left.floor_left.Goals as goal

pub returns : goal.returns
returns c =
    floor_reported c.args.scene.now c.args.bit.now c.args.limit c.args.radius c.args.pitch c.args.chains.now c.requires.radius.low c.requires.level
    c.right_angled_bit.result c.deref.result.now c.right_angled_bit.ensures (c.deref.ensures.value ∙ c.in_ok-moves.ensures) c.marked_uncut.result c.marked_uncut.ensures
