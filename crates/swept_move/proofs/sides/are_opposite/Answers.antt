-- Answers the goals of `are_opposite`.
use mir.Syntax.{w64}
use Rattle.std.proofs.lemmas.Int.{to_z-of_z}
use Rattle.swept_move.proofs.Products.{opposite_above, opposite_below}
use Rattle.swept_move.proofs.sides.are_opposite.Goals as goal

pub returns-then-a-lt0 : goal.returns-then-a-lt0
returns-then-a-lt0 c = opposite_below c.args.a c.args.b _ _ (to_z-of_z w64 c.args.a c.ranges.a) (to_z-of_z w64 c.args.b c.ranges.b) c.if-a-lt0.true

pub returns-then-a-gt0 : goal.returns-then-a-gt0
returns-then-a-gt0 c = opposite_above c.args.a c.args.b _ _ (to_z-of_z w64 c.args.a c.ranges.a) (to_z-of_z w64 c.args.b c.ranges.b) c.if-a-gt0.true
