-- Answers the goals of `visits_of`.
use Rattle.std.proofs.Common.{[], ◌∷◌, ◌++◌, ap, refl, ◌∙◌}
use Rattle.engrave_model.specs.Drawing.{edges_of}
use Rattle.code_repair.proofs.Stepping.{begun}
use Rattle.code_repair.proofs.repairs.visits_of.Goals as goal

pub returns : goal.returns
returns c =
    begun (edges_of c.args.scene.now) c.args.bit.now c.args.safe c.args.start c.args.moves.now _ c.follow.new.self c.rise.new.self.spots.items c.rise.new.self.changed
    (c.in_ok-push.ensures.items ∙ ap (λ xs. xs ++ c.args.start ∷ []) c.new.ensures.items) refl refl refl refl
    c.in_ok-follow.ensures.safe c.in_ok-rise.ensures.visited c.rise.ensures.changed c.in_ok-follow.ensures.led
