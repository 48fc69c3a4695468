-- Answers the goals of `bulge`.
use mir.Syntax.{w64}
use Rattle.std.proofs.Common.{ℤ, List, [], ◌∷◌, ◌++◌, ap, sym, ◌∙◌, subst}
use Rattle.std.proofs.lemmas.Int.{to_z-of_z}
use Rattle.arc_flatten.specs.Halves.{StaysFine, halved_bulges}
use Rattle.arc_flatten.proofs.Stages.{StaysFine-halved}
use Rattle.arc_flatten.proofs.Steps.{bulge_points_are}
use Rattle.arc_flatten.proofs.halving.bulge.Goals as goal

pub push_points_to-requires : goal.push_points_to-requires
push_points_to-requires c =
    let is = c.deref.ensures.value ∙ c.in_ok-bulges.ensures.bulges ∙ ap (halved_bulges 10 c.direction.result) (to_z-of_z w64 c.args.b c.ranges.b) in
    subst (λ (bulges : List ℤ). StaysFine bulges c.args.p c.args.q) (sym is) (StaysFine-halved c.direction.result c.args.p c.args.q c.args.b c.requires.first c.requires.last c.requires.bulge)

pub returns : goal.returns
returns c =
    let is = c.deref.ensures.value ∙ c.in_ok-bulges.ensures.bulges ∙ ap (halved_bulges 10 c.direction.result) (to_z-of_z w64 c.args.b c.ranges.b) in
    bulge_points_are c.args.p c.args.q c.args.b c.args.chord c.direction.result c.deref.result.now c.push.new.self.items _ c.direction.ensures.value is
    (c.in_ok-push.ensures.items ∙ ap (λ points. points ++ c.args.p ∷ []) c.in_ok-points.ensures.items) c.in_ok-push_points_to.ensures
