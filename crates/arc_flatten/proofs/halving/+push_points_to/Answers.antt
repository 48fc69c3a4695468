-- Answers the goals of `push_points_to`.
use mir.Syntax.{w64}
use mir.Val.{SFits}
use Rattle.std.proofs.Common.{get_or, pos, ap, ◌∙◌, rules}
use Rattle.std.proofs.lemmas.Int.{to_z-of_z}
use Rattle.arc_flatten.specs.Bulges.{apex_of}
use Rattle.arc_flatten.proofs.Splits.{points_behind, stays_behind}
use Rattle.arc_flatten.proofs.halving.+push_points_to.Goals as goal

pub push_points_to-requires-in-len1-up : goal.push_points_to-requires-in-len1-up
push_points_to-requires-in-len1-up t c =
    let fits : SFits w64 (get_or c.args.bulges.now 0 (pos 0)) = search rules in
    let is = c.apex-apex.ensures ∙ ap (apex_of c.args.p c.args.q) (to_z-of_z w64 (get_or c.args.bulges.now 0 (pos 0)) fits) in
    (search rules, stays_behind c.args.bulges.now c.args.p c.args.q c.apex-apex.result c.in-len1-up.len_at_least is c.requires)

pub returns-in_ok-push_points_to-in-len1-up-2 : goal.returns-in_ok-push_points_to-in-len1-up-2
returns-in_ok-push_points_to-in-len1-up-2 t c =
    let fits : SFits w64 (get_or c.args.bulges.now 0 (pos 0)) = search rules in
    let is = c.apex-apex.ensures ∙ ap (apex_of c.args.p c.args.q) (to_z-of_z w64 (get_or c.args.bulges.now 0 (pos 0)) fits) in
    points_behind c.args.bulges.now c.args.p c.args.q c.apex-apex.result c.args.points.now.items c.push_points_to.new.points.items _ c.in-len1-up.len_at_least is
    c.in_ok-push_points_to-in-len1-up.ensures c.in_ok-push_points_to-in-len1-up-2.ensures
