-- Answers the goals of `Kept::first_in_column`.
use Rattle.std.proofs.Common.{◌<◌, length, rules, subst, ◌∙◌}
use Rattle.std.proofs.lemmas.List.Elements.{All-same}
use Rattle.loop_join.specs.Keeping.{AreIndexed, KeptPoints}
use Rattle.loop_join.proofs.Leasts.{column_least, least_begun, least_stepped, numbers_in_range}
use Rattle.loop_join.proofs.kept.Kept.first_in_column.Goals as goal

pub loop-number-init : goal.loop-number-init
loop-number-init c =
    let are = subst (λ (k : KeptPoints). AreIndexed k.tolerance k.points c.self.inside.cells) c.self.view_is c.self.invariant in
    let shown = c.into_iter-number-iterator.ensures.into_iter_gives ∙ c.range-number-items.ensures.between (search rules) in
    least_begun c.args.self.now.tolerance c.args.self.now.points c.args.p c.args.least c.into_iter-number-iterator.result
    (All-same (λ e. e.1 < length c.args.self.now.points) _ _ shown (numbers_in_range (length c.args.self.now.points) _ c.self.inside.cells.entries are.numbers))

pub loop-number-preserved : goal.loop-number-preserved
loop-number-preserved c =
    least_stepped c.args.self.now.tolerance c.args.self.now.points c.args.p c.args.least c.loop-number.first c.lesser_near-first.result _ c.loop-number.number-iterator _ _ c.next.new.self
    c.in-Some.ensures.steps c.lesser_near-first.ensures.keeps c.lesser_near-first.ensures.judged c.lesser_near-first.ensures.found c.loop-number.invariant

pub returns-clause-least : goal.returns-clause-least
returns-clause-least c =
    let are = subst (λ (k : KeptPoints). AreIndexed k.tolerance k.points c.self.inside.cells) c.self.view_is c.self.invariant in
    let shown = c.into_iter-number-iterator.ensures.into_iter_gives ∙ c.range-number-items.ensures.between (search rules) in
    column_least c.args.self.now.tolerance c.args.self.now.points c.args.p c.args.column c.args.row c.args.least c.loop-number.first c.self.inside.cells c.new.result.start c.new.result.end _ c.loop-number.number-iterator
    are c.requires.low (c.new.ensures.start ∙ c.cell_number-from.ensures) (c.new.ensures.end ∙ c.cell_number-to.ensures) shown c.in-None.ensures.steps.0 c.loop-number.invariant
