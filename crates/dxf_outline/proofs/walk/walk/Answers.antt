-- Answers the goals of `walk`.
use Rattle.std.proofs.Common.{ap, sym, ◌∙◌}
use Rattle.std.proofs.lemmas.Result.{err_from_is_err_and}
use Rattle.grid_num.specs.Units.{per_unit_of}
use Rattle.dxf_outline.specs.Outline.{drawn_from, headed}
use Rattle.dxf_outline.specs.State.{pair_of, pairs_left, state_of}
use Rattle.dxf_outline.proofs.Walking.{drawn_from-Broken, drawn_from-Err, drawn_from-Ok, drawn_from-Over, drawn_from-other}
use Rattle.dxf_outline.proofs.walk.walk.Goals as goal

pub returns-in-Over-clause-outline : goal.returns-in-Over-clause-outline
returns-in-Over-clause-outline c =
    let per_unit = per_unit_of c.args.resolution.units in
    let chord = c.args.resolution.chord in
    let state = state_of c.pairs.place c.pairs.outline in
    let ended = c.pairs.invariant ∙ ap (drawn_from per_unit chord state) c.in-Over.ensures.pairs ∙ drawn_from-Over per_unit chord state in
    rw ended c.finish.ensures.outline

pub returns-in-Over-clause-fault : goal.returns-in-Over-clause-fault
returns-in-Over-clause-fault c =
    let per_unit = per_unit_of c.args.resolution.units in
    let chord = c.args.resolution.chord in
    let state = state_of c.pairs.place c.pairs.outline in
    let ended = c.pairs.invariant ∙ ap (drawn_from per_unit chord state) c.in-Over.ensures.pairs ∙ drawn_from-Over per_unit chord state in
    rw ended c.finish.ensures.fault

pub returns-in-BadCode-clause-fault : goal.returns-in-BadCode-clause-fault
returns-in-BadCode-clause-fault c kind =
    let per_unit = per_unit_of c.args.resolution.units in
    let chord = c.args.resolution.chord in
    let state = state_of c.pairs.place c.pairs.outline in
    c.pairs.invariant ∙ ap (drawn_from per_unit chord state) c.in-BadCode.ensures.pairs ∙ rw c.at.ensures (drawn_from-Broken per_unit chord state _)

pub returns-in-Unended-clause-fault : goal.returns-in-Unended-clause-fault
returns-in-Unended-clause-fault c kind =
    let per_unit = per_unit_of c.args.resolution.units in
    let chord = c.args.resolution.chord in
    let state = state_of c.pairs.place c.pairs.outline in
    c.pairs.invariant ∙ ap (drawn_from per_unit chord state) c.in-Unended.ensures.pairs ∙ rw c.at-in-Unended.ensures (drawn_from-Broken per_unit chord state _)

pub returns-in_err-place-in-Next-clause-fault : goal.returns-in_err-place-in-Next-clause-fault
returns-in_err-place-in-Next-clause-fault c =
    let per_unit = per_unit_of c.args.resolution.units in
    let chord = c.args.resolution.chord in
    let state = state_of c.pairs.place c.pairs.outline in
    let pair = pair_of c.in-Next.entry in
    let rest = pairs_left c.next.new.self in
    let p = err_from_is_err_and c.from_residual.result c.from_residual.ensures.1 in
    rw (p.1, p.2) (λ kind.
    let wrong = ap (λ name. headed per_unit chord state pair.at name rest) (sym c.name_of-name.ensures) ∙ c.in_err-place-in-Next.ensures.fault kind in
    c.pairs.invariant ∙ ap (drawn_from per_unit chord state) c.in-Next.ensures.pairs ∙ drawn_from-Err per_unit chord state pair rest _ (sym c.has_code.ensures ∙ c.if-has_code.true) wrong)

pub pairs-preserved-then-has_code : goal.pairs-preserved-then-has_code
pairs-preserved-then-has_code c =
    let per_unit = per_unit_of c.args.resolution.units in
    let chord = c.args.resolution.chord in
    let state = state_of c.pairs.place c.pairs.outline in
    let next = state_of c.in_ok-place-in-Next.place c.step.new.outline in
    let pair = pair_of c.in-Next.entry in
    let rest = pairs_left c.next.new.self in
    let right = ap (λ name. headed per_unit chord state pair.at name rest) (sym c.name_of-name.ensures) ∙ c.in_ok-place-in-Next.ensures.goes in
    c.pairs.invariant ∙ ap (drawn_from per_unit chord state) c.in-Next.ensures.pairs ∙ drawn_from-Ok per_unit chord state pair rest next (sym c.has_code.ensures ∙ c.if-has_code.true) right ∙ c.in_ok-place-in-Next.ensures.leads_on per_unit chord next

pub pairs-preserved : goal.pairs-preserved
pairs-preserved c =
    let per_unit = per_unit_of c.args.resolution.units in
    let chord = c.args.resolution.chord in
    let state = state_of c.pairs.place c.pairs.outline in
    c.pairs.invariant ∙ ap (drawn_from per_unit chord state) c.in-Next.ensures.pairs ∙ drawn_from-other per_unit chord state (pair_of c.in-Next.entry) (pairs_left c.next.new.self) (sym c.has_code.ensures ∙ c.if-has_code.false)
