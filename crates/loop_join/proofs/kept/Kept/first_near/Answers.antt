-- Answers the goals of `Kept::first_near`.
use Rattle.std.proofs.Common.{ap, arith, get_or, length, sym, ◌∙◌}
use Rattle.std.specs.Prelude.{option_and_then}
use Rattle.std.specs.List.{slice_get}
use Rattle.loop_join.specs.Keeping.{KeptPoints}
use Rattle.loop_join.proofs.Places.{earliest_point, earliest_within}
use Rattle.loop_join.proofs.kept.Kept.first_near.Goals as goal

pub returns-in_err-first_number : goal.returns-in_err-first_number
returns-in_err-first_number c =
    c.from_residual.ensures ∙ sym (c.first_number.ensures.earliest ∙ ap (option_and_then (slice_get c.args.self.now.points)) c.in_err-first_number.was)

pub index-requires : goal.index-requires
index-requires c =
    let within = earliest_within c.in_ok-first_number.field-0 c.first_number.ensures c.in_ok-first_number.was in
    omega (arith, within, c.self.inside.points.ok, ap (λ (k : KeptPoints). length k.points) c.self.view_is)

pub returns : goal.returns
returns c =
    let k = c.in_ok-first_number.field-0 in
    earliest_point k c.index.result.now c.first_number.ensures c.in_ok-first_number.was (c.index.ensures ∙ ap (λ (kept : KeptPoints). get_or kept.points k c.index.result.now) c.self.view_is)
