-- Answers the goals of `Kept::place`.
use Rattle.std.proofs.Common.{◌∷◌, ◌++◌, [], ap, arith, length, sym, ◌∙◌}
use Rattle.loop_join.specs.Keeping.{KeptPoints}
use Rattle.loop_join.specs.Snap.{earliest_near}
use Rattle.loop_join.proofs.Places.{AreIndexed_push, AreIndexed_same}
use Rattle.loop_join.proofs.kept.Kept.place.Goals as goal

pub invariant_of-self-in_err-insert : goal.invariant_of-self-in_err-insert
invariant_of-self-in_err-insert c =
    AreIndexed_same c.self.inside.tolerance c.self.inside.points.items c.reserve.new.self.items c.self.inside.cells c.insert.new.self c.self.invariant c.reserve.ensures.items c.in_err-insert.ensures.err

pub invariant_of-self-2 : goal.invariant_of-self-2
invariant_of-self-2 c =
    let none = ap (λ (k : KeptPoints). earliest_near k.tolerance k.points c.args.p) c.self.view_is ∙ sym c.first_near.ensures ∙ c.in_default.is in
    AreIndexed_push c.self.inside.tolerance c.self.inside.points.items c.push_reserved.new.self.items c.args.p c.self.inside.cells c.insert.new.self c.cell_of.result c.len-number.result
    c.self.invariant c.cell_of.ensures.on_grid none (c.push_reserved.ensures.items ∙ ap (λ points. points ++ c.args.p ∷ []) c.reserve.ensures.items) c.cell_of.ensures.value (omega (arith, c.self.inside.points.ok, ap length c.reserve.ensures.items))
    c.in_ok-insert.ensures.updates c.in_ok-insert.ensures.entries
