-- Answers the goals of `take_first`.
use Rattle.std.proofs.Common.{◌∷◌, ap, sym, ◌∙◌}
use Rattle.loop_join.specs.Index.{unused_in}
use Rattle.loop_join.proofs.Slots.{unused_in-first, unused_in-none}
use Rattle.loop_join.proofs.unused.Unused.take_first.Goals as goal

pub returns-in_err-number : goal.returns-in_err-number
returns-in_err-number c =
    let none = rw c.deref.ensures.value at c.in_err-number.ensures in
    rw c.from_residual.ensures (sym c.self.view_is ∙ unused_in-none c.self.inside.slots.items none)

pub returns : goal.returns
returns c =
    let first = rw c.deref.ensures.value at c.in_ok-number.ensures in
    sym c.self.view_is ∙ unused_in-first c.self.inside.slots.items c.in_ok-number.number c.take_out.result c.take_out.ensures.value first.1 ∙ ap (λ slots. c.take_out.result ∷ unused_in slots) (sym c.take_out.ensures.slots)
