-- Answers the goals of `Left::take_nearest`.
use Rattle.std.proofs.Common.{◌≡◌, [], subst, sym}
use Rattle.std.specs.Prelude.{IfNone}
use Rattle.path_order.specs.Left.{entries_left}
use Rattle.path_order.proofs.Taking.{nearest_taken, nothing_left}
use Rattle.path_order.proofs.left.Left.take_nearest.Goals as goal

pub returns-in_err-found-clause-none : goal.returns-in_err-found-clause-none
returns-in_err-found-clause-none c =
    subst (λ r. IfNone r (entries_left c.args.self.now ≡ [])) (sym c.from_residual.ensures) (nothing_left c.args.place c.args.self.now.slots.items c.args.self.now.extents.items c.in_err-found.ensures)

pub returns-clause-taken : goal.returns-clause-taken
returns-clause-taken c =
    nearest_taken c.args.place c.args.self.now.slots.items c.args.self.now.extents.items c.in_ok-found.found c.take_out.new.self.slots.items c.in_ok-found.ensures c.take_out.ensures.slots
