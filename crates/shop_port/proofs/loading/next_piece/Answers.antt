-- Answers the goals of `next_piece`.
use Rattle.std.proofs.Common.{◌<◌, length, rules}
use Rattle.shop_port.proofs.Fronts.{goes_on_known}
use Rattle.shop_port.proofs.loading.next_piece.Goals as goal

pub returns-in-Ok-Got-2-clause-value : goal.returns-in-Ok-Got-2-clause-value
returns-in-Ok-Got-2-clause-value g c =
    let some : 0 < length c.read.new.into = search rules in
    let fetched = c.in-Ok-Got.ensures in
    goes_on_known (g.D.Depot.held c.args.depot.now) c.args.name.now c.args.cap _ _ c.args.at _ _ c.in-Ok-Got.field-0-is c.requires.under some fetched.value fetched.range
