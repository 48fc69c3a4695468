-- Answers the goals of `Row::meeting`.
use Rattle.evenodd_region.proofs.RowMeets.{told_less, turned_meets}
use Rattle.evenodd_region.proofs.meeting.Row.meeting.Goals as goal

pub returns-then-is_below : goal.returns-then-is_below
returns-then-is_below c =
    turned_meets c.args.self.now c.args.e.a c.args.e.b c.upward.result (told_less c.args.e.b.y c.args.e.a.y c.if-is_below.ensures) c.upward.ensures
