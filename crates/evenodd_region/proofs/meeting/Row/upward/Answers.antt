-- Answers the goals of `Row::upward`.
use Rattle.std.proofs.Common.{arith, inl, inr}
use Rattle.std.proofs.lemmas.Int.{ints}
use Rattle.evenodd_region.proofs.RowMeets.{none_meets, told_less}
use Rattle.evenodd_region.proofs.meeting.Row.upward.Goals as goal
use Rattle.evenodd_region.proofs.meeting.Row.upward.Goals.{then-is_below-via-then-is_below, then-is_below-via-else-is_below+then-is_below-2}

pub returns-then-is_below : goal.returns-then-is_below
returns-then-is_below c =
    let up = c.requires in
    none_meets c.args.self.now c.args.e c.none.result c.none.ensures.from c.none.ensures.to c.none.ensures.passes
    (elim c.then-is_below.branch [
      | then-is_below-via-then-is_below w ↦
          let below = told_less c.args.self.now.start.y c.args.e.a.y w.if-is_below.ensures in
          inl (below, omega (arith, ints))
      | then-is_below-via-else-is_below+then-is_below-2 w ↦
          let above = told_less c.args.e.b.y c.args.self.now.start.y w.if-is_below-2.ensures in
          inr (omega (arith, ints), above)
    ])
