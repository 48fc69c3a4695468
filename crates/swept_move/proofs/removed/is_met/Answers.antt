-- Answers the goals of `is_met`.
use mir.Syntax.{w64}
use Rattle.std.proofs.Common.{inl, inr, arith, sym, pos, ◌<ℤ◌}
use Rattle.std.proofs.lemmas.Int.{ints}
use Rattle.swept_move.proofs.Dips.{dip_same}
use Rattle.swept_move.proofs.Ways.{read_way}
use Rattle.swept_move.proofs.Widths.{held}
use Rattle.swept_move.proofs.removed.is_met.Goals as goal

pub returns-else-is_held : goal.returns-else-is_held
returns-else-is_held c =
    let ends = c.args.ends in
    let first = (read_way c.requires.first).value in
    let last = (read_way c.requires.last).value in
    let start = ends.c_range in
    let finish = ends.a_range in
    let high : ¬ (ends.c <ℤ pos 0) = λ low. omega (arith, ints) in
    let below : ends.a <ℤ pos 0 → held w64 ends.a <ℤ pos 0 = λ low. omega (arith, ints) in
    let deep : pos 0 <ℤ c.args.last → pos 0 <ℤ held w64 c.args.last = λ under. omega (arith, ints) in
    let spared : ¬ ((ends.a <ℤ pos 0) × (pos 0 <ℤ c.args.last)) = λ on. let h = c.if-is_held.false in let t = c.if-is_held.ensures.1 (below on.0, deep on.1) in cc in
    let dip = c.is_dip.ensures in (
      (λ t. inr (inr (dip_same ends.c ends.half ends.a first last (dip.0 t)))),
      (λ met. elim met [
        | inl low ↦ absurd (high low)
        | inr (inl on) ↦ absurd (spared on)
        | inr (inr is) ↦ dip.1 (dip_same ends.c ends.half ends.a (sym first) (sym last) is)
      ]),
    )
