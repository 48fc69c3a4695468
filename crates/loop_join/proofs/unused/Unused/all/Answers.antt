-- Answers the goals of `all`.
use Rattle.std.proofs.Common.{◌<◌, Some, ap, length, sym, subst, ◌∙◌, arith}
use Rattle.std.proofs.lemmas.List.{length-map}
use Rattle.plane_exact.specs.declared.point.Seg.{Seg}
use Rattle.loop_join.specs.Index.{AreIndexed, unused_in}
use Rattle.loop_join.proofs.Slots.{unused_in-all}
use Rattle.loop_join.proofs.unused.Unused.all.Goals as goal

pub returns : goal.returns
returns c = ap unused_in c.in_ok-slots.ensures ∙ unused_in-all c.args.segs.now

pub invariant_of-result : goal.invariant_of-result
invariant_of-result c = record {
  few = omega (arith, ap length c.in_ok-slots.ensures, length-map c.args.segs.now (λ (s : Seg). Some s), c.requires);
  indexed = subst (λ slots. AreIndexed slots c.in_ok-ends.ends) (sym c.in_ok-slots.ensures) c.in_ok-ends.ensures;
  none_before = λ j (less : j < 0). absurd (omega arith);
}
