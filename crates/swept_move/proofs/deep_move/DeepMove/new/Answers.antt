-- Answers the goals of `DeepMove::new`.
use Rattle.std.proofs.Common.{inl, inr, arith}
use Rattle.std.proofs.lemmas.Int.{ints}
use Rattle.swept_move.proofs.Motions.{deep_heights}
use Rattle.swept_move.proofs.deep_move.DeepMove.new.Goals as goal

pub deep_moments-requires-clause-deep : goal.deep_moments-requires-clause-deep
deep_moments-requires-clause-deep c =
    let h = c.height.ensures in
    let k = c.height-2.ensures in
    elim (deep_heights c.args.from c.args.to c.requires) [ inl l ↦ inl (omega (arith, ints)) | inr l ↦ inr (omega (arith, ints)) ]
