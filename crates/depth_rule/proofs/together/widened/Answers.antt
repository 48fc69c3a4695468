-- Answers the goals of `widened`.
use Rattle.std.proofs.Common.{arith}
use Rattle.std.proofs.lemmas.Int.{ints, clamps}
use Rattle.depth_rule.proofs.together.widened.Goals as goal

pub returns-clause-kept : goal.returns-clause-kept
returns-clause-kept c r is = record {
  left = let l = is.left in let m = c.min.ensures.value in omega (arith, ints, clamps);
  right = let l = is.right in let m = c.max.ensures.value in omega (arith, ints, clamps);
  low = let l = is.low in let m = c.min-2.ensures.value in omega (arith, ints, clamps);
  high = let l = is.high in let m = c.max-2.ensures.value in omega (arith, ints, clamps);
}

pub returns-clause-held : goal.returns-clause-held
returns-clause-held c = record {
  left = let l = c.x.ensures.value in let m = c.min.ensures.value in omega (arith, ints, clamps);
  right = let l = c.x-2.ensures.value in let m = c.max.ensures.value in omega (arith, ints, clamps);
  low = let l = c.y.ensures.value in let m = c.min-2.ensures.value in omega (arith, ints, clamps);
  high = let l = c.y-2.ensures.value in let m = c.max-2.ensures.value in omega (arith, ints, clamps);
}
