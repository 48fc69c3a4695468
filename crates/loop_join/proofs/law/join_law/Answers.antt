-- Answers the goal of `join_law`.
use Rattle.std.proofs.Common.{length}
use Rattle.loop_join.specs.Join.{loops_from}
use Rattle.loop_join.proofs.Degrees.{joined_even}
use Rattle.loop_join.proofs.Opens.{first_open, open_first}
use Rattle.loop_join.proofs.Results.{join_from_Ok, join_of-Ok, join_of-even, join_of-odd, join_of-open, open_from_Err}
use Rattle.loop_join.proofs.law.join_law.Goals as goal

pub returns : goal.returns
returns c = record {
  joins = λ segs loops. (join_from_Ok segs loops, join_of-Ok segs loops);
  opens = λ segs p. (λ is. first_open segs p (open_from_Err segs p is), λ is. join_of-open segs p (open_first segs p is));
  even_joins = λ segs even. (loops_from (length segs) segs, join_of-even segs even);
  odd_opens = join_of-odd;
  joins_even = λ segs loops is. joined_even (join_from_Ok segs loops is);
}
