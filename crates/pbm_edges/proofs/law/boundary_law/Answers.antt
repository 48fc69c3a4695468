-- Answers the goal of `boundary_law`.
use Rattle.pbm_edges.proofs.Longest.{the_runs}
use Rattle.pbm_edges.proofs.law.boundary_law.Goals as goal

pub returns : goal.returns
returns c = the_runs
