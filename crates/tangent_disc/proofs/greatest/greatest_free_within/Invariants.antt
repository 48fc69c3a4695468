-- The invariants of the loop of `greatest_free_within`.
use Rattle.engrave_model.specs.Drawing.{edges_of}
use Rattle.tangent_disc.proofs.Searches.{IsSearched}
use Rattle.tangent_disc.proofs.greatest.greatest_free_within.Given as goal

abbrev pub invariant-loop-e : goal.invariant-loop-e
invariant-loop-e l = IsSearched (edges_of l.scene) l.touch.side l.touch.point l.most l.j l.e-iterator
