-- The invariants of the loop of `listed`.
use Rattle.std.proofs.Common.{◌≡◌, flat_map, take}
use Rattle.std.specs.List.{enumerate_from}
use Rattle.loops_text.specs.Edges.{loop_number}
use Rattle.tangent_disc.specs.Contacts.{contacts_along}
use Rattle.tangent_disc.proofs.listed.listed.Given as goal

abbrev pub invariant-loop-e : goal.invariant-loop-e
invariant-loop-e l = l.contacts.items ≡ flat_map (λ edge. contacts_along (loop_number l.d edge.0) edge.0 edge.1) (take l.e (enumerate_from 0 l.pieces))
