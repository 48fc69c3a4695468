-- The invariants of the loop of `append_contacts`.
use Rattle.std.proofs.Common.{◌≡◌, ◌++◌, map}
use Rattle.std.specs.List.{range_with_len}
use Rattle.tangent_disc.specs.Contacts.{contact_on}
use Rattle.tangent_disc.proofs.listed.append_contacts.Given as goal

abbrev pub invariant-loop-k : goal.invariant-loop-k
invariant-loop-k l = l.contacts.items ≡ l.fn.contacts.items ++ map (contact_on l.loop_no l.edge l.n) (range_with_len 0 l.k)
