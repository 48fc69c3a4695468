-- The invariants of the loop of `all_pieces`.
use Rattle.std.proofs.Common.{All, take}
use Rattle.std.specs.List.{AllWithin, AllZip}
use Rattle.plane_exact.specs.Cone.{IsFromOneTo}
use Rattle.tangent_disc.specs.Contacts.{IsPieces, IsTooFine}
use Rattle.tangent_disc.proofs.listed.all_pieces.Given as goal

abbrev pub invariant-loop-e : goal.invariant-loop-e
invariant-loop-e l = record {
  divided : AllZip (IsPieces l.step) (take l.e l.edges) l.pieces.items;
  coarse : All (IsFromOneTo 8192) l.pieces.items;
  before : AllWithin (λ edge. ¬ IsTooFine l.step edge) l.edges 0 l.e;
}
