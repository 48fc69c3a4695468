-- What holds of all points of the outline holds of those of each edge, and the other way round.
use Rattle.std.proofs.Common.{List, get_or, subst}
use Rattle.std.specs.Prelude.{All}
use Rattle.std.proofs.lemmas.List.{get_or_default}
use Rattle.plane_exact.specs.Plane.{RationalPoint, IsBetween}
use Rattle.plane_exact.specs.declared.point.Seg.{Seg}
use Rattle.engrave_model.specs.Inside.{IsOnOutline}

module _ (P : RationalPoint → Type 0) (edges : List Seg) where
  abbrev HoldsOf : Seg → Type 0
  HoldsOf e = (w : RationalPoint) → IsBetween e.a e.b w → P w

  pub outline_of_each : All HoldsOf edges → (w : RationalPoint) → IsOnOutline edges w → P w
  outline_of_each each w on =
      let e = on.1 in
      let holds : HoldsOf e = subst HoldsOf on.3 (each on.0 e on.2) in
      holds w on.4

  pub each_of_outline : ((w : RationalPoint) → IsOnOutline edges w → P w) → All HoldsOf edges
  each_of_outline all k d below w between = all w (k, get_or edges k d, below, get_or_default edges k (get_or edges k d) d below, between)
