-- Points of the grid that aren't one.
use Rattle.std.proofs.Common.{◌≡◌, ◌≢◌, false, ap}
use Rattle.std.specs.Ordering.{int_eq}
use Rattle.std.proofs.lemmas.Bool.Decides.{Decides-int_eq}
use Rattle.std.proofs.lemmas.Bool.{and_from, both_ways}
use Rattle.plane_exact.specs.Plane.{GridPoint}
use Rattle.plane_exact.specs.Same.{same_point}

pub same_point-false : (p q : GridPoint) → same_point p q ≡ false → p ≢ q
same_point-false p q differ same =
    both_ways (same_point p q) differ (and_from (int_eq p.x q.x) (int_eq p.y q.y) ((Decides-int_eq p.x q.x).1 (ap (λ r. r.x) same)) ((Decides-int_eq p.y q.y).1 (ap (λ r. r.y) same)))
