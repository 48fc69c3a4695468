-- What the result of joining says of the segments.
use Rattle.std.proofs.Common.{◌≡◌, Option, None, Some, Ok, Err, List, length, ap, ◌∙◌, refl, ◌%◌, arith}
use Rattle.plane_exact.specs.Plane.{GridPoint}
use Rattle.plane_exact.specs.declared.point.Seg.{Seg}
use Rattle.loop_join.specs.Ends.{degree, open_point}
use Rattle.loop_join.specs.Even.{IsEven}
use Rattle.loop_join.specs.Join.{join_of, loops_from, unless_open}
use Rattle.loop_join.specs.Walks.{IsJoin}
use Rattle.loop_join.specs.declared.joining.JoinFault.TheVariants.{Open}
use Rattle.loop_join.proofs.Degrees.{joined_even}
use Rattle.loop_join.proofs.Joined.{join_is, join_unique}
use Rattle.loop_join.proofs.Opens.{even_from_none, none_from_even}

no_point : (point : Option GridPoint) (all loops : List (List GridPoint)) → unless_open point all ≡ Ok loops → (point ≡ None) × (all ≡ loops)
no_point None all loops is = (refl, cc)
no_point (Some p) all loops is = absurd (cc)

some_point : (point : Option GridPoint) (all : List (List GridPoint)) (p : GridPoint) → unless_open point all ≡ Err (Open p) → point ≡ Some p
some_point None all p is = absurd (cc)
some_point (Some q) all p is = let same : q ≡ p = cc in ap Some same

pub join_from_Ok : (segs : List Seg) (loops : List (List GridPoint)) → join_of segs ≡ Ok loops → IsJoin segs loops
unfolding join_of
join_from_Ok segs loops is =
    let parts = no_point (open_point segs) (loops_from (length segs) segs) loops is in
    rw parts.1 at (join_is segs (even_from_none segs parts.0))

pub open_from_Err : (segs : List Seg) (p : GridPoint) → join_of segs ≡ Err (Open p) → open_point segs ≡ Some p
unfolding join_of
open_from_Err segs p is = some_point (open_point segs) (loops_from (length segs) segs) p is

pub join_of-even : (segs : List Seg) → IsEven segs → join_of segs ≡ Ok (loops_from (length segs) segs)
unfolding join_of
join_of-even segs even = ap (λ point. unless_open point (loops_from (length segs) segs)) (none_from_even segs even)

pub join_of-open : (segs : List Seg) (p : GridPoint) → open_point segs ≡ Some p → join_of segs ≡ Err (Open p)
unfolding join_of
join_of-open segs p first = ap (λ point. unless_open point (loops_from (length segs) segs)) first

pub join_of-Ok : (segs : List Seg) (loops : List (List GridPoint)) → IsJoin segs loops → join_of segs ≡ Ok loops
join_of-Ok segs loops is = join_of-even segs (joined_even is) ∙ ap Ok (join_unique is)

-- where some degree is odd, there is an open point
open_from_odd : (segs : List Seg) (q : GridPoint) (point : Option GridPoint) → open_point segs ≡ point → degree segs q % 2 ≡ 1 → (p : GridPoint) × (open_point segs ≡ Some p)
open_from_odd segs q None none odd = absurd (let even = (even_from_none segs none).even q in omega arith)
open_from_odd segs q (Some p) some odd = (p, some)

pub join_of-odd : (segs : List Seg) (q : GridPoint) → degree segs q % 2 ≡ 1 → (p : GridPoint) × (join_of segs ≡ Err (Open p))
join_of-odd segs q odd = let first = open_from_odd segs q (open_point segs) refl odd in (first.0, join_of-open segs first.0 first.1)
