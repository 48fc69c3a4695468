-- What the loops of segments are worth: exactly the rule's, and exactly where no point is open.
use Rattle.std.specs.Prelude.{◌≡◌, ◌↔◌, ◌%◌, Ok, Err, List}
use Rattle.plane_exact.specs.Plane.{GridPoint}
use Rattle.plane_exact.specs.declared.point.Seg.{Seg}
use Rattle.loop_join.specs.Ends.{IsFirstOpen, degree}
use Rattle.loop_join.specs.Even.{IsEven}
use Rattle.loop_join.specs.Join.{join_of}
use Rattle.loop_join.specs.Walks.{IsJoin}
use Rattle.loop_join.specs.declared.joining.JoinFault.TheVariants.{Open}

-- Segments become loops exactly where every degree is even, and they are the loops of the rule, which has no others; where some degree
-- is odd, the answer is the first point of odd degree.
pub record JoinLaw : Type 0 where
  pub joins : (segs : List Seg) (loops : List (List GridPoint)) → (join_of segs ≡ Ok loops) ↔ IsJoin segs loops
  pub opens : (segs : List Seg) (p : GridPoint) → (join_of segs ≡ Err (Open p)) ↔ IsFirstOpen segs p
  pub even_joins : (segs : List Seg) → IsEven segs → (loops : List (List GridPoint)) × (join_of segs ≡ Ok loops)
  pub odd_opens : (segs : List Seg) (q : GridPoint) → degree segs q % 2 ≡ 1 → (p : GridPoint) × (join_of segs ≡ Err (Open p))
  pub joins_even : (segs : List Seg) (loops : List (List GridPoint)) → join_of segs ≡ Ok loops → IsEven segs
