-- The edges of the loops are the segments, each once.
use Rattle.std.proofs.Common.{◌≡◌, ℕ, ◌+◌, Bool, true, false, ◌&&◌, ◌||◌, cond, List, [], ◌∷◌, ◌++◌, ap, ap₂, ◌∙◌, refl, sym, inl, inr, arith, count_by}
use Rattle.std.proofs.lemmas.List.Sums.{sum_by-append, sum_by-cons, sum_by_push}
use Rattle.plane_exact.specs.Plane.{GridPoint}
use Rattle.plane_exact.specs.declared.point.Seg.{Seg}
use Rattle.engrave_model.specs.Drawing.{edges_back_to, edges_of}
use Rattle.plane_exact.specs.Same.{same_point}
use Rattle.loops_text.proofs.Drawings.{edges_of_push}
use Rattle.loop_join.specs.Ends.{has_end, other_end}
use Rattle.loop_join.specs.Once.{HasEachOnce, runs_along}
use Rattle.loop_join.specs.Walks.{AreLoops, IsJoin, IsWalk, begun, closed, none_yet, taken}
use Rattle.loop_join.proofs.Degrees.{find_passes, sum_without_first}
use Rattle.loop_join.proofs.Same.{ends_from}

-- the edge from one point to another
abbrev pub edge : GridPoint → GridPoint → Seg
edge a b = record { a = a; b = b }

-- ---- the edges along a walk
pub edges_back_to_push : (q p : GridPoint) (points : List GridPoint) → edges_back_to q (points ++ p ∷ []) ≡ edges_back_to p points ++ edge p q ∷ []
edges_back_to_push q p [] = refl
edges_back_to_push q p (r ∷ []) = refl
edges_back_to_push q p (r ∷ t ∷ points) = ap (λ edges. edge r t ∷ edges) (edges_back_to_push q p (t ∷ points))

-- a walk's first edge leads to where it began
pub edges_from : {start first : GridPoint} {segs : List Seg} {points : List GridPoint} {p : GridPoint} {unused : List Seg} → IsWalk start first segs points p unused → (x : GridPoint) → edges_back_to p (x ∷ points) ≡ edge x first ∷ edges_back_to p points
edges_from begun x = refl
edges_from {first} (taken {points} {p} {unused} s walk far some) x =
    let q = other_end p s in
    edges_back_to_push q p (x ∷ points) ∙ ap (λ edges. edges ++ edge p q ∷ []) (edges_from walk x) ∙ ap (λ edges. edge x first ∷ edges) (sym (edges_back_to_push q p points))

-- ---- how many run along a segment
or_comm : (a b : Bool) → (a || b) ≡ (b || a)
or_comm true true = refl
or_comm true false = refl
or_comm false true = refl
or_comm false false = refl

along_same : (p : GridPoint) (s e : Seg) → has_end p s ≡ true → runs_along e (edge p (other_end p s)) ≡ runs_along e s
along_same p s e has = elim (ends_from p s has) [
  | inl ends ↦ ap₂ (λ a b. runs_along e (edge a b)) ends.0 ends.1
  | inr ends ↦ ap₂ (λ a b. runs_along e (edge a b)) ends.0 ends.1 ∙ or_comm (same_point e.a s.b && same_point e.b s.a) (same_point e.a s.a && same_point e.b s.b)
]

along : Seg → Seg → ℕ
along e s = cond (runs_along e s) 1 0

walk_counts : {start first : GridPoint} {segs : List Seg} {points : List GridPoint} {p : GridPoint} {unused : List Seg} → IsWalk start first segs points p unused → (e : Seg) → count_by (runs_along e) (edges_back_to p points) + count_by (runs_along e) unused ≡ count_by (runs_along e) segs
unfolding along
walk_counts {segs} begun e = omega arith
walk_counts (taken {points} {p} {unused} s walk far some) e =
    let q = other_end p s in
    let step : along e (edge p q) ≡ along e s = ap (λ b. cond b 1 0) (along_same p s e (find_passes (has_end p) unused s some)) in
    omega (arith, ap (count_by (runs_along e)) (edges_back_to_push q p points), sum_by_push (along e) (edges_back_to p points) (edge p q), sum_without_first (along e) p unused s some, step, walk_counts walk e)

loops_count : {segs : List Seg} {loops : List (List GridPoint)} {unused : List Seg} → AreLoops segs loops unused → (e : Seg) → count_by (runs_along e) (edges_of loops) + count_by (runs_along e) unused ≡ count_by (runs_along e) segs
unfolding along
loops_count none_yet e = omega arith
loops_count (closed {loops} {s} {unused} {rest} {points} are walk) e =
    let edges = edges_of_push loops (s.a ∷ points) ∙ ap (λ more. edges_of loops ++ more) (edges_from walk s.a) in
    omega (arith, ap (count_by (runs_along e)) edges, sum_by-append (along e) (edges_of loops) (s ∷ edges_back_to s.a points), sum_by-cons (along e) s (edges_back_to s.a points), sum_by-cons (along e) s unused, walk_counts walk e, loops_count are e)

pub each_once : {segs : List Seg} {loops : List (List GridPoint)} → IsJoin segs loops → HasEachOnce segs loops
each_once is e = omega (arith, loops_count is e)
