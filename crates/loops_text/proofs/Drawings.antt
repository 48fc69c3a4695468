-- The edges of a drawing and the loop of each, and what one more loop adds.
use Rattle.std.proofs.Common.{◌≡◌, ◌≢◌, ℕ, ◌+◌, ◌-◌, ◌<◌, ◌≤◌, Bool, true, false, cond, suc, Option, None, Some, List, [], ◌∷◌, ◌++◌, length, map, get_or, replicate, sum_by, All, sym, ap, ◌∙◌, refl, inl, inr, add-zero, zero-add, arith, append_assoc, length-append}
use Rattle.std.specs.List.{list_any}
use Rattle.std.proofs.lemmas.List.Elements.{All-cons, All-head, All-nil, All-push, All-tail}
use Rattle.std.proofs.lemmas.List.Sums.{sum_by_push, sum_by-cons}
use Rattle.std.proofs.lemmas.Grind.{common_steps}
use Rattle.std.proofs.lemmas.List.{append-nil, get_or-append_right, get_or-replicate, get_or_append_left, length-map, length-replicate, map_push}
use Rattle.std.proofs.lemmas.Bool.{cases_lt, le-ltb, lt-ltb, ltb-false, or_parts}
use Rattle.plane_exact.specs.Plane.{GridPoint}
use Rattle.plane_exact.specs.Same.{same_point}
use Rattle.plane_exact.specs.declared.point.Seg.{Seg}
use Rattle.plane_exact.proofs.Differing.{same_point-false}
use Rattle.engrave_model.specs.Drawing.{AreOnGrid, IsDrawing, IsLoop, edges_back_to, edges_of, edges_of_loop, most_edges}
use Rattle.loops_text.specs.declared.drawing.PushFault.TheVariants.{TooMany}
use Rattle.loops_text.specs.Edges.{loop_number, push_fault}
use Rattle.loops_text.specs.Kept.{IsKept, numbers_from}

-- as many edges as points
length-edges_back_to : (first : GridPoint) (points : List GridPoint) → length (edges_back_to first points) ≡ length points
length-edges_back_to first [] = refl
length-edges_back_to first (p ∷ []) = refl
length-edges_back_to first (p ∷ q ∷ points) = ap suc (length-edges_back_to first (q ∷ points))

pub length-edges_of_loop : (points : List GridPoint) → length (edges_of_loop points) ≡ length points
length-edges_of_loop [] = refl
length-edges_of_loop (p ∷ points) = length-edges_back_to p (p ∷ points)

pub length-edges_of : (loops : List (List GridPoint)) → length (edges_of loops) ≡ sum_by length loops
length-edges_of [] = refl
length-edges_of (points ∷ loops) =
    omega (arith, length-append (edges_of_loop points) (edges_of loops), length-edges_of_loop points, length-edges_of loops, sum_by-cons length points loops)

pub edges_of_push : (loops : List (List GridPoint)) (points : List GridPoint) → edges_of (loops ++ points ∷ []) ≡ edges_of loops ++ edges_of_loop points
edges_of_push loops points = grind (arith, common_steps)

-- there are no more loops than points
pub loops_within_points : (loops : List (List GridPoint)) → All IsLoop loops → length loops ≤ sum_by length loops
loops_within_points [] each = omega arith
loops_within_points (points ∷ loops) each =
    omega (arith, sum_by-cons length points loops, loops_within_points loops (All-tail IsLoop points loops each), (All-head IsLoop points loops each).some)

pub few_loops : {loops : List (List GridPoint)} → IsDrawing loops → length loops ≤ 131072
few_loops {loops} is = omega (arith, loops_within_points loops is.each, is.few)

-- ---- the loop of each edge
pub length-numbers_from : (number : ℕ) (loops : List (List GridPoint)) → length (numbers_from number loops) ≡ sum_by length loops
length-numbers_from number [] = refl
length-numbers_from number (points ∷ loops) =
    omega (arith, length-append (replicate (length points) number) (numbers_from (number + 1) loops), length-replicate (length points) number, length-numbers_from (number + 1) loops, sum_by-cons length points loops)

pub numbers_from_push : (number : ℕ) (loops : List (List GridPoint)) (points : List GridPoint) → numbers_from number (loops ++ points ∷ []) ≡ numbers_from number loops ++ replicate (length points) (number + length loops)
numbers_from_push number [] points = rw (append-nil, add-zero) refl
numbers_from_push number (first ∷ loops) points =
    let firsts = replicate (length first) number in
    let others = numbers_from (number + 1) loops in
    let same : number + 1 + length loops ≡ number + suc (length loops) = omega arith in
    ap (λ numbers. firsts ++ numbers) (numbers_from_push (number + 1) loops points) ∙ sym (append_assoc firsts others (replicate (length points) (number + 1 + length loops))) ∙ ap (λ last. (firsts ++ others) ++ replicate (length points) last) same

pub number_at : (number : ℕ) (loops : List (List GridPoint)) (e : ℕ) → e < sum_by length loops → get_or (numbers_from number loops) e 0 ≡ number + loop_number loops e
number_at number [] e inside = absurd (omega arith)
number_at number (points ∷ loops) e inside =
    let firsts = replicate (length points) number in
    let others = numbers_from (number + 1) loops in
    let many : length firsts ≡ length points = length-replicate (length points) number in
    elim (cases_lt e (length points)) [
      | inl here ↦ get_or_append_left firsts others 0 e (omega arith) ∙ get_or-replicate (length points) e number 0 here ∙ rw (lt-ltb e (length points) here) (sym (add-zero number))
      | inr past ↦ (let later : e - length points < sum_by length loops = omega (arith, sum_by-cons length points loops) in
          let counted : number + 1 + loop_number loops (e - length points) ≡ number + (loop_number loops (e - length points) + 1) = omega arith in
          get_or-append_right firsts others (length points) e 0 many past ∙ number_at (number + 1) loops (e - length points) later ∙ rw (le-ltb e (length points) past) counted)
    ]

-- ---- one more loop
all_distinct : (edges : List Seg) → list_any (λ e. same_point e.a e.b) edges ≡ false → All (λ e. e.a ≢ e.b) edges
all_distinct [] none = All-nil (λ e. e.a ≢ e.b)
all_distinct (e ∷ edges) none =
    let parts = or_parts (same_point e.a e.b) (list_any (λ e. same_point e.a e.b) edges) none in
    All-cons (λ e. e.a ≢ e.b) e edges (same_point-false e.a e.b parts.0) (all_distinct edges parts.1)

pub record IsFree (loops : List (List GridPoint)) (points : List GridPoint) : Type 0 where
  pub is_loop : IsLoop points
  pub few : sum_by length loops + length points ≤ most_edges

passed : {A : Type 0} (broken : Bool) (fault : A) (later : Option A) → cond broken (Some fault) later ≡ None → (broken ≡ false) × (later ≡ None)
passed true fault later none = absurd (cc)
passed false fault later none = (refl, none)

IsFree-from_push_fault : (loops : List (List GridPoint)) (points : List GridPoint) → push_fault loops points ≡ None → IsFree loops points
IsFree-from_push_fault loops points none =
    let some = passed _ _ _ none in
    let distinct = passed _ _ _ some.1 in
    let few = passed _ _ _ distinct.1 in
    record {
      is_loop = record { some = ltb-false (length points) 2 some.0; distinct = all_distinct (edges_of_loop points) distinct.0 };
      few = ltb-false most_edges (sum_by length loops + length points) few.0;
    }

abbrev replicate_after : List (List GridPoint) → List GridPoint → ℕ → List ℕ
replicate_after loops points number = numbers_from 0 loops ++ replicate (length points) number

pub IsKept_push : (loops : List (List GridPoint)) (edges : List Seg) (numbers : List ℕ) (points : List GridPoint) → IsKept loops edges numbers → push_fault loops points ≡ None → AreOnGrid points → IsKept (loops ++ points ∷ []) (edges ++ edges_of_loop points) (numbers ++ replicate (length points) (length loops))
IsKept_push loops edges numbers points is none on_grid =
    let free = IsFree-from_push_fault loops points none in
    record {
      drawing = record { each = All-push IsLoop loops points is.drawing.each free.is_loop; few = omega (arith, sum_by_push length loops points, free.few); on_grid = All-push AreOnGrid loops points is.drawing.on_grid on_grid };
      edges_in_order = ap (λ before. before ++ edges_of_loop points) is.edges_in_order ∙ sym (edges_of_push loops points);
      numbers_in_order = ap (λ before. before ++ replicate (length points) (length loops)) is.numbers_in_order ∙ sym (numbers_from_push 0 loops points ∙ ap (replicate_after loops points) (zero-add (length loops)));
    }

-- ---- counts of what is kept
pub few_edges : {loops : List (List GridPoint)} {edges : List Seg} {numbers : List ℕ} → IsKept loops edges numbers → length edges ≤ 131072
few_edges {loops} is = omega (arith, length-edges_of loops, ap length is.edges_in_order, is.drawing.few)

pub points_counted : {loops : List (List GridPoint)} {edges : List Seg} {numbers : List ℕ} → IsKept loops edges numbers → length edges ≡ sum_by length loops
points_counted {loops} is = ap length is.edges_in_order ∙ length-edges_of loops

pub number_of_edge : {loops : List (List GridPoint)} {edges : List Seg} {numbers : List ℕ} → IsKept loops edges numbers → (e : ℕ) → e < length (edges_of loops) → (e < length numbers) × (get_or numbers e 0 ≡ loop_number loops e)
number_of_edge {loops} is e inside =
    let some : e < sum_by length loops = omega (arith, length-edges_of loops) in
    (omega (arith, ap length is.numbers_in_order, length-numbers_from 0 loops), ap (λ numbers. get_or numbers e 0) is.numbers_in_order ∙ number_at 0 loops e some ∙ zero-add (loop_number loops e))

-- ---- what a test of a new loop answers
pub push_fault-TooMany : (loops : List (List GridPoint)) (points : List GridPoint) → 2 ≤ length points → list_any (λ e. same_point e.a e.b) (edges_of_loop points) ≡ false → most_edges < sum_by length loops + length points → push_fault loops points ≡ Some TooMany
push_fault-TooMany loops points some distinct many =
    rw (le-ltb (length points) 2 some, distinct, lt-ltb most_edges (sum_by length loops + length points) many) refl

pub push_fault-None : (loops : List (List GridPoint)) (points : List GridPoint) → 2 ≤ length points → list_any (λ e. same_point e.a e.b) (edges_of_loop points) ≡ false → sum_by length loops + length points ≤ most_edges → push_fault loops points ≡ None
push_fault-None loops points some distinct few =
    rw (le-ltb (length points) 2 some, distinct, le-ltb most_edges (sum_by length loops + length points) few) refl

-- the vectors of a drawing with one more loop
pub IsKept_after : {V : Type 0} (items : V → List GridPoint) (vs ws : List V) (v : V) (edges edges' : List Seg) (numbers numbers' : List ℕ) (points : List GridPoint) (number : ℕ) → IsKept (map items vs) edges numbers → push_fault (map items vs) points ≡ None → AreOnGrid points → ws ≡ vs ++ v ∷ [] → items v ≡ points → edges' ≡ edges ++ edges_of_loop points → number ≡ length vs → numbers' ≡ numbers ++ replicate (length points) number → IsKept (map items ws) edges' numbers'
IsKept_after items vs ws v edges edges' numbers numbers' points number is none on_grid loops same edges-is number-is numbers-is =
    let loops-is : map items ws ≡ map items vs ++ points ∷ [] = ap (map items) loops ∙ map_push items vs v ∙ ap (λ p. map items vs ++ p ∷ []) same in
    let counted : number ≡ length (map items vs) = rw length-map number-is in
    let all_numbers : numbers' ≡ numbers ++ replicate (length points) (length (map items vs)) = numbers-is ∙ ap (λ n. numbers ++ replicate (length points) n) counted in
    let kept = IsKept_push (map items vs) edges numbers points is none on_grid in
    rw (loops-is, edges-is, all_numbers) kept
