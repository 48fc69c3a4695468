-- The walks and the loops of the rule are those of the function, and there are no others.
use Rattle.std.proofs.Common.{◌≡◌, ◌≢◌, ℕ, zero, suc, ◌≤◌, Bool, true, false, cond, Some, List, [], ◌∷◌, ◌++◌, length, ap, ◌∙◌, refl, sym, subst, inl, inr, arith, append_assoc}
use Rattle.std.specs.List.{find}
use Rattle.std.proofs.lemmas.Bool.{cases_Bool}
use Rattle.std.proofs.lemmas.List.{append-nil}
use Rattle.plane_exact.specs.Plane.{GridPoint}
use Rattle.plane_exact.specs.declared.point.Seg.{Seg}
use Rattle.plane_exact.specs.Same.{same_point}
use Rattle.loop_join.specs.Ends.{has_end, other_end, without_first}
use Rattle.loop_join.specs.Even.{IsEven, IsEvenWith}
use Rattle.loop_join.specs.Join.{Walk, at_rest, led_on, loops_from, walk_from}
use Rattle.loop_join.specs.Walks.{AreLoops, IsJoin, IsLoopFrom, IsWalk, begun, closed, none_yet, taken}
use Rattle.loop_join.proofs.Degrees.{even_begun, even_closed, goes_on, walk_even}
use Rattle.plane_exact.proofs.Differing.{same_point-false}
use Rattle.loop_join.proofs.Same.{same_point-ne, same_point-true, same_point_itself}

pub length-without_first : (p : GridPoint) (segs : List Seg) (s : Seg) → find (has_end p) segs ≡ Some s → length segs ≡ suc (length (without_first p segs))
length-without_first p [] s some = absurd (cc)
length-without_first p (t ∷ segs) s some = by_test (has_end p t) (length-without_first p segs s) some
  where
    by_test : (b : Bool) → (find (has_end p) segs ≡ Some s → length segs ≡ suc (length (without_first p segs))) → cond b (Some t) (find (has_end p) segs) ≡ Some s → length (t ∷ segs) ≡ suc (length (cond b segs (t ∷ without_first p segs)))
    by_test true later some = refl
    by_test false later some = ap suc (later some)

-- ---- the steps of the function
walk_from-home : (steps : ℕ) (start : GridPoint) (unused : List Seg) → walk_from steps start start unused ≡ at_rest unused
walk_from-home zero start unused = refl
walk_from-home (suc steps) start unused = let same = same_point_itself start in rw same refl

walk_from-on : (steps : ℕ) (start p : GridPoint) (unused : List Seg) (s : Seg) → p ≢ start → find (has_end p) unused ≡ Some s → walk_from (suc steps) start p unused ≡ led_on p (walk_from steps start (other_end p s) (without_first p unused))
walk_from-on steps start p unused s far some = let differ = same_point-ne p start far in rw (differ, some) refl

loops_from-none : (n : ℕ) → loops_from n [] ≡ []
loops_from-none zero = refl
loops_from-none (suc n) = refl

-- ---- the points of a loop
pub loop_begun : (s : Seg) (segs : List Seg) → IsLoopFrom s segs (s.a ∷ []) s.b segs
loop_begun s segs = record { walked = []; begins = refl; walk = begun }

pub loop_taken : (s : Seg) (segs : List Seg) (points : List GridPoint) (p : GridPoint) (unused : List Seg) (t : Seg) → IsLoopFrom s segs points p unused → p ≢ s.a → find (has_end p) unused ≡ Some t → IsLoopFrom s segs (points ++ p ∷ []) (other_end p t) (without_first p unused)
loop_taken s segs points p unused t is far some = record {
  walked = is.walked ++ p ∷ [];
  begins = ap (λ ps. ps ++ p ∷ []) is.begins;
  walk = taken t is.walk far some;
}

pub loop_closed : (segs : List Seg) (loops : List (List GridPoint)) (unused : List Seg) (s : Seg) (rest left : List Seg) (points : List GridPoint) → AreLoops segs loops unused → unused ≡ s ∷ rest → IsLoopFrom s rest points s.a left → AreLoops segs (loops ++ points ∷ []) left
loop_closed segs loops unused s rest left points are first is =
    let all = closed (subst (AreLoops segs loops) first are) is.walk in
    subst (λ ps. AreLoops segs (loops ++ ps ∷ []) left) (sym is.begins) all

-- ---- the function follows the rule
record IsLedHome (start first : GridPoint) (segs : List Seg) (points : List GridPoint) (unused : List Seg) (walk : Walk) : Type 0 where
  walked : IsWalk start first segs (points ++ walk.points) start walk.unused
  even : IsEven walk.unused
  fewer : length walk.unused ≤ length unused

home : (steps : ℕ) (start first p : GridPoint) (segs : List Seg) (points : List GridPoint) (unused : List Seg) → p ≡ start → IsWalk start first segs points p unused → IsEvenWith start first segs → IsLedHome start first segs points unused (walk_from steps start p unused)
home steps start first p segs points unused here walk even =
    let rests : walk_from steps start p unused ≡ at_rest unused = ap (λ q. walk_from steps start q unused) here ∙ walk_from-home steps start unused in
    let back : IsWalk start first segs points start unused = subst (λ q. IsWalk start first segs points q unused) here walk in
    let led : IsLedHome start first segs points unused (at_rest unused) = record {
      walked = subst (λ ps. IsWalk start first segs ps start unused) (sym (append-nil points)) back;
      even = even_closed start unused (walk_even back even);
      fewer = omega arith;
    } in
    subst (IsLedHome start first segs points unused) (sym rests) led

walk_is : (steps : ℕ) (start first p : GridPoint) (segs : List Seg) (points : List GridPoint) (unused : List Seg) → IsWalk start first segs points p unused → IsEvenWith start first segs → length unused ≤ steps → IsLedHome start first segs points unused (walk_from steps start p unused)
walk_is zero start first p segs points unused walk even few = elim (cases_Bool (same_point p start)) [
  | inl here ↦ home zero start first p segs points unused (same_point-true p start here) walk even
  | inr far ↦ (let next = goes_on start p unused (same_point-false p start far) (walk_even walk even) in absurd (omega (arith, length-without_first p unused next.0 next.1)))
]
walk_is (suc steps) start first p segs points unused walk even few = elim (cases_Bool (same_point p start)) [
  | inl here ↦ home (suc steps) start first p segs points unused (same_point-true p start here) walk even
  | inr far ↦ on (same_point-false p start far) (walk_is steps start first)
]
  where
    on : p ≢ start → ((q : GridPoint) (segs : List Seg) (points : List GridPoint) (unused : List Seg) → IsWalk start first segs points q unused → IsEvenWith start first segs → length unused ≤ steps → IsLedHome start first segs points unused (walk_from steps start q unused)) → IsLedHome start first segs points unused (walk_from (suc steps) start p unused)
    on far later =
        let next = goes_on start p unused far (walk_even walk even) in
        let s = next.0 in
        let rest = without_first p unused in
        let counted = length-without_first p unused s next.1 in
        let led = later (other_end p s) segs (points ++ p ∷ []) rest (taken s walk far next.1) even (omega arith) in
        let tail = walk_from steps start (other_end p s) rest in
        let regrouped : (points ++ p ∷ []) ++ tail.points ≡ points ++ p ∷ tail.points = append_assoc points (p ∷ []) tail.points in
        let all : IsLedHome start first segs points unused (led_on p tail) = record {
          walked = subst (λ ps. IsWalk start first segs ps start tail.unused) regrouped led.walked;
          even = led.even;
          fewer = omega (arith, led.fewer);
        } in
        subst (IsLedHome start first segs points unused) (sym (walk_from-on steps start p unused s far next.1)) all

loops_is : (n : ℕ) (segs : List Seg) (loops : List (List GridPoint)) (unused : List Seg) → AreLoops segs loops unused → IsEven unused → length unused ≤ n → AreLoops segs (loops ++ loops_from n unused) []
loops_is zero segs loops [] are even few = subst (λ ls. AreLoops segs ls []) (sym (append-nil loops)) are
loops_is zero segs loops (s ∷ unused) are even few = absurd (omega arith)
loops_is (suc n) segs loops [] are even few = subst (λ ls. AreLoops segs ls []) (sym (append-nil loops)) are
loops_is (suc n) segs loops (s ∷ unused) are even few =
    let walk = walk_from (length unused) s.a s.b unused in
    let led = walk_is (length unused) s.a s.b s.b unused [] unused begun (even_begun s unused even) (omega arith) in
    let next = loops_is n segs (loops ++ (s.a ∷ walk.points) ∷ []) walk.unused (closed are led.walked) led.even (omega (arith, led.fewer)) in
    subst (λ ls. AreLoops segs ls []) (append_assoc loops ((s.a ∷ walk.points) ∷ []) (loops_from n walk.unused)) next

-- segments of even degrees become loops by the rule
pub join_is : (segs : List Seg) → IsEven segs → IsJoin segs (loops_from (length segs) segs)
join_is segs even = loops_is (length segs) segs [] segs none_yet even (omega arith)

-- ---- the rule has one answer
prefixed : List GridPoint → Walk → Walk
prefixed points walk = record { points = points ++ walk.points; unused = walk.unused }

pub walk_fewer : {start first : GridPoint} {segs : List Seg} {points : List GridPoint} {p : GridPoint} {unused : List Seg} → IsWalk start first segs points p unused → length unused ≤ length segs
walk_fewer begun = omega arith
walk_fewer (taken {p} {unused} s walk far some) = omega (arith, walk_fewer walk, length-without_first p unused s some)

walk_led : {start first : GridPoint} {segs : List Seg} {points : List GridPoint} {p : GridPoint} {unused : List Seg} → IsWalk start first segs points p unused → walk_from (length segs) start first segs ≡ prefixed points (walk_from (length unused) start p unused)
unfolding prefixed
walk_led begun = refl
walk_led {start} (taken {points} {p} {unused} s walk far some) =
    let rest = without_first p unused in
    let tail = walk_from (length rest) start (other_end p s) rest in
    let counted : walk_from (length unused) start p unused ≡ walk_from (suc (length rest)) start p unused = ap (λ n. walk_from n start p unused) (length-without_first p unused s some) in
    let on = counted ∙ walk_from-on (length rest) start p unused s far some in
    let regrouped : points ++ p ∷ tail.points ≡ (points ++ p ∷ []) ++ tail.points = sym (append_assoc points (p ∷ []) tail.points) in
    walk_led walk ∙ ap (prefixed points) on ∙ ap (λ ps. let w : Walk = record { points = ps; unused = tail.unused } in w) regrouped

walk_home : {start first : GridPoint} {segs : List Seg} {points : List GridPoint} {unused : List Seg} → IsWalk start first segs points start unused → walk_from (length segs) start first segs ≡ record { points = points; unused = unused }
unfolding prefixed
walk_home {start} {points} {unused} walk =
    walk_led walk ∙ ap (prefixed points) (walk_from-home (length unused) start unused) ∙ ap (λ ps. let w : Walk = record { points = ps; unused = unused } in w) (append-nil points)

-- what the function has still to do, with a number that is large enough
record IsAhead (segs : List Seg) (loops : List (List GridPoint)) (unused : List Seg) : Type 0 where
  left : ℕ
  enough : length unused ≤ left
  same : loops_from (length segs) segs ≡ loops ++ loops_from left unused

ahead_closed : (segs : List Seg) (loops : List (List GridPoint)) (s : Seg) (unused rest : List Seg) (points : List GridPoint) (left : ℕ) → length (s ∷ unused) ≤ left → loops_from (length segs) segs ≡ loops ++ loops_from left (s ∷ unused) → IsWalk s.a s.b unused points s.a rest → IsAhead segs (loops ++ (s.a ∷ points) ∷ []) rest
ahead_closed segs loops s unused rest points zero enough same walk = absurd (omega arith)
ahead_closed segs loops s unused rest points (suc left) enough same walk = record {
  left = left;
  enough = omega (arith, walk_fewer walk);
  same = same ∙ ap (λ (w : Walk). loops ++ (s.a ∷ w.points) ∷ loops_from left w.unused) (walk_home walk) ∙ sym (append_assoc loops ((s.a ∷ points) ∷ []) (loops_from left rest));
}

ahead : {segs : List Seg} {loops : List (List GridPoint)} {unused : List Seg} → AreLoops segs loops unused → IsAhead segs loops unused
ahead {segs} none_yet = record { left = length segs; enough = omega arith; same = refl }
ahead {segs} (closed {loops} {s} {unused} {rest} {points} are walk) =
    let before = ahead are in ahead_closed segs loops s unused rest points before.left before.enough before.same walk

pub join_unique : {segs : List Seg} {loops : List (List GridPoint)} → IsJoin segs loops → loops_from (length segs) segs ≡ loops
join_unique {segs} {loops} is =
    let all = ahead is in all.same ∙ ap (λ ls. loops ++ ls) (loops_from-none all.left) ∙ append-nil loops
