-- How the degrees of points change as segments are taken away, and that even degrees lead a walk on.
use Rattle.std.proofs.Common.{◌≡◌, ◌≢◌, ℕ, ◌+◌, ◌%◌, ◌<◌, Bool, true, false, ◌||◌, cond, Some, List, [], ◌∷◌, ap, ◌∙◌, refl, sym, inl, inr, arith, sum_by}
use Rattle.std.specs.List.{find}
use Rattle.std.proofs.lemmas.Bool.{cases_Bool}
use Rattle.std.proofs.lemmas.List.Sums.{sum_by-cons}
use Rattle.plane_exact.specs.Plane.{GridPoint}
use Rattle.plane_exact.specs.declared.point.Seg.{Seg}
use Rattle.plane_exact.specs.Same.{same_point}
use Rattle.loop_join.specs.Ends.{degree, ends_of, has_end, other_end, without_first}
use Rattle.loop_join.specs.Even.{IsEven, IsEvenWith, at}
use Rattle.loop_join.specs.Walks.{AreLoops, IsJoin, IsWalk, begun, closed, none_yet, taken}
use Rattle.loop_join.proofs.Same.{at_itself, at_other, ends_from}

pub degree-cons : (s : Seg) (segs : List Seg) (q : GridPoint) → degree (s ∷ segs) q ≡ at q s.a + at q s.b + degree segs q
degree-cons s segs q = omega (arith, sum_by-cons (at q) s.a (s.b ∷ ends_of segs), sum_by-cons (at q) s.b (ends_of segs))

-- ---- the first segment at a point
pub find_passes : {A : Type 0} (test : A → Bool) (xs : List A) (y : A) → find test xs ≡ Some y → test y ≡ true
find_passes test [] y some = absurd (cc)
find_passes test (x ∷ xs) y some = elim (cases_Bool (test x)) [
  | inl here ↦ (let same : x ≡ y = cc (rw here at some) in rw (← same) here)
  | inr past ↦ find_passes test xs y (rw past at some)
]

pub sum_without_first : (f : Seg → ℕ) (p : GridPoint) (segs : List Seg) (s : Seg) → find (has_end p) segs ≡ Some s → sum_by f segs ≡ f s + sum_by f (without_first p segs)
sum_without_first f p [] s some = absurd (cc)
sum_without_first f p (t ∷ segs) s some = by_test (has_end p t) (sum_without_first f p segs s) some
  where
    by_test : (b : Bool) → (find (has_end p) segs ≡ Some s → sum_by f segs ≡ f s + sum_by f (without_first p segs)) → cond b (Some t) (find (has_end p) segs) ≡ Some s → sum_by f (t ∷ segs) ≡ f s + sum_by f (cond b segs (t ∷ without_first p segs))
    by_test true later some = let same : t ≡ s = cc in omega (arith, sum_by-cons f t segs, ap f same)
    by_test false later some = omega (arith, sum_by-cons f t segs, sum_by-cons f t (without_first p segs), later some)

-- the degree as a sum over the segments
degree_sum : (q : GridPoint) (segs : List Seg) → degree segs q ≡ sum_by (λ s. at q s.a + at q s.b) segs
degree_sum q [] = refl
degree_sum q (s ∷ segs) = omega (arith, degree-cons s segs q, sum_by-cons (λ s. at q s.a + at q s.b) s segs, degree_sum q segs)

at_ends : (q p : GridPoint) (s : Seg) → has_end p s ≡ true → at q s.a + at q s.b ≡ at q p + at q (other_end p s)
at_ends q p s has = elim (ends_from p s has) [
  | inl ends ↦ omega (arith, ap (at q) ends.0, ap (at q) ends.1)
  | inr ends ↦ omega (arith, ap (at q) ends.0, ap (at q) ends.1)
]

pub degree_without_first : (p : GridPoint) (segs : List Seg) (s : Seg) → find (has_end p) segs ≡ Some s → (q : GridPoint) → degree segs q ≡ at q p + at q (other_end p s) + degree (without_first p segs) q
degree_without_first p segs s some q =
    let has = find_passes (has_end p) segs s some in
    omega (arith, degree_sum q segs, degree_sum q (without_first p segs), sum_without_first (λ s. at q s.a + at q s.b) p segs s some, at_ends q p s has)

-- ---- even degrees at the begin and at the end of a walk
pub even_begun : (s : Seg) (segs : List Seg) → IsEven (s ∷ segs) → IsEvenWith s.a s.b segs
even_begun s segs is = record { even = λ q. omega (arith, degree-cons s segs q, is.even q) }

pub even_closed : (start : GridPoint) (segs : List Seg) → IsEvenWith start start segs → IsEven segs
even_closed start segs is = record { even = λ q. omega (arith, is.even q) }

found_from_degree : (p : GridPoint) (segs : List Seg) → 0 < degree segs p → (s : Seg) × (find (has_end p) segs ≡ Some s)
found_from_degree p [] some = absurd (omega arith)
found_from_degree p (t ∷ segs) some = by_test (same_point p t.a) (same_point p t.b) (found_from_degree p segs) (degree-cons t segs p)
  where
    by_test : (a b : Bool) → (0 < degree segs p → (s : Seg) × (find (has_end p) segs ≡ Some s)) → degree (t ∷ segs) p ≡ cond a 1 0 + cond b 1 0 + degree segs p → (s : Seg) × (cond (a || b) (Some t) (find (has_end p) segs) ≡ Some s)
    by_test true b later counted = (t, refl)
    by_test false true later counted = (t, refl)
    by_test false false later counted = later (omega arith)

-- a walk never gets stuck before its start
pub goes_on : (start p : GridPoint) (segs : List Seg) → p ≢ start → IsEvenWith start p segs → (s : Seg) × (find (has_end p) segs ≡ Some s)
goes_on start p segs far is = found_from_degree p segs (omega (arith, is.even p, at_itself p, at_other p start far))

-- ---- all degrees stay even or odd as loops are taken
pub walk_parity : {start first : GridPoint} {segs : List Seg} {points : List GridPoint} {p : GridPoint} {unused : List Seg} → IsWalk start first segs points p unused → (q : GridPoint) → (at q start + at q first + degree segs q) % 2 ≡ (at q start + at q p + degree unused q) % 2
walk_parity begun q = refl
walk_parity (taken {p} {unused} s walk far some) q = omega (arith, walk_parity walk q, degree_without_first p unused s some q)

pub loops_parity : {segs : List Seg} {loops : List (List GridPoint)} {unused : List Seg} → AreLoops segs loops unused → (q : GridPoint) → degree segs q % 2 ≡ degree unused q % 2
loops_parity none_yet q = refl
loops_parity (closed {s} {unused} {rest} loops walk) q = omega (arith, loops_parity loops q, degree-cons s unused q, walk_parity walk q)

-- what is left of even degrees has even degrees, too
pub walk_even : {start first : GridPoint} {segs : List Seg} {points : List GridPoint} {p : GridPoint} {unused : List Seg} → IsWalk start first segs points p unused → IsEvenWith start first segs → IsEvenWith start p unused
walk_even walk is = record { even = λ q. sym (walk_parity walk q) ∙ is.even q }

pub loops_even : {segs : List Seg} {loops : List (List GridPoint)} {unused : List Seg} → AreLoops segs loops unused → IsEven segs → IsEven unused
loops_even are is = record { even = λ q. sym (loops_parity are q) ∙ is.even q }

-- what becomes loops has even degrees
pub joined_even : {segs : List Seg} {loops : List (List GridPoint)} → IsJoin segs loops → IsEven segs
joined_even is = record { even = λ q. loops_parity is q }
