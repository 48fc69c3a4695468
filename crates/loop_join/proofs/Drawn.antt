-- The loops of segments whose ends differ are a drawing.
use Rattle.std.proofs.Common.{◌≡◌, ◌≢◌, ◌+◌, ◌≤◌, Bool, true, false, cond, None, Some, List, [], ◌∷◌, length, All, ◌∙◌, sym, subst, inl, inr, arith, sum_by}
use Rattle.std.specs.List.{find}
use Rattle.std.proofs.lemmas.List.Elements.{All-cons, All-head, All-nil, All-push, All-tail, All-weaker}
use Rattle.std.proofs.lemmas.List.Folds.{list_any_none}
use Rattle.std.proofs.lemmas.List.Sums.{sum_by_push}
use Rattle.std.proofs.lemmas.List.{length_push}
use Rattle.plane_exact.specs.Plane.{GridPoint}
use Rattle.plane_exact.specs.declared.point.Seg.{Seg}
use Rattle.engrave_model.specs.Drawing.{IsLoop, edges_back_to, edges_of_loop, most_edges}
use Rattle.loops_text.specs.Edges.{push_fault}
use Rattle.plane_exact.specs.Same.{same_point}
use Rattle.loops_text.proofs.Drawings.{push_fault-None}
use Rattle.loop_join.specs.Ends.{has_end, other_end, without_first}
use Rattle.loop_join.specs.Walks.{AreLoops, IsLoopFrom, IsWalk, begun, closed, none_yet, taken}
use Rattle.loop_join.proofs.Counted.{edge, edges_back_to_push, edges_from}
use Rattle.loop_join.proofs.Degrees.{find_passes}
use Rattle.loop_join.proofs.Joined.{length-without_first}
use Rattle.loop_join.proofs.Same.{ends_from, same_point-ne}

abbrev pub IsApart : Seg → Type 0
IsApart s = s.a ≢ s.b

abbrev pub AreApart : List Seg → Type 0
AreApart segs = All (λ s. s.a ≢ s.b) segs

-- ---- the segment that is found, and those that are left
abbrev IsParted : GridPoint → List Seg → Seg → Type 0
IsParted p segs s = (s.a ≢ s.b) × AreApart (without_first p segs)

parted : (p : GridPoint) (segs : List Seg) (s : Seg) → find (has_end p) segs ≡ Some s → AreApart segs → IsParted p segs s
parted p [] s some all = absurd (cc)
parted p (t ∷ segs) s some all = by_test (has_end p t) (parted p segs s) some
  where
    here : t.a ≢ t.b
    here = All-head (λ (e : Seg). e.a ≢ e.b) t segs all

    rest : AreApart segs
    rest = All-tail (λ (e : Seg). e.a ≢ e.b) t segs all

    by_test : (b : Bool) → (find (has_end p) segs ≡ Some s → AreApart segs → IsParted p segs s) → cond b (Some t) (find (has_end p) segs) ≡ Some s → (s.a ≢ s.b) × AreApart (cond b segs (t ∷ without_first p segs))
    by_test true later some = let same : t ≡ s = cc in (subst (λ (e : Seg). e.a ≢ e.b) same here, rest)
    by_test false later some = let next = later some rest in (next.0, All-cons (λ (e : Seg). e.a ≢ e.b) t (without_first p segs) here next.1)

other_apart : (p : GridPoint) (s : Seg) → s.a ≢ s.b → has_end p s ≡ true → p ≢ other_end p s
other_apart p s apart has same = elim (ends_from p s has) [
  | inl ends ↦ apart (sym ends.0 ∙ same ∙ ends.1)
  | inr ends ↦ apart (sym ends.1 ∙ sym same ∙ ends.0)
]

-- ---- walks
record IsWalkApart (points : List GridPoint) (p : GridPoint) (unused : List Seg) : Type 0 where
  along : AreApart (edges_back_to p points)
  left : AreApart unused

walk_apart : {start first : GridPoint} {segs : List Seg} {points : List GridPoint} {p : GridPoint} {unused : List Seg} → IsWalk start first segs points p unused → AreApart segs → IsWalkApart points p unused
walk_apart begun all = record { along = All-nil (λ (e : Seg). e.a ≢ e.b); left = all }
walk_apart (taken {points} {p} {unused} s walk far some) all =
    let before = walk_apart walk all in
    let q = other_end p s in
    let parts = parted p unused s some before.left in
    let step = other_apart p s parts.0 (find_passes (has_end p) unused s some) in
    record {
      along = subst AreApart (sym (edges_back_to_push q p points)) (All-push (λ (e : Seg). e.a ≢ e.b) (edges_back_to p points) (edge p q) before.along step);
      left = parts.1;
    }

walk_length : {start first : GridPoint} {segs : List Seg} {points : List GridPoint} {p : GridPoint} {unused : List Seg} → IsWalk start first segs points p unused → length points + length unused ≡ length segs
walk_length begun = omega arith
walk_length (taken {points} {p} {unused} s walk far some) = omega (arith, walk_length walk, length_push points p, length-without_first p unused s some)

walked_some : (s : Seg) (unused rest : List Seg) (points : List GridPoint) → IsWalk s.a s.b unused points s.a rest → s.a ≢ s.b → 1 ≤ length points
walked_some s unused rest [] walk apart = absurd (apart (let edges = edges_from walk s.a in cc))
walked_some s unused rest (p ∷ points) walk apart = omega arith

-- ---- loops
pub loop_is : (s : Seg) (unused rest : List Seg) (points : List GridPoint) → IsWalk s.a s.b unused points s.a rest → s.a ≢ s.b → AreApart unused → IsLoop (s.a ∷ points)
loop_is s unused rest points walk apart all = record {
  some = omega (arith, walked_some s unused rest points walk apart);
  distinct = subst AreApart (sym (edges_from walk s.a)) (All-cons (λ (e : Seg). e.a ≢ e.b) s (edges_back_to s.a points) apart (walk_apart walk all).along);
}

loops_length : {segs : List Seg} {loops : List (List GridPoint)} {unused : List Seg} → AreLoops segs loops unused → sum_by length loops + length unused ≡ length segs
loops_length none_yet = omega arith
loops_length (closed {loops} {s} {unused} {rest} {points} are walk) =
    omega (arith, loops_length are, sum_by_push length loops (s.a ∷ points), walk_length walk)

loops_apart : {segs : List Seg} {loops : List (List GridPoint)} {unused : List Seg} → AreLoops segs loops unused → AreApart segs → AreApart unused
loops_apart none_yet all = all
loops_apart (closed {s} {unused} are walk) all = (walk_apart walk (All-tail (λ (e : Seg). e.a ≢ e.b) s unused (loops_apart are all))).left

-- a drawing takes the next loop
pub push_none : {segs : List Seg} {loops : List (List GridPoint)} {s : Seg} {unused rest : List Seg} {points : List GridPoint} → AreLoops segs loops (s ∷ unused) → IsLoopFrom s unused points s.a rest → AreApart segs → length segs ≤ most_edges → push_fault loops points ≡ None
push_none {loops} {s} {unused} {rest} {points} are is all few =
    let left = loops_apart are all in
    let loop = loop_is s unused rest is.walked is.walk (All-head (λ (e : Seg). e.a ≢ e.b) s unused left) (All-tail (λ (e : Seg). e.a ≢ e.b) s unused left) in
    let differ = list_any_none (λ (e : Seg). same_point e.a e.b) (edges_of_loop (s.a ∷ is.walked)) (All-weaker (λ (e : Seg). e.a ≢ e.b) (λ e. same_point e.a e.b ≡ false) (λ e. same_point-ne e.a e.b) (edges_of_loop (s.a ∷ is.walked)) loop.distinct) in
    let free = push_fault-None loops (s.a ∷ is.walked) loop.some differ (omega (arith, loops_length are, walk_length is.walk, few)) in
    subst (λ ps. push_fault loops ps ≡ None) (sym is.begins) free
