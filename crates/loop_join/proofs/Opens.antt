-- The first point of odd degree.
use Rattle.std.proofs.Common.{◌≡◌, ℕ, ◌+◌, ◌%◌, ◌<◌, Bool, true, false, cond, Some, None, List, [], ◌∷◌, ◌++◌, ap, ◌∙◌, refl, sym, arith, count_by, drop, get_or, length, All}
use Rattle.std.specs.List.{find}
use Rattle.std.proofs.lemmas.Bool.{both_ways, eqb-true, eqb-false, eq-eqb, false_from_ne_true, ne_eqb}
use Rattle.std.proofs.lemmas.List.Elements.{All-cons, All-head, All-nil, All-tail, All-weaker}
use Rattle.std.proofs.lemmas.List.{at_drop_more}
use Rattle.std.proofs.lemmas.List.Sums.{sum_by-cons}
use Rattle.plane_exact.specs.Plane.{GridPoint}
use Rattle.plane_exact.specs.declared.point.Seg.{Seg}
use Rattle.plane_exact.specs.Same.{same_point}
use Rattle.loop_join.specs.Ends.{IsFirstOpen, degree, ends_of, is_odd, open_point}
use Rattle.loop_join.specs.Even.{IsEven}
use Rattle.loop_join.proofs.Same.{same_point-true}

-- ---- the first that passes a test
module _ {A : Type 0} (test : A → Bool) where
  -- the list is cut at the first that passes
  record IsCut (xs : List A) (y : A) : Type 0 where
    before : List A
    after : List A
    is : xs ≡ before ++ y ∷ after
    passes : test y ≡ true
    none_before : All (λ x. test x ≡ false) before

  cut_at : (xs : List A) (y : A) → find test xs ≡ Some y → IsCut xs y
  cut_at [] y some = absurd (cc)
  cut_at (x ∷ xs) y some = by_test (test x) (λ past. cut_at xs y past) refl some
    where
      by_test : (b : Bool) → (find test xs ≡ Some y → IsCut xs y) → test x ≡ b → cond b (Some x) (find test xs) ≡ Some y → IsCut (x ∷ xs) y
      by_test true later is some = let same : x ≡ y = cc in record { before = []; after = xs; is = ap (λ z. z ∷ xs) same; passes = ap test (sym same) ∙ is; none_before = All-nil (λ z. test z ≡ false) }
      by_test false later is some =
          let cut = later some in
          record {
            before = x ∷ cut.before;
            after = cut.after;
            is = ap (λ zs. x ∷ zs) cut.is;
            passes = cut.passes;
            none_before = All-cons (λ z. test z ≡ false) x cut.before is cut.none_before;
          }

  found_at : (before after : List A) (y : A) → All (λ x. test x ≡ false) before → test y ≡ true → find test (before ++ y ∷ after) ≡ Some y
  found_at [] after y none here = rw here refl
  found_at (x ∷ before) after y none here =
      let past : test x ≡ false = All-head (λ z. test z ≡ false) x before none in
      rw past (found_at before after y (All-tail (λ z. test z ≡ false) x before none) here)

  found_nowhere : (xs : List A) → ((x : A) → test x ≡ false) → find test xs ≡ None
  found_nowhere [] none = refl
  found_nowhere (x ∷ xs) none = let past : test x ≡ false = none x in rw past (found_nowhere xs none)

  -- where nothing passes, one that is counted by another test doesn't either
  counted_fails : (counts : A → Bool) (xs : List A) → find test xs ≡ None → 0 < count_by counts xs → (x : A) × ((counts x ≡ true) × (test x ≡ false))
  counted_fails counts [] none some = absurd (omega arith)
  counted_fails counts (x ∷ xs) none some = by_tests (test x) (counts x) (counted_fails counts xs) refl refl none
    where
      counted : ◌≡◌ {A = ℕ} (count_by counts (x ∷ xs)) (cond (counts x) 1 0 + count_by counts xs)
      counted = sum_by-cons (λ z. cond (counts z) 1 0) x xs

      later_some : counts x ≡ false → 0 < count_by counts xs
      later_some not = let one : ◌≡◌ {A = ℕ} (cond (counts x) 1 0) 0 = ap (λ b. cond b 1 0) not in omega (arith, counted, some, one)

      by_tests : (a b : Bool) → (find test xs ≡ None → 0 < count_by counts xs → (z : A) × ((counts z ≡ true) × (test z ≡ false))) → test x ≡ a → counts x ≡ b → cond a (Some x) (find test xs) ≡ None → (z : A) × ((counts z ≡ true) × (test z ≡ false))
      by_tests true b later fails counts-is none = absurd (cc)
      by_tests false true later fails counts-is none = (x, (counts-is, fails))
      by_tests false false later fails counts-is none = later none (later_some counts-is)

-- ---- open points
odd_is : (segs : List Seg) (p : GridPoint) → is_odd segs p ≡ true → degree segs p % 2 ≡ 1
odd_is segs p odd = eqb-true (degree segs p % 2) 1 odd

even_is : (segs : List Seg) (p : GridPoint) → is_odd segs p ≡ false → degree segs p % 2 ≡ 0
even_is segs p even = let other = eqb-false (degree segs p % 2) 1 even in omega arith

pub even_from_none : (segs : List Seg) → open_point segs ≡ None → IsEven segs
unfolding open_point
even_from_none segs none = record { even = λ q. even_is segs q (false_from_ne_true (is_odd segs q) (not_odd q)) }
  where
    not_odd : (q : GridPoint) → is_odd segs q ≡ true → ⊥
    not_odd q odd =
        let one = odd_is segs q odd in
        let end = counted_fails (is_odd segs) (same_point q) (ends_of segs) none (omega arith) in
        let same : q ≡ end.0 = same_point-true q end.0 end.1.0 in
        both_ways (is_odd segs q) (ap (is_odd segs) same ∙ end.1.1) odd

pub none_from_even : (segs : List Seg) → IsEven segs → open_point segs ≡ None
unfolding open_point
none_from_even segs is =
    found_nowhere (is_odd segs) (ends_of segs) (λ q. let even = is.even q in ne_eqb (degree segs q % 2) 1 (λ (odd : degree segs q % 2 ≡ 1). absurd (omega arith)))

pub first_open : (segs : List Seg) (p : GridPoint) → open_point segs ≡ Some p → IsFirstOpen segs p
unfolding open_point
first_open segs p some =
    let cut = cut_at (is_odd segs) (ends_of segs) p some in
    record {
      before = cut.before;
      after = cut.after;
      ends = cut.is;
      odd = odd_is segs p cut.passes;
      even_before = All-weaker (λ q. is_odd segs q ≡ false) (λ q. degree segs q % 2 ≡ 0) (even_is segs) cut.before cut.none_before;
    }

pub open_first : (segs : List Seg) (p : GridPoint) → IsFirstOpen segs p → open_point segs ≡ Some p
unfolding open_point
open_first segs p is =
    let none = All-weaker (λ q. degree segs q % 2 ≡ 0) (λ q. is_odd segs q ≡ false) not_odd is.before is.even_before in
    rw is.ends (found_at (is_odd segs) is.before is.after p none (eq-eqb (degree segs p % 2) 1 is.odd))
  where
    not_odd : (q : GridPoint) → degree segs q % 2 ≡ 0 → is_odd segs q ≡ false
    not_odd q even = ne_eqb (degree segs q % 2) 1 (λ (odd : degree segs q % 2 ≡ 1). absurd (omega arith))

-- the first of odd degree from a segment on: one of its ends, or one behind
pub first_from : (segs : List Seg) (i : ℕ) (s : Seg) → i < length segs → s ≡ get_or segs i s → find (is_odd segs) (ends_of (drop i segs)) ≡ cond (is_odd segs s.a) (Some s.a) (cond (is_odd segs s.b) (Some s.b) (find (is_odd segs) (ends_of (drop (i + 1) segs))))
first_from segs i s inside is =
    at_drop_more (λ ss. find (is_odd segs) (ends_of ss)) segs i s inside ∙ ap (λ (t : Seg). find (is_odd segs) (ends_of (t ∷ drop (i + 1) segs))) (sym is)

pub open_point-is : (segs : List Seg) → open_point segs ≡ find (is_odd segs) (ends_of segs)
unfolding open_point
open_point-is segs = refl
