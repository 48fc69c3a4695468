-- The ends of unused segments, as one is put in or taken out.
use Rattle.std.proofs.Common.{◌≡◌, ◌≢◌, ℕ, ◌<◌, Bool, true, false, ◌&&◌, ◌||◌, cond, eqb, Option, None, Some, IsSome, List, [], ◌∷◌, ◌++◌, length, get_or, set, ap, ◌∙◌, refl, sym, inl, inr, arith}
use Rattle.std.specs.BTreeSet.{BTreeSet, Updates}
use Rattle.std.proofs.lemmas.Bool.{cases_eq, cases_lt, eq-eqb, false≢true, ne_eqb}
use Rattle.std.proofs.lemmas.List.{get_or_append_left, get_or-set_other, get_or-set_same, get_or_past, get_or_push, length_push}
use Rattle.plane_exact.specs.Plane.{GridPoint}
use Rattle.plane_exact.specs.declared.point.Seg.{Seg}
use Rattle.plane_exact.specs.Same.{same_point}
use Rattle.loop_join.specs.Index.{AreIndexed, end_cmp, end_of, has_number, is_end_in}
use Rattle.loop_join.specs.declared.ends.End.{End}
use Rattle.loop_join.proofs.Keys.{end_same}

-- ---- sets of ends
updated : (old new : BTreeSet End) (r : GridPoint) (n : ℕ) (b : Bool) → Updates end_cmp old new (end_of r n) b → (p : GridPoint) (k : ℕ) → has_number new p k ≡ cond (same_point p r && eqb n k) b (has_number old p k)
updated old new r n b updates p k = updates.0 (end_of p k) ∙ ap (λ t. cond t b (has_number old p k)) (end_same r p n k)

-- both ends of the segment of number n are set to b
twice : (old middle new : BTreeSet End) (s : Seg) (n : ℕ) (b : Bool) → Updates end_cmp old middle (end_of s.a n) b → Updates end_cmp middle new (end_of s.b n) b → (p : GridPoint) (k : ℕ) → has_number new p k ≡ cond (same_point p s.b && eqb n k) b (cond (same_point p s.a && eqb n k) b (has_number old p k))
twice old middle new s n b first second p k =
    updated middle new s.b n b second p k ∙ ap (λ h. cond (same_point p s.b && eqb n k) b h) (updated old middle s.a n b first p k)

elsewhere : (a b same value h : Bool) → same ≡ false → cond (b && same) value (cond (a && same) value h) ≡ h
elsewhere a b true value h is = absurd (cc)
elsewhere true true false value h is = refl
elsewhere true false false value h is = refl
elsewhere false true false value h is = refl
elsewhere false false false value h is = refl

put_here : (a b same h : Bool) → same ≡ true → h ≡ false → cond (b && same) true (cond (a && same) true h) ≡ (a || b)
put_here a b false h is none = absurd (cc)
put_here true true true h is none = refl
put_here true false true h is none = refl
put_here false true true h is none = refl
put_here false false true h is none = none

taken_here : (a b same h : Bool) → same ≡ true → h ≡ (a || b) → cond (b && same) false (cond (a && same) false h) ≡ false
taken_here a b false h is has = absurd (cc)
taken_here true true true h is has = refl
taken_here true false true h is has = refl
taken_here false true true h is has = refl
taken_here false false true h is has = has

-- ---- slots
pub there : {A : Type 0} (slots : List (Option A)) (n : ℕ) (s : A) → get_or slots n None ≡ Some s → n < length slots
there slots n s here = elim (cases_lt n (length slots)) [
  | inl inside ↦ inside
  | inr past ↦ absurd (let none = get_or_past slots n None past in cc)
]

pub filled_within : {A : Type 0} (slots : List (Option A)) (n : ℕ) → IsSome (get_or slots n None) → n < length slots
filled_within slots n filled = elim (cases_lt n (length slots)) [
  | inl inside ↦ inside
  | inr past ↦ (let empty = get_or_past slots n None past in absurd (false≢true (rw empty at filled)))
]

push_other : {A : Type 0} (slots : List (Option A)) (s : Option A) (k : ℕ) → k ≢ length slots → get_or (slots ++ s ∷ []) k None ≡ get_or slots k None
push_other slots s k other = elim (cases_lt k (length slots)) [
  | inl inside ↦ get_or_append_left slots (s ∷ []) None k inside
  | inr past ↦ get_or_past (slots ++ s ∷ []) k None (omega (arith, length_push slots s, other)) ∙ sym (get_or_past slots k None past)
]

pub indexed_push : (slots : List (Option Seg)) (s : Seg) (n : ℕ) (old middle new : BTreeSet End) → AreIndexed slots old → n ≡ length slots → Updates end_cmp old middle (end_of s.a n) true → Updates end_cmp middle new (end_of s.b n) true → AreIndexed (slots ++ Some s ∷ []) new
indexed_push slots s n old middle new are last first second p k = elim (cases_eq k n) [
  | inl here ↦ (let none : has_number old p k ≡ false = are p k ∙ ap (is_end_in p) (get_or_past slots k None (omega arith)) in
      twice old middle new s n true first second p k ∙ put_here (same_point p s.a) (same_point p s.b) (eqb n k) (has_number old p k) (eq-eqb n k (sym here)) none ∙ sym (ap (is_end_in p) (get_or_push slots (Some s) None k (sym last ∙ sym here))))
  | inr other ↦ twice old middle new s n true first second p k ∙ elsewhere (same_point p s.a) (same_point p s.b) (eqb n k) true (has_number old p k) (ne_eqb n k (λ same. other (sym same))) ∙ are p k ∙ sym (ap (is_end_in p) (push_other slots (Some s) k (λ same. other (same ∙ sym last))))
]

pub indexed_taken : (slots : List (Option Seg)) (s : Seg) (n : ℕ) (old middle new : BTreeSet End) → AreIndexed slots old → get_or slots n None ≡ Some s → Updates end_cmp old middle (end_of s.a n) false → Updates end_cmp middle new (end_of s.b n) false → AreIndexed (set slots n None) new
indexed_taken slots s n old middle new are filled first second p k = elim (cases_eq k n) [
  | inl here ↦ (let has : has_number old p k ≡ (same_point p s.a || same_point p s.b) = are p k ∙ ap (is_end_in p) (ap (λ j. get_or slots j None) here ∙ filled) in
      twice old middle new s n false first second p k ∙ taken_here (same_point p s.a) (same_point p s.b) (eqb n k) (has_number old p k) (eq-eqb n k (sym here)) has ∙ sym (ap (is_end_in p) (ap (λ j. get_or (set slots n None) j None) here ∙ get_or-set_same slots n None None (there slots n s filled))))
  | inr other ↦ twice old middle new s n false first second p k ∙ elsewhere (same_point p s.a) (same_point p s.b) (eqb n k) false (has_number old p k) (ne_eqb n k (λ same. other (sym same))) ∙ are p k ∙ sym (ap (is_end_in p) (get_or-set_other slots n k None None other))
]
