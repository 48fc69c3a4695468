-- What a set of points has after one of them was flipped, and how degrees become odd and even with the ends of a segment.
use Rattle.std.proofs.Common.{◌≡◌, ℕ, ℤ, ◌+◌, ◌%◌, Bool, true, false, not, cond, eqb, List, [], ◌∷◌, ◌++◌, ap, ◌∙◌, refl, sym, arith, sum_by}
use Rattle.std.specs.BTreeSet.{BTreeSet, Updates}
use Rattle.std.proofs.lemmas.Bool.Decides.{nat_tests}
use Rattle.std.proofs.lemmas.Grind.{flat_map-append}
use Rattle.std.proofs.lemmas.List.Sums.{sum_by-append}
use Rattle.plane_exact.specs.Plane.{GridPoint}
use Rattle.plane_exact.specs.declared.point.Seg.{Seg}
use Rattle.plane_exact.specs.Same.{same_point}
use Rattle.loop_join.specs.Ends.{degree, ends_of, is_odd}
use Rattle.loop_join.specs.Even.{at}
use Rattle.loop_join.specs.Places.{has_place, place_cmp, place_of}
use Rattle.loop_join.proofs.Degrees.{degree-cons}
use Rattle.loop_join.proofs.Keys.{place_same}
use Rattle.loop_join.proofs.Same.{same_point-true}

-- ---- a set of places
set_at : (old new : BTreeSet (ℤ × ℤ)) (p : GridPoint) (b : Bool) → Updates place_cmp old new (place_of p) b → (q : GridPoint) → has_place new q ≡ cond (same_point q p) b (has_place old q)
set_at old new p b updates q = updates.0 (place_of q) ∙ ap (λ t. cond t b (has_place old q)) (place_same p q)

taken_out : (same old new : Bool) → new ≡ cond same false old → (same ≡ true → old ≡ true) → new ≡ cond same (not old) old
taken_out true old new is before = is ∙ sym (ap not (before refl))
taken_out false old new is before = is

put_in : (same old middle new : Bool) → middle ≡ cond same false old → new ≡ cond same true middle → (same ≡ true → old ≡ false) → new ≡ cond same (not old) old
put_in true old middle new taken is before = is ∙ sym (ap not (before refl))
put_in false old middle new taken is before = is ∙ taken

pub flip_out : (old new : BTreeSet (ℤ × ℤ)) (p : GridPoint) → has_place old p ≡ true → Updates place_cmp old new (place_of p) false → (q : GridPoint) → has_place new q ≡ cond (same_point q p) (not (has_place old q)) (has_place old q)
flip_out old new p there out q =
    taken_out (same_point q p) (has_place old q) (has_place new q) (set_at old new p false out q) (λ same. ap (has_place old) (same_point-true q p same) ∙ there)

pub flip_in : (old middle new : BTreeSet (ℤ × ℤ)) (p : GridPoint) → has_place old p ≡ false → Updates place_cmp old middle (place_of p) false → Updates place_cmp middle new (place_of p) true → (q : GridPoint) → has_place new q ≡ cond (same_point q p) (not (has_place old q)) (has_place old q)
flip_in old middle new p there out into q =
    put_in (same_point q p) (has_place old q) (has_place middle q) (has_place new q) (set_at old middle p false out q) (set_at middle new p true into q) (λ same. ap (has_place old) (same_point-true q p same) ∙ there)

-- ---- degrees
pub degree-append : (segs more : List Seg) (q : GridPoint) → degree (segs ++ more) q ≡ degree segs q + degree more q
degree-append segs more q =
    ap (λ ends. sum_by (at q) ends) (flat_map-append (λ (s : Seg). s.a ∷ s.b ∷ []) segs more) ∙ sum_by-append (at q) (ends_of segs) (ends_of more)

odd_flips : (a b : Bool) (n m : ℕ) → m ≡ n + (cond a 1 0 + cond b 1 0) → eqb (m % 2) 1 ≡ cond b (not (cond a (not (eqb (n % 2) 1)) (eqb (n % 2) 1))) (cond a (not (eqb (n % 2) 1)) (eqb (n % 2) 1))
odd_flips true true n m is = grind (arith, nat_tests)
odd_flips true false n m is = grind (arith, nat_tests)
odd_flips false true n m is = grind (arith, nat_tests)
odd_flips false false n m is = grind (arith, nat_tests)

-- the points of odd degree with one segment more
pub odd_more : (segs : List Seg) (s : Seg) (old middle new : BTreeSet (ℤ × ℤ)) → ((p : GridPoint) → has_place old p ≡ is_odd segs p) → ((q : GridPoint) → has_place middle q ≡ cond (same_point q s.a) (not (has_place old q)) (has_place old q)) → ((q : GridPoint) → has_place new q ≡ cond (same_point q s.b) (not (has_place middle q)) (has_place middle q)) → (q : GridPoint) → has_place new q ≡ is_odd (segs ++ s ∷ []) q
odd_more segs s old middle new are first second q =
    let a = same_point q s.a in
    let b = same_point q s.b in
    let odd = is_odd segs q in
    let half : has_place middle q ≡ cond a (not odd) odd = first q ∙ ap (λ h. cond a (not h) h) (are q) in
    let whole : has_place new q ≡ cond b (not (cond a (not odd) odd)) (cond a (not odd) odd) = second q ∙ ap (λ h. cond b (not h) h) half in
    let counted : degree (segs ++ s ∷ []) q ≡ degree segs q + (at q s.a + at q s.b) = omega (arith, degree-append segs (s ∷ []) q, degree-cons s [] q) in
    whole ∙ sym (odd_flips a b (degree segs q) (degree (segs ++ s ∷ []) q) counted)
