-- One step of each of the definitions that count down.
use Rattle.std.proofs.Common.{◌≡◌, ℕ, zero, suc, ◌+◌, ◌-◌, ◌*◌, ◌/◌, ◌%◌, ◌^◌, ◌<◌, ◌≤◌, Bool, true, false, ◌==◌, cond, List, [], ◌∷◌, ◌++◌, ℤ, neg_ℤ, refl, sym, ap, ap₂, ◌∙◌, arith, append_assoc}
use Rattle.std.proofs.lemmas.Bool.Decides.{nat_tests}
use Rattle.arc_flatten.specs.Bulges.{apex_of, bulge_points, half_bulge_of, halvings_within, is_flat, points_to, way_of_chord}
use Rattle.arc_flatten.specs.Directions.{Heading, direction_of, halfway_of, quarter_turned, towards}
use Rattle.arc_flatten.specs.Halves.{bulges_of, halved_bulges, points_along}
use Rattle.arc_flatten.specs.Points.{FinePoint}

-- ---- directions

towards_by : (bits f : ℕ) (s t : Heading) (b : Bool) → (f / 2 ^ bits % 2 == 1) ≡ b → towards (suc bits) f s t ≡ cond b (towards bits f (halfway_of s t) t) (towards bits f s (halfway_of s t))
unfolding towards
towards_by bits f s t b test = ap (λ v. cond v (towards bits f (halfway_of s t) t) (towards bits f s (halfway_of s t))) test

module _ (left bits f : ℕ) (s t : Heading) (more : left ≡ bits + 1) where
  counted : towards left f s t ≡ towards (suc bits) f s t
  counted = ap (λ n. towards n f s t) (omega arith)

  pub towards_one : f / 2 ^ bits % 2 ≡ 1 → towards left f s t ≡ towards bits f (halfway_of s t) t
  towards_one bit = counted ∙ towards_by bits f s t true (grind (arith, nat_tests))

  pub towards_zero : ¬ (f / 2 ^ bits % 2 ≡ 1) → towards left f s t ≡ towards bits f s (halfway_of s t)
  towards_zero bit = counted ∙ towards_by bits f s t false (grind (arith, nat_tests))

-- the turn of the loop after `done` others
module _ (done f : ℕ) (s t half next_s next_t all : Heading) (more : done < 20) (is : half ≡ halfway_of s t) (so_far : towards (20 - done) f s t ≡ all) where
  next : 20 - (done + 1) ≡ 19 - done
  next = omega arith

  pub turn_one : f / 2 ^ (19 - done) % 2 ≡ 1 → next_s ≡ half → next_t ≡ t → towards (20 - (done + 1)) f next_s next_t ≡ all
  turn_one bit s_is t_is =
      ap (λ n. towards n f next_s next_t) next ∙ ap₂ (towards (19 - done) f) (s_is ∙ is) t_is ∙ sym (towards_one (20 - done) (19 - done) f s t (omega arith) bit) ∙ so_far

  pub turn_zero : ¬ (f / 2 ^ (19 - done) % 2 ≡ 1) → next_s ≡ s → next_t ≡ half → towards (20 - (done + 1)) f next_s next_t ≡ all
  turn_zero bit s_is t_is =
      ap (λ n. towards n f next_s next_t) next ∙ ap₂ (towards (19 - done) f) s_is (t_is ∙ is) ∙ sym (towards_zero (20 - done) (19 - done) f s t (omega arith) bit) ∙ so_far

pub towards_end : (left f : ℕ) (s t : Heading) → left ≡ 0 → towards left f s t ≡ s
unfolding towards
towards_end left f s t none = ap (λ n. towards n f s t) none

pub quarter_more : (left rest : ℕ) (x y x' y' : ℤ) → left ≡ rest + 1 → x' ≡ neg_ℤ y → y' ≡ x → quarter_turned rest x' y' ≡ quarter_turned left x y
quarter_more left rest x y x' y' more x_is y_is =
    let count : left ≡ suc rest = omega arith in
    ap₂ (quarter_turned rest) x_is y_is ∙ sym (ap (λ n. quarter_turned n x y) count)

pub quarter_end : (left : ℕ) (x y : ℤ) → left ≡ 0 → (x, y) ≡ quarter_turned left x y
quarter_end left x y none = sym (ap (λ n. quarter_turned n x y) none)

-- ---- halvings

module _ (way : ℤ × ℤ) where
  pub halved_flat : (n : ℕ) (b : ℤ) → is_flat way b ≡ true → halved_bulges n way b ≡ []
  unfolding halved_bulges halvings_within
  halved_flat zero b flat = refl
  halved_flat (suc n) b flat = ap (λ v. bulges_of (cond v 0 (suc (halvings_within n way (half_bulge_of b)))) b) flat

  halved_suc : (n : ℕ) (b : ℤ) → is_flat way b ≡ false → halved_bulges (suc n) way b ≡ b ∷ halved_bulges n way (half_bulge_of b)
  unfolding halved_bulges halvings_within
  halved_suc n b round = ap (λ v. bulges_of (cond v 0 (suc (halvings_within n way (half_bulge_of b)))) b) round

  pub halved_more : (left n : ℕ) (b : ℤ) → left ≡ n + 1 → is_flat way b ≡ false → halved_bulges left way b ≡ b ∷ halved_bulges n way (half_bulge_of b)
  halved_more left n b more round = let count : left ≡ suc n = omega arith in ap (λ k. halved_bulges k way b) count ∙ halved_suc n b round

  -- the turn of the loop after k others
  pub bulge_more : (k : ℕ) (half next : ℤ) (old new all : List ℤ) → k < 10 → is_flat way half ≡ false → old ++ halved_bulges (10 - k) way half ≡ all → new ≡ old ++ half ∷ [] → next ≡ half_bulge_of half
      → new ++ halved_bulges (10 - (k + 1)) way next ≡ all
  bulge_more k half next old new all few round so_far pushed is =
      let rest : List ℤ = halved_bulges (10 - (k + 1)) way next in
      let more : half ∷ rest ≡ halved_bulges (10 - k) way half = ap (λ b. half ∷ halved_bulges (10 - (k + 1)) way b) is ∙ sym (halved_more (10 - k) (10 - (k + 1)) half (omega arith) round) in
      ap (λ bulges. bulges ++ rest) pushed ∙ append_assoc old (half ∷ []) rest ∙ ap (λ bulges. old ++ bulges) more ∙ so_far

  pub halved_none : (left : ℕ) (b : ℤ) → left ≡ 0 → halved_bulges left way b ≡ []
  unfolding halved_bulges halvings_within
  halved_none left b none = ap (λ k. halved_bulges k way b) none

-- the points by the list of bulges are those of the halvings
pub points_along_is : (n : ℕ) (p q : FinePoint) (b : ℤ) → points_along (bulges_of n b) p q ≡ points_to n p q b
unfolding points_to
points_along_is zero p q b = refl
points_along_is (suc n) p q b = ap₂ (λ xs ys. xs ++ ys) (points_along_is n p (apex_of p q b) (half_bulge_of b)) (points_along_is n (apex_of p q b) q (half_bulge_of b))

pub halvings_within-le : (most : ℕ) (way : ℤ × ℤ) (b : ℤ) → halvings_within most way b ≤ most
unfolding halvings_within
halvings_within-le zero way b = omega arith
halvings_within-le (suc most) way b = by (is_flat way b) (halvings_within-le most way (half_bulge_of b))
  where
    by : (flat : Bool) → halvings_within most way (half_bulge_of b) ≤ most → cond flat 0 (suc (halvings_within most way (half_bulge_of b))) ≤ suc most
    by true rest = omega arith
    by false rest = omega arith

-- the points from the first one on
pub bulge_points_are : (p q : FinePoint) (b : ℤ) (chord : ℕ) (way : ℤ × ℤ) (bulges : List ℤ) (start all : List FinePoint) → way ≡ direction_of (chord * 1048576 / 360) → bulges ≡ halved_bulges 10 way b
    → start ≡ p ∷ [] → all ≡ start ++ points_along bulges p q → all ≡ bulge_points p q b chord
unfolding bulge_points way_of_chord halved_bulges
bulge_points_are p q b chord way bulges start all way_is bulges_are begun pushed =
    pushed ∙ ap₂ (λ xs bs. xs ++ points_along bs p q) begun bulges_are ∙ ap (λ w. p ∷ points_along (bulges_of (halvings_within 10 w b) b) p q) way_is
    ∙ ap (λ xs. p ∷ xs) (points_along_is (halvings_within 10 (direction_of (chord * 1048576 / 360)) b) p q b)
