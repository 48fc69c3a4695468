-- How an edge lies to a rational point, by the ways from its ends to the point: their cross and dot product, times the square
-- of the point's denominator.
use Rattle.std.specs.Prelude.{int_le, int_lt}
use Rattle.std.proofs.Common.{◌≡◌, ℕ, true, false, ℤ, pos, ◌+ℤ◌, ◌-ℤ◌, ◌*ℤ◌, ◌≤ℤ◌, ◌<ℤ◌, List, [], ◌∷◌, arith, refl, sym, subst, ◌∙◌}
use Rattle.std.proofs.lemmas.Int.{ints}
use Rattle.integer_algebra.proofs.Ring.{ring, Term, V, K, ◌⊕◌, ◌⊖◌, ◌⊗◌}
use Rattle.integer_algebra.proofs.Order.{cancel_lt, times_nonneg, times_nonpos, times_of_negative}
use Rattle.plane_exact.specs.Plane.{GridPoint, RationalPoint, IsBetween, rational}
use Rattle.plane_exact.specs.Product.{cross_of, dot_of}
use Rattle.plane_exact.proofs.Collinear.{on_segment, on_line, between_ends}
use Rattle.engrave_model.specs.Inside.{is_at_or_below, is_counted}
use Rattle.evenodd_region.proofs.Counting.{left_of, same_lt, scaled_test}
use Rattle.evenodd_region.specs.Ratios.{turn, facing}

-- ---- a point of the edge: all coordinates times the denominator, it is a grid point

abbrev scaled : ℤ → GridPoint → GridPoint
scaled over p = record { x = over *ℤ p.x; y = over *ℤ p.y }

abbrev numerators : RationalPoint → GridPoint
numerators w = record { x = w.x; y = w.y }

minus_turned : (m x y : ℤ) → m *ℤ (y -ℤ x) ≡ pos 0 -ℤ m *ℤ (x -ℤ y)
minus_turned m x y = ring (m ∷ x ∷ y ∷ []) (V 0 ⊗ (V 2 ⊖ V 1)) (K (pos 0) ⊖ V 0 ⊗ (V 1 ⊖ V 2)) tt

module _ (w : RationalPoint) (a b : GridPoint) where
  between_scaled : (over k n a b : ℤ) → over *ℤ (n *ℤ a +ℤ k *ℤ (b -ℤ a)) ≡ pos 1 *ℤ (n *ℤ (over *ℤ a) +ℤ k *ℤ (over *ℤ b -ℤ over *ℤ a))
  between_scaled over k n a b =
      ring (over ∷ k ∷ n ∷ a ∷ b ∷ []) (V 0 ⊗ (V 2 ⊗ V 3 ⊕ V 1 ⊗ (V 4 ⊖ V 3))) (K (pos 1) ⊗ (V 2 ⊗ (V 0 ⊗ V 3) ⊕ V 1 ⊗ (V 0 ⊗ V 4 ⊖ V 0 ⊗ V 3))) tt

  to_scaled : IsBetween a b w → IsBetween (scaled w.over a) (scaled w.over b) (rational (numerators w))
  to_scaled on = record {
    at = on.at;
    across = on.across ∙ between_scaled w.over on.at.k on.at.n a.x b.x;
    up = on.up ∙ between_scaled w.over on.at.k on.at.n a.y b.y;
  }

  from_scaled : IsBetween (scaled w.over a) (scaled w.over b) (rational (numerators w)) → IsBetween a b w
  from_scaled on = record {
    at = on.at;
    across = on.across ∙ sym (between_scaled w.over on.at.k on.at.n a.x b.x);
    up = on.up ∙ sym (between_scaled w.over on.at.k on.at.n a.y b.y);
  }

  -- the numbers of the point and of the edge, and a scaled one of the edge's as a term over them
  abbrev numbers : List ℤ
  numbers = w.x ∷ w.y ∷ w.over ∷ a.x ∷ a.y ∷ b.x ∷ b.y ∷ []

  abbrev at : ℕ → Term
  at k = V 2 ⊗ V k

  turn_is : cross_of (scaled w.over a) (scaled w.over b) (numerators w) ≡ turn w a b
  turn_is =
      ring numbers ((at 5 ⊖ at 3) ⊗ (V 1 ⊖ at 4) ⊖ (at 6 ⊖ at 4) ⊗ (V 0 ⊖ at 3)) ((V 0 ⊖ at 3) ⊗ (V 1 ⊖ at 6) ⊖ (V 1 ⊖ at 4) ⊗ (V 0 ⊖ at 5)) tt

  facing_is : dot_of (numerators w) (scaled w.over a) (scaled w.over b) ≡ facing w a b
  facing_is =
      ring numbers ((at 3 ⊖ V 0) ⊗ (at 5 ⊖ V 0) ⊕ (at 4 ⊖ V 1) ⊗ (at 6 ⊖ V 1)) ((V 0 ⊖ at 3) ⊗ (V 0 ⊖ at 5) ⊕ (V 1 ⊖ at 4) ⊗ (V 1 ⊖ at 6)) tt

  pub on_edge : turn w a b ≡ pos 0 → facing w a b ≤ℤ pos 0 → IsBetween a b w
  on_edge level near = from_scaled (on_segment _ _ _ (turn_is ∙ level) (subst (λ z. z ≤ℤ pos 0) (sym facing_is) near))

  pub on_its_line : IsBetween a b w → turn w a b ≡ pos 0
  on_its_line on = sym turn_is ∙ on_line _ _ _ (to_scaled on)

  pub between_its_ends : IsBetween a b w → facing w a b ≤ℤ pos 0
  between_its_ends on = subst (λ z. z ≤ℤ pos 0) facing_is (between_ends _ _ _ (to_scaled on))

  -- ---- the edge is counted

  abbrev along : ℤ
  along = (w.y -ℤ w.over *ℤ a.y) *ℤ (b.x -ℤ a.x)

  abbrev across : ℤ
  across = (w.x -ℤ w.over *ℤ a.x) *ℤ (b.y -ℤ a.y)

  turn_scaled : turn w a b ≡ w.over *ℤ (along -ℤ across)
  turn_scaled =
      ring numbers ((V 0 ⊖ at 3) ⊗ (V 1 ⊖ at 6) ⊖ (V 1 ⊖ at 4) ⊗ (V 0 ⊖ at 5)) (V 2 ⊗ ((V 1 ⊖ at 4) ⊗ (V 5 ⊖ V 3) ⊖ (V 0 ⊖ at 3) ⊗ (V 6 ⊖ V 4))) tt

  pub rising_counted : is_at_or_below a w ≡ true → is_at_or_below b w ≡ false
      → int_lt (pos 0) (turn w a b) ≡ is_counted w (record { a = a; b = b })
  rising_counted starts ends =
      let positive = w.positive in
      let up : a.y <ℤ b.y = cancel_lt w.over a.y b.y (omega (arith, ints)) (omega (arith, ints)) in
      let test : int_lt a.y b.y ≡ true = grind (arith, ints) in
      let is = turn_scaled in
      rw (starts, ends, test)
      (scaled_test w.over (along -ℤ across) (pos 0) (turn w a b) (omega (arith, ints)) (omega (arith, ints)) ∙ left_of _ along across refl)

  pub falling_counted : is_at_or_below a w ≡ false → is_at_or_below b w ≡ true
      → int_lt (turn w a b) (pos 0) ≡ is_counted w (record { a = a; b = b })
  falling_counted starts ends =
      let positive = w.positive in
      let down : b.y <ℤ a.y = cancel_lt w.over b.y a.y (omega (arith, ints)) (omega (arith, ints)) in
      let test : int_lt a.y b.y ≡ false = grind (arith, ints) in
      let is = turn_scaled in
      let turned = minus_turned w.over along across in
      rw (starts, ends, test)
      (scaled_test w.over (across -ℤ along) (turn w a b) (pos 0) (omega (arith, ints)) (omega (arith, ints)) ∙ left_of _ across along refl)

  -- ---- both ends on one side of the column

  turned_back : turn w b a ≡ pos 0 -ℤ turn w a b
  turned_back =
      ring numbers ((V 0 ⊖ at 5) ⊗ (V 1 ⊖ at 4) ⊖ (V 1 ⊖ at 6) ⊗ (V 0 ⊖ at 3)) (K (pos 0) ⊖ ((V 0 ⊖ at 3) ⊗ (V 1 ⊖ at 6) ⊖ (V 1 ⊖ at 4) ⊗ (V 0 ⊖ at 5))) tt

  pub back_lt : int_lt (pos 0) (turn w b a) ≡ int_lt (turn w a b) (pos 0)
  back_lt = let back = turned_back in same_lt (pos 0) (turn w b a) (turn w a b) (pos 0) (λ l. omega (arith, ints)) (λ l. omega (arith, ints))

-- the signs of the ways from the ends of an edge that rises through a row, and of the turn between them
module _ (ax ay bx by : ℤ) (starts : pos 0 ≤ℤ ay) (ends : by <ℤ pos 0) where
  none_turned : pos 0 ≤ℤ ax → pos 0 ≤ℤ bx → (ax *ℤ by -ℤ ay *ℤ bx) ≤ℤ pos 0
  none_turned a_left b_left =
      let first = times_nonpos ax by a_left (omega (arith, ints)) in
      let last = times_nonneg ay bx starts b_left in
      omega (arith, ints)

  some_turned : ax <ℤ pos 0 → bx <ℤ pos 0 → pos 0 <ℤ (ax *ℤ by -ℤ ay *ℤ bx)
  some_turned a_right b_right =
      let first = times_of_negative ax by a_right ends in
      let last = times_nonpos ay bx starts (omega (arith, ints)) in
      omega (arith, ints)

none_right : (t : ℤ) → t ≤ℤ pos 0 → false ≡ int_lt (pos 0) t
none_right t none = grind (arith, ints)

some_right : (t : ℤ) → pos 0 <ℤ t → true ≡ int_lt (pos 0) t
some_right t some = grind (arith, ints)

module _ (w : RationalPoint) (a b : GridPoint) (starts : is_at_or_below a w ≡ true) (ends : is_at_or_below b w ≡ false) where
  pub left_side : int_le (w.over *ℤ a.x) w.x ≡ true → int_le (w.over *ℤ b.x) w.x ≡ true → false ≡ int_lt (pos 0) (turn w a b)
  left_side a_left b_left =
      none_right _ (none_turned (w.x -ℤ w.over *ℤ a.x) (w.y -ℤ w.over *ℤ a.y) (w.x -ℤ w.over *ℤ b.x) (w.y -ℤ w.over *ℤ b.y)
      (omega (arith, ints)) (omega (arith, ints)) (omega (arith, ints)) (omega (arith, ints)))

  pub right_side : int_le (w.over *ℤ a.x) w.x ≡ false → int_le (w.over *ℤ b.x) w.x ≡ false → true ≡ int_lt (pos 0) (turn w a b)
  right_side a_right b_right =
      some_right _ (some_turned (w.x -ℤ w.over *ℤ a.x) (w.y -ℤ w.over *ℤ a.y) (w.x -ℤ w.over *ℤ b.x) (w.y -ℤ w.over *ℤ b.y)
      (omega (arith, ints)) (omega (arith, ints)) (omega (arith, ints)) (omega (arith, ints)))
