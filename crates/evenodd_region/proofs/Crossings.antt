-- Each test of the even-odd rule that passes a row gives a level, and tells the sign of its gap: where an edge passes the row
-- of an end of the path, and where the path passes the row of an end of the edge.
use Rattle.std.specs.Prelude.{◌&&◌, int_lt}
use Rattle.std.proofs.Common.{◌≡◌, Bool, true, false, refl, ℤ, pos, neg_ℤ, ◌+ℤ◌, ◌-ℤ◌, ◌*ℤ◌, ◌≤ℤ◌, ◌<ℤ◌, [], ◌∷◌, arith, subst}
use Rattle.std.proofs.lemmas.Int.{ints}
use Rattle.integer_algebra.proofs.Ring.{ring, V, K, M, ◌⊕◌, ◌⊖◌, ◌⊗◌}
use Rattle.integer_algebra.proofs.Order.{cancel_lt, times_nonneg, times_pos}
use Rattle.plane_exact.specs.Plane.{GridPoint, RationalPoint}
use Rattle.engrave_model.specs.Inside.{is_at_or_below, passes_row, crosses_right_of, is_counted}
use Rattle.evenodd_region.proofs.Counting.{same_lt, scaled_test}
use Rattle.evenodd_region.specs.Parity.{exactly_one, is_in_rows, is_right_of_line, is_right_of_path}
use Rattle.evenodd_region.proofs.Levels.{IsLevel, path_turned, edge_turned}

-- where the row is passed there is a level, and the test says whether its gap is to the right; elsewhere the test fails
pub record IsTold (v w : RationalPoint) (a b : GridPoint) (passes test : Bool) : Type 0 where
  pub crossing : passes ≡ true → (gap : ℤ) × (IsLevel v w a b gap × (test ≡ int_lt (pos 0) gap))
  pub none : passes ≡ false → test ≡ false

-- a test that asks first whether the row is passed
asked : (v w : RationalPoint) (a b : GridPoint) (passes right : Bool)
    → (passes ≡ true → (gap : ℤ) × (IsLevel v w a b gap × (right ≡ int_lt (pos 0) gap)))
    → IsTold v w a b passes (passes && right)
asked v w a b true right crossing = record { crossing = crossing; none = λ no. grind arith }
asked v w a b false right crossing = record { crossing = λ no. grind arith; none = λ no. refl }

by_one : {P : Type 0} (first second : Bool) → exactly_one first second ≡ true → (first ≡ true → second ≡ false → P) → (first ≡ false → second ≡ true → P) → P
by_one true true one f s = grind arith
by_one true false one f s = f refl refl
by_one false true one f s = s refl refl
by_one false false one f s = grind arith

-- ---- the edge at the row of the path's start

module _ (v w : RationalPoint) (a b : GridPoint) where
  abbrev pub edge_along : ℤ
  edge_along = (v.y -ℤ v.over *ℤ a.y) *ℤ (b.x -ℤ a.x)

  abbrev pub edge_across : ℤ
  edge_across = (v.x -ℤ v.over *ℤ a.x) *ℤ (b.y -ℤ a.y)

  rising_edge : (v.over *ℤ a.y) ≤ℤ v.y → v.y <ℤ (v.over *ℤ b.y) → a.y <ℤ b.y → IsLevel v w a b (edge_along -ℤ edge_across)
  rising_edge below above up =
      let xs = v.x ∷ v.y ∷ v.over ∷ w.x ∷ w.y ∷ w.over ∷ a.x ∷ a.y ∷ b.x ∷ b.y ∷ [] in
      let of_a = V 2 ⊗ V 9 ⊖ V 1 in
      let of_b = V 1 ⊖ V 2 ⊗ V 7 in
      let of_v = V 9 ⊖ V 7 in
      record {
        path = record { first = b.y -ℤ a.y; last = pos 0; first_sign = omega (arith, ints); last_sign = record { le = tt } };
        edge = record { first = v.over *ℤ b.y -ℤ v.y; last = v.y -ℤ v.over *ℤ a.y; first_sign = omega (arith, ints); last_sign = omega (arith, ints) };
        some = omega (arith, ints);
        over = ring xs (of_v ⊗ V 2 ⊕ K (pos 0) ⊗ V 5) (of_a ⊕ of_b) tt;
        height = ring xs (of_v ⊗ V 1 ⊕ K (pos 0) ⊗ V 4) (of_a ⊗ V 7 ⊕ of_b ⊗ V 9) tt;
        apart = ring xs
            (of_b ⊗ (V 8 ⊖ V 6) ⊖ (V 0 ⊖ V 2 ⊗ V 6) ⊗ of_v)
            ((of_a ⊗ V 6 ⊕ of_b ⊗ V 8) ⊖ (of_v ⊗ V 0 ⊕ K (pos 0) ⊗ V 3)) tt;
      }

module _ (v w : RationalPoint) (a b : GridPoint) where
  edge_of_row : passes_row (record { a = a; b = b }) v ≡ true
      → (gap : ℤ) × (IsLevel v w a b gap × (crosses_right_of (record { a = a; b = b }) v ≡ int_lt (pos 0) gap))
  edge_of_row passes =
      let positive = v.positive in
      let along = edge_along v w a b in
      let across = edge_across v w a b in
      by_one (is_at_or_below a v) (is_at_or_below b v) passes
      (λ starts ends.
      let below : (v.over *ℤ a.y) ≤ℤ v.y = omega (arith, ints) in
      let above : v.y <ℤ (v.over *ℤ b.y) = omega (arith, ints) in
      let up : a.y <ℤ b.y = cancel_lt v.over a.y b.y (omega (arith, ints)) (omega (arith, ints)) in
      let test : int_lt a.y b.y ≡ true = grind (arith, ints) in (
        along -ℤ across,
        (
          rising_edge v w a b below above up,
          rw test (same_lt across along (pos 0) (along -ℤ across) (λ l. omega (arith, ints)) (λ l. omega (arith, ints))),
        ),
      ))
      (λ starts ends.
      let below : (v.over *ℤ b.y) ≤ℤ v.y = omega (arith, ints) in
      let above : v.y <ℤ (v.over *ℤ a.y) = omega (arith, ints) in
      let down : b.y <ℤ a.y = cancel_lt v.over b.y a.y (omega (arith, ints)) (omega (arith, ints)) in
      let test : int_lt a.y b.y ≡ false = grind (arith, ints) in
      let xs = v.x ∷ v.y ∷ v.over ∷ a.x ∷ a.y ∷ b.x ∷ b.y ∷ [] in
      let turned : edge_along v w b a -ℤ edge_across v w b a ≡ across -ℤ along =
      ring xs ((V 1 ⊖ V 2 ⊗ V 6) ⊗ (V 3 ⊖ V 5) ⊖ (V 0 ⊖ V 2 ⊗ V 5) ⊗ (V 4 ⊖ V 6))
      ((V 0 ⊖ V 2 ⊗ V 3) ⊗ (V 6 ⊖ V 4) ⊖ (V 1 ⊖ V 2 ⊗ V 4) ⊗ (V 5 ⊖ V 3)) tt in (
        across -ℤ along,
        (
          subst (IsLevel v w a b) turned (edge_turned v w a b _ (rising_edge v w b a below above down)),
          rw test (same_lt along across (pos 0) (across -ℤ along) (λ l. omega (arith, ints)) (λ l. omega (arith, ints))),
        ),
      ))

  pub counted_told : IsTold v w a b (passes_row (record { a = a; b = b }) v) (is_counted v (record { a = a; b = b }))
  counted_told = asked v w a b _ _ edge_of_row

-- ---- the path at the row of the edge's start

module _ (v w : RationalPoint) (a b : GridPoint) where
  abbrev pub path_gap : ℤ
  path_gap = (v.over *ℤ w.y -ℤ w.over *ℤ v.y) *ℤ a.x -ℤ ((w.y -ℤ w.over *ℤ a.y) *ℤ v.x +ℤ (v.over *ℤ a.y -ℤ v.y) *ℤ w.x)

  -- the path rises through the row of a
  rises : v.y <ℤ (v.over *ℤ a.y) → (w.over *ℤ a.y) ≤ℤ w.y → (w.over *ℤ v.y) <ℤ (v.over *ℤ w.y)
  rises below above =
      let v_over = v.positive in
      let w_over = w.positive in
      let p = times_pos w.over (v.over *ℤ a.y -ℤ v.y) (omega (arith, ints)) (omega (arith, ints)) in
      let q = times_nonneg v.over (w.y -ℤ w.over *ℤ a.y) (omega (arith, ints)) (omega (arith, ints)) in
      let xs = v.y ∷ v.over ∷ w.y ∷ w.over ∷ a.y ∷ [] in
      let sum = ring xs (V 3 ⊗ (V 1 ⊗ V 4 ⊖ V 0) ⊕ V 1 ⊗ (V 2 ⊖ V 3 ⊗ V 4)) (V 1 ⊗ V 2 ⊖ V 3 ⊗ V 0) tt in
      omega (arith, ints)

  rising_path : v.y <ℤ (v.over *ℤ a.y) → (w.over *ℤ a.y) ≤ℤ w.y → IsLevel v w a b path_gap
  rising_path below above =
      let up = rises below above in
      let xs = v.x ∷ v.y ∷ v.over ∷ w.x ∷ w.y ∷ w.over ∷ a.x ∷ a.y ∷ b.x ∷ b.y ∷ [] in
      let of_v = V 4 ⊖ V 5 ⊗ V 7 in
      let of_w = V 2 ⊗ V 7 ⊖ V 1 in
      let of_a = V 2 ⊗ V 4 ⊖ V 5 ⊗ V 1 in
      record {
        path = record { first = w.y -ℤ w.over *ℤ a.y; last = v.over *ℤ a.y -ℤ v.y; first_sign = omega (arith, ints); last_sign = omega (arith, ints) };
        edge = record { first = v.over *ℤ w.y -ℤ w.over *ℤ v.y; last = pos 0; first_sign = omega (arith, ints); last_sign = record { le = tt } };
        some = omega (arith, ints);
        over = ring xs (of_v ⊗ V 2 ⊕ of_w ⊗ V 5) (of_a ⊕ K (pos 0)) tt;
        height = ring xs (of_v ⊗ V 1 ⊕ of_w ⊗ V 4) (of_a ⊗ V 7 ⊕ K (pos 0) ⊗ V 9) tt;
        apart = ring xs
            (of_a ⊗ V 6 ⊖ (of_v ⊗ V 0 ⊕ of_w ⊗ V 3))
            ((of_a ⊗ V 6 ⊕ K (pos 0) ⊗ V 8) ⊖ (of_v ⊗ V 0 ⊕ of_w ⊗ V 3)) tt;
      }

  abbrev pub path_along : ℤ
  path_along = (v.over *ℤ a.y -ℤ v.y) *ℤ (v.over *ℤ w.x -ℤ w.over *ℤ v.x)

  abbrev pub path_across : ℤ
  path_across = (v.over *ℤ a.x -ℤ v.x) *ℤ (v.over *ℤ w.y -ℤ w.over *ℤ v.y)

  scaled_gap : v.over *ℤ path_gap ≡ path_across -ℤ path_along
  scaled_gap =
      let of_a = V 2 ⊗ V 4 ⊖ V 5 ⊗ V 1 in
      ring (v.x ∷ v.y ∷ v.over ∷ w.x ∷ w.y ∷ w.over ∷ a.x ∷ a.y ∷ [])
      (V 2 ⊗ (of_a ⊗ V 6 ⊖ ((V 4 ⊖ V 5 ⊗ V 7) ⊗ V 0 ⊕ (V 2 ⊗ V 7 ⊖ V 1) ⊗ V 3)))
      ((V 2 ⊗ V 6 ⊖ V 0) ⊗ of_a ⊖ (V 2 ⊗ V 7 ⊖ V 1) ⊗ (V 2 ⊗ V 3 ⊖ V 5 ⊗ V 0)) tt

module _ (v w : RationalPoint) (a b : GridPoint) where
  path_of_row : is_in_rows v w a ≡ true → (gap : ℤ) × (IsLevel v w a b gap × (is_right_of_line v w a ≡ int_lt (pos 0) gap))
  path_of_row passes =
      let positive = v.positive in
      let along = path_along v w a b in
      let across = path_across v w a b in
      let scaled = scaled_gap v w a b in
      by_one (is_at_or_below a v) (is_at_or_below a w) passes
      (λ starts ends.
      let below : w.y <ℤ (w.over *ℤ a.y) = omega (arith, ints) in
      let above : (v.over *ℤ a.y) ≤ℤ v.y = omega (arith, ints) in
      let down = rises w v a b below above in
      let test : int_lt (w.over *ℤ v.y) (v.over *ℤ w.y) ≡ false = grind (arith, ints) in
      let of_a = V 2 ⊗ V 4 ⊖ V 5 ⊗ V 1 in
      let turned : v.over *ℤ path_gap w v a b ≡ neg_ℤ (v.over *ℤ path_gap v w a b) =
      ring (v.x ∷ v.y ∷ v.over ∷ w.x ∷ w.y ∷ w.over ∷ a.x ∷ a.y ∷ [])
      (V 2 ⊗ ((V 5 ⊗ V 1 ⊖ V 2 ⊗ V 4) ⊗ V 6 ⊖ ((V 1 ⊖ V 2 ⊗ V 7) ⊗ V 3 ⊕ (V 5 ⊗ V 7 ⊖ V 4) ⊗ V 0)))
      (M (V 2 ⊗ (of_a ⊗ V 6 ⊖ ((V 4 ⊖ V 5 ⊗ V 7) ⊗ V 0 ⊕ (V 2 ⊗ V 7 ⊖ V 1) ⊗ V 3)))) tt in (
        path_gap w v a b,
        (
          path_turned v w a b _ (rising_path w v a b below above),
          rw test (scaled_test v.over (path_gap w v a b) across along (omega (arith, ints)) (omega (arith, ints))),
        ),
      ))
      (λ starts ends.
      let below : v.y <ℤ (v.over *ℤ a.y) = omega (arith, ints) in
      let above : (w.over *ℤ a.y) ≤ℤ w.y = omega (arith, ints) in
      let up = rises v w a b below above in
      let test : int_lt (w.over *ℤ v.y) (v.over *ℤ w.y) ≡ true = grind (arith, ints) in (
        path_gap v w a b,
        (
          rising_path v w a b below above,
          rw test (scaled_test v.over (path_gap v w a b) along across (omega (arith, ints)) scaled),
        ),
      ))

  pub right_told : IsTold v w a b (is_in_rows v w a) (is_right_of_path v w a)
  right_told = asked v w a b _ _ path_of_row

-- ---- the other ends

module _ (v w : RationalPoint) (a b : GridPoint) (passes test : Bool) where
  pub path_turned_told : IsTold w v a b passes test → IsTold v w a b passes test
  path_turned_told told = record {
    crossing = λ yes. let c = told.crossing yes in (c.0, (path_turned v w a b c.0 c.1.0, c.1.1));
    none = told.none;
  }

  pub edge_turned_told : IsTold v w b a passes test → IsTold v w a b passes test
  edge_turned_told told = record {
    crossing = λ yes. let c = told.crossing yes in (c.0, (edge_turned v w a b c.0 c.1.0, c.1.1));
    none = told.none;
  }
