-- Where an edge meets a row of grid points, by one product and its steps.
use borrow.Author.Differences.{true_is_le}
use Rattle.std.specs.Prelude.{◌⊎◌, ◌&&◌, int_le, int_lt}
use Rattle.std.specs.Int.{int_max, int_min}
use Rattle.std.proofs.Common.{◌≡◌, ℕ, ◌*◌, true, false, [], ◌∷◌, ℤ, pos, neg_ℤ, ◌+ℤ◌, ◌-ℤ◌, ◌*ℤ◌, ◌≤ℤ◌, ◌<ℤ◌, arith, ap, ap₂, sym, ◌∙◌, inl, inr}
use Rattle.std.proofs.lemmas.Bool.{false≢true}
use Rattle.std.proofs.lemmas.Int.{ints, clamps, by_lt_z}
use Rattle.integer_algebra.proofs.Ring.{ring, V, K, M, ◌⊕◌, ◌⊖◌, ◌⊗◌}
use Rattle.integer_algebra.proofs.Order.{times_nonpos, times_zero, zero_times}
use Rattle.plane_exact.specs.Plane.{GridPoint, RationalPoint, IsBetween, rational}
use Rattle.plane_exact.specs.Product.{cross_of}
use Rattle.plane_exact.specs.declared.point.Seg.{Seg}
use Rattle.plane_exact.proofs.Fractions.{turned}
use Rattle.plane_exact.proofs.Collinear.{on_line, on_segment}
use Rattle.engrave_model.specs.Inside.{is_counted}
use Rattle.evenodd_region.specs.Meetings.{IsMeeting, point_of}
use Rattle.evenodd_region.specs.RowBits.{point_of_row}
use Rattle.evenodd_region.specs.declared.meeting.Meeting.{Meeting}
use Rattle.evenodd_region.specs.declared.meeting.Row.{Row}
use Rattle.evenodd_region.proofs.Bounds.{edge_beyond}
use Rattle.evenodd_region.proofs.Counting.{beside_row, rising, falling, same_lt}

abbrev grid_point : Row → ℕ → GridPoint
grid_point row i = point_of_row row.start.y row.start.x row.pitch i

pub is_le : (x y : ℤ) → x ≤ℤ y → int_le x y ≡ true
is_le x y le = sym (true_is_le x y (omega (arith, ints)))

not_le : (x y : ℤ) → y <ℤ x → int_le x y ≡ false
not_le x y less = grind (arith, ints)

is_less : (x y : ℤ) → x <ℤ y → int_lt x y ≡ true
is_less x y less = grind (arith, ints)

pub not_less : (x y : ℤ) → y ≤ℤ x → int_lt x y ≡ false
not_less x y le = grind (arith, ints)

-- what the code's test answered
pub told_less : (x y : ℤ) → true ≡ int_lt x y → x <ℤ y
told_less x y told = let test = sym told in omega (arith, ints)

pub told_not_less : (x y : ℤ) → false ≡ int_lt x y → y ≤ℤ x
told_not_less x y told = by_lt_z x y (λ less. let yes = is_less x y less in absurd (false≢true (told ∙ yes))) (λ le. le)

-- ---- an edge that doesn't reach the row

module _ (row : Row) (e : Seg) (m : Meeting) where
  pub none_meets : m.from ≡ pos 1 → m.to ≡ pos 0 → m.passes ≡ false
      → ((row.start.y <ℤ e.a.y) × (row.start.y <ℤ e.b.y)) ⊎ ((e.a.y <ℤ row.start.y) × (e.b.y <ℤ row.start.y)) → IsMeeting row e m
  none_meets from to passes apart = record {
    on = λ i. (
      (λ on. absurd (off i on)),
      (λ within. let low = within.low in let high = within.high in absurd (omega (arith, ints))),
    );
    counted = λ i. sym (beside_row e.a e.b (grid_point row i) same) ∙ ap (λ b. b && int_lt (pos (i * m.step)) m.from) (sym passes);
  }
    where
      same : int_le e.a.y row.start.y ≡ int_le e.b.y row.start.y
      same = elim apart [
        | inl below ↦ not_le e.a.y row.start.y below.0 ∙ sym (not_le e.b.y row.start.y below.1)
        | inr above ↦ is_le e.a.y row.start.y (omega (arith, ints)) ∙ sym (is_le e.b.y row.start.y (omega (arith, ints)))
      ]

      off : (i : ℕ) → IsBetween e.a e.b (point_of row i) → ⊥
      off i on = elim apart [
        | inl below ↦
            let there = edge_beyond (pos 0) (pos 1) (row.start.y +ℤ pos 1) e.a e.b (point_of row i) (omega (arith, ints)) (omega (arith, ints)) on in
            omega (arith, ints)
        | inr above ↦
            let there = edge_beyond (pos 0) (neg_ℤ (pos 1)) (pos 1 -ℤ row.start.y) e.a e.b (point_of row i) (omega (arith, ints)) (omega (arith, ints)) on in
            omega (arith, ints)
      ]

-- ---- an edge that rises

module _ (row : Row) (e : Seg) (m : Meeting) (up : e.a.y <ℤ e.b.y) (from : m.from ≡ cross_of e.a e.b row.start) (step : pos m.step ≡ pos row.pitch *ℤ (e.b.y -ℤ e.a.y)) where
  -- the product at the point i
  gap : (i : ℕ) → cross_of e.a e.b (grid_point row i) ≡ m.from -ℤ pos (i * m.step)
  gap i =
      let start = row.start in
      let P = pos i in
      let Q = pos row.pitch in
      ring (e.a.x ∷ e.a.y ∷ e.b.x ∷ e.b.y ∷ start.x ∷ start.y ∷ P ∷ Q ∷ [])
      ((V 2 ⊖ V 0) ⊗ (V 5 ⊖ V 1) ⊖ (V 3 ⊖ V 1) ⊗ ((V 4 ⊕ V 6 ⊗ V 7) ⊖ V 0))
      (((V 2 ⊖ V 0) ⊗ (V 5 ⊖ V 1) ⊖ (V 3 ⊖ V 1) ⊗ (V 4 ⊖ V 0)) ⊖ V 6 ⊗ (V 7 ⊗ (V 3 ⊖ V 1))) tt
      ∙ ap₂ (λ c s. c -ℤ P *ℤ s) (sym from) (sym step)

  -- on the line of the edge the point is on the edge
  on_row : (i : ℕ) → e.a.y ≤ℤ row.start.y → row.start.y ≤ℤ e.b.y → cross_of e.a e.b (grid_point row i) ≡ pos 0 → IsBetween e.a e.b (point_of row i)
  on_row i low high level =
      let p = grid_point row i in
      let xs = e.a.x ∷ e.a.y ∷ e.b.x ∷ e.b.y ∷ p.x ∷ p.y ∷ [] in
      let across = ring xs ((V 3 ⊖ V 1) ⊗ V 4) (K (pos 1) ⊗ ((V 3 ⊖ V 1) ⊗ V 0 ⊕ (V 5 ⊖ V 1) ⊗ (V 2 ⊖ V 0)) ⊖ ((V 2 ⊖ V 0) ⊗ (V 5 ⊖ V 1) ⊖ (V 3 ⊖ V 1) ⊗ (V 4 ⊖ V 0))) tt in
      record {
        at = record { k = row.start.y -ℤ e.a.y; n = e.b.y -ℤ e.a.y; start = omega (arith, ints); finish = omega (arith, ints); some = omega (arith, ints) };
        across = omega (arith, ints);
        up = ring xs ((V 3 ⊖ V 1) ⊗ V 5) (K (pos 1) ⊗ ((V 3 ⊖ V 1) ⊗ V 1 ⊕ (V 5 ⊖ V 1) ⊗ (V 3 ⊖ V 1))) tt;
      }

  pub rising_meets : e.a.y ≤ℤ row.start.y → row.start.y ≤ℤ e.b.y → m.to ≡ m.from → m.passes ≡ int_lt row.start.y e.b.y → IsMeeting row e m
  rising_meets low high to passes = record {
    on = λ i. (
      (λ on. let is = gap i in let level = on_line e.a e.b (grid_point row i) on in record { low = omega (arith, ints); high = omega (arith, ints) }),
      (λ within. let is = gap i in let first = within.low in let last = within.high in on_row i low high (omega (arith, ints))),
    );
    counted = λ i. by_lt_z row.start.y e.b.y
        (λ below.
        let is = gap i in
        let starts = is_le e.a.y row.start.y low in
        let ends = not_le e.b.y row.start.y below in
        let passed = passes ∙ is_less row.start.y e.b.y below in
        sym (rising e.a e.b (grid_point row i) starts ends)
        ∙ same_lt (pos 0) (cross_of e.a e.b (grid_point row i)) (pos (i * m.step)) m.from (λ l. omega (arith, ints)) (λ l. omega (arith, ints))
        ∙ ap (λ b. b && int_lt (pos (i * m.step)) m.from) (sym passed))
        (λ top.
        let starts = is_le e.a.y row.start.y low in
        let ends = is_le e.b.y row.start.y top in
        let passed = passes ∙ not_less row.start.y e.b.y top in
        sym (beside_row e.a e.b (grid_point row i) (starts ∙ sym ends)) ∙ ap (λ b. b && int_lt (pos (i * m.step)) m.from) (sym passed));
  }

-- ---- the same edge from its other end

between_turned : (a b : GridPoint) (w : RationalPoint) → IsBetween b a w → IsBetween a b w
between_turned a b w on =
    let k = on.at.k in
    let n = on.at.n in
    let same : (a b : ℤ) → w.over *ℤ (n *ℤ b +ℤ k *ℤ (a -ℤ b)) ≡ w.over *ℤ (n *ℤ a +ℤ (n -ℤ k) *ℤ (b -ℤ a)) =
    (λ a b. ring (a ∷ b ∷ k ∷ n ∷ w.over ∷ []) (V 4 ⊗ (V 3 ⊗ V 1 ⊕ V 2 ⊗ (V 0 ⊖ V 1))) (V 4 ⊗ (V 3 ⊗ V 0 ⊕ (V 3 ⊖ V 2) ⊗ (V 1 ⊖ V 0))) tt) in
    record { at = turned on.at; across = on.across ∙ same a.x b.x; up = on.up ∙ same a.y b.y }

module _ (a b p : GridPoint) where
  cross_turned : cross_of b a p ≡ neg_ℤ (cross_of a b p)
  cross_turned =
      ring (a.x ∷ a.y ∷ b.x ∷ b.y ∷ p.x ∷ p.y ∷ [])
      ((V 0 ⊖ V 2) ⊗ (V 5 ⊖ V 3) ⊖ (V 1 ⊖ V 3) ⊗ (V 4 ⊖ V 2)) (M ((V 2 ⊖ V 0) ⊗ (V 5 ⊖ V 1) ⊖ (V 3 ⊖ V 1) ⊗ (V 4 ⊖ V 0))) tt

  -- an edge that falls is counted where the same edge as it rises is
  counted_turned : b.y <ℤ a.y → is_counted (rational p) (record { a = b; b = a }) ≡ is_counted (rational p) (record { a = a; b = b })
  counted_turned down =
      let beside : int_le a.y p.y ≡ int_le b.y p.y → is_counted (rational p) (record { a = b; b = a }) ≡ is_counted (rational p) (record { a = a; b = b }) =
      (λ same. sym (beside_row b a p (sym same)) ∙ beside_row a b p same) in
      let is = cross_turned in
      by_lt_z p.y b.y
      (λ below. beside (not_le a.y p.y (omega (arith, ints)) ∙ sym (not_le b.y p.y below)))
      (λ reached. by_lt_z p.y a.y
      (λ passed.
      let starts = not_le a.y p.y passed in
      let ends = is_le b.y p.y reached in
      sym (rising b a p ends starts)
      ∙ same_lt (pos 0) (cross_of b a p) (cross_of a b p) (pos 0) (λ l. omega (arith, ints)) (λ l. omega (arith, ints))
      ∙ falling a b p starts ends)
      (λ above. beside (is_le a.y p.y above ∙ sym (is_le b.y p.y reached))))

pub turned_meets : (row : Row) (a b : GridPoint) (m : Meeting) → b.y <ℤ a.y → IsMeeting row (record { a = b; b = a }) m → IsMeeting row (record { a = a; b = b }) m
turned_meets row a b m down meets = record {
  on = λ i. (
    (λ on. (meets.on i).0 (between_turned b a (point_of row i) on)),
    (λ within. between_turned a b (point_of row i) ((meets.on i).1 within)),
  );
  counted = λ i. sym (counted_turned a b (grid_point row i) down) ∙ meets.counted i;
}

-- ---- an edge of one height

module _ (row : Row) (e : Seg) (m : Meeting) (level : e.a.y ≡ e.b.y) (at_row : e.a.y ≡ row.start.y) where
  on_level : (i : ℕ) → int_min (e.a.x -ℤ row.start.x) (e.b.x -ℤ row.start.x) ≤ℤ pos (i * row.pitch) → pos (i * row.pitch) ≤ℤ int_max (e.a.x -ℤ row.start.x) (e.b.x -ℤ row.start.x)
      → IsBetween e.a e.b (point_of row i)
  on_level i low high =
      let p = grid_point row i in
      let to_row : p.y -ℤ e.a.y ≡ pos 0 = omega (arith, ints) in
      let no_rise : e.b.y -ℤ e.a.y ≡ pos 0 = omega (arith, ints) in
      let first = ap (λ z. (e.b.x -ℤ e.a.x) *ℤ z) to_row ∙ times_zero (e.b.x -ℤ e.a.x) in
      let second = ap (λ z. z *ℤ (p.x -ℤ e.a.x)) no_rise ∙ zero_times (p.x -ℤ e.a.x) in
      let flat = ap (λ z. z *ℤ (e.b.y -ℤ p.y)) (let z : e.a.y -ℤ p.y ≡ pos 0 = omega (arith, ints) in z) ∙ zero_times (e.b.y -ℤ p.y) in
      let near : ((e.a.x -ℤ p.x) *ℤ (e.b.x -ℤ p.x)) ≤ℤ pos 0 =
      by_lt_z e.a.x e.b.x
      (λ right.
      let turned = ring ((e.a.x -ℤ p.x) ∷ (e.b.x -ℤ p.x) ∷ []) (V 0 ⊗ V 1) (V 1 ⊗ V 0) tt in
      let h = times_nonpos (e.b.x -ℤ p.x) (e.a.x -ℤ p.x) (omega (arith, ints, clamps)) (omega (arith, ints, clamps)) in omega (arith, ints))
      (λ left. times_nonpos (e.a.x -ℤ p.x) (e.b.x -ℤ p.x) (omega (arith, ints, clamps)) (omega (arith, ints, clamps))) in
      on_segment e.a e.b p (omega (arith, ints)) (omega (arith, ints))

  pub level_meets : m.from ≡ int_min (e.a.x -ℤ row.start.x) (e.b.x -ℤ row.start.x) → m.to ≡ int_max (e.a.x -ℤ row.start.x) (e.b.x -ℤ row.start.x)
      → m.step ≡ row.pitch → m.passes ≡ false → IsMeeting row e m
  level_meets from to step passes = record {
    on = λ i. (
      (λ on.
          let place : pos (i * m.step) ≡ pos (i * row.pitch) = ap (λ n. pos (i * n)) step in
          let right = edge_beyond (pos 1) (pos 0) (m.from +ℤ row.start.x) e.a e.b (point_of row i) (omega (arith, ints, clamps)) (omega (arith, ints, clamps)) on in
          let left = edge_beyond (neg_ℤ (pos 1)) (pos 0) (neg_ℤ (m.to +ℤ row.start.x)) e.a e.b (point_of row i) (omega (arith, ints, clamps)) (omega (arith, ints, clamps)) on in
          record { low = omega (arith, ints); high = omega (arith, ints) }),
      (λ within.
          let place : pos (i * m.step) ≡ pos (i * row.pitch) = ap (λ n. pos (i * n)) step in
          let low = within.low in
          let high = within.high in
          on_level i (omega (arith, ints)) (omega (arith, ints))),
    );
    counted = λ i. sym (beside_row e.a e.b (grid_point row i) (ap (λ z. int_le z row.start.y) level)) ∙ ap (λ b. b && int_lt (pos (i * m.step)) m.from) (sym passes);
  }
