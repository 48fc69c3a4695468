-- Squares of the grid: what is near a point lies in its square or beside it, and what lies in its square is near; so the
-- earliest kept point near it is found, and a point that is kept has a square of its own.
use Rattle.std.specs.Prelude.{ℤ, negsuc, ◌-ℤ◌, find, option_and_then, unsigned_abs}
use Rattle.std.specs.BTreeMap.{BTreeMap, Updates, insert_entry}
use Rattle.std.specs.List.{AllByRecursion, slice_get}
use Rattle.std.specs.Map.{lookup, values_of}
use Rattle.std.specs.Ordering.{is_eq, nat_cmp}
use Rattle.std.proofs.Common.{◌≡◌, ℕ, ◌+◌, ◌-◌, ◌*◌, ◌/◌, ◌<◌, ◌≤◌, Bool, true, false, cond, ◌⊎◌, inl, inr, ⊎_elim, Option, None, Some, IfSome, List, [], ◌∷◌, ◌++◌, length, get_or, All, sym, ap, subst, ◌∙◌, refl, arith}
use Rattle.std.proofs.Math.Nat.{div-le_self, div-lt_iff_lt-mul, div-mul-le_self, lt-div-mul-add}
use Rattle.std.proofs.lemmas.Bool.{and_from, and_parts, cases_lt, le-leb, leb-true}
use Rattle.std.proofs.lemmas.Int.{ints}
use Rattle.std.proofs.lemmas.List.{get_or_append_left, get_or_push, length_push}
use Rattle.std.proofs.lemmas.List.Elements.{All-from_recursion, All-get_or, All-push, All-weaker}
use Rattle.std.proofs.lemmas.List.Folds.{find_at}
use Rattle.std.proofs.lemmas.List.Sums.{position_or_len_is}
use Rattle.std.proofs.lemmas.Map.Views.{All-values-insert_entry}
use Rattle.std.proofs.lemmas.Option.{get_or_from_slice_get, slice_get-get_or, slice_get_past, slice_get_within}
use Rattle.plane_exact.specs.Plane.{GridPoint, IsCoordinate, IsOnGrid}
use Rattle.loop_join.specs.Cells.{cell_number, cell_of, strip_of}
use Rattle.loop_join.specs.Keeping.{AreIndexed, AtMost, IsEarliest, IsLeastOfColumn, IsNearAt}
use Rattle.loop_join.specs.Snap.{earliest_near, is_near}
use Rattle.loop_join.proofs.Leasts.{same_from_cmp}

-- ---- strips

-- a number that isn't a whole step above another has a quotient at most one above
quotient_near : (n a b : ℕ) → 0 < n → b < a + n → b / n ≤ a / n + 1
quotient_near n a b some below =
    let far : b < (a / n + 2) * n = omega (arith, lt-div-mul-add {a = a} {b = n} some) in
    let less = (div-lt_iff_lt-mul {k = n} {x = b} {y = a / n + 2} some).1 far in
    omega arith

-- numbers of one quotient are less than a step apart
quotient_same : (n a b : ℕ) → 0 < n → a / n ≡ b / n → a < b + n
quotient_same n a b some same =
    omega (arith, lt-div-mul-add {a = a} {b = n} some, div-mul-le_self b n, ap (λ q. q * n) same)

record AreNextTo (m n : ℕ) : Type 0 where
  up : m ≤ n + 1
  down : n ≤ m + 1

strips_near : (t : ℕ) (x y : ℤ) → IsCoordinate x → IsCoordinate y → unsigned_abs (x -ℤ y) ≤ t → AreNextTo (strip_of t x) (strip_of t y)
strips_near t x y x_on y_on near =
    let x_low = x_on.low in
    let y_low = y_on.low in
    let a = unsigned_abs (x -ℤ negsuc 32767) in
    let b = unsigned_abs (y -ℤ negsuc 32767) in
    let above : b < a + (t + 1) = omega (arith, ints) in
    let below : a < b + (t + 1) = omega (arith, ints) in
    let up = quotient_near (t + 1) b a (omega arith) below in
    let down = quotient_near (t + 1) a b (omega arith) above in
    record { up = omega arith; down = omega arith }

near_in_strip : (t : ℕ) (x y : ℤ) → IsCoordinate x → IsCoordinate y → strip_of t x ≡ strip_of t y → unsigned_abs (x -ℤ y) ≤ t
near_in_strip t x y x_on y_on same =
    let x_low = x_on.low in
    let y_low = y_on.low in
    let a = unsigned_abs (x -ℤ negsuc 32767) in
    let b = unsigned_abs (y -ℤ negsuc 32767) in
    let quotients : a / (t + 1) ≡ b / (t + 1) = omega arith in
    let below = quotient_same (t + 1) a b (omega arith) quotients in
    let above = quotient_same (t + 1) b a (omega arith) (sym quotients) in
    omega (arith, ints)

-- ---- the earliest point near another

near_beside : (t : ℕ) (p q : GridPoint) → IsOnGrid p.x p.y → IsOnGrid q.x q.y → is_near t p q ≡ true → AreNextTo (strip_of t p.x) (strip_of t q.x) × AreNextTo (strip_of t p.y) (strip_of t q.y)
near_beside t p q p_on q_on near =
    let parts = and_parts _ _ near in
    (strips_near t p.x q.x p_on.across q_on.across (leb-true _ _ parts.0), strips_near t p.y q.y p_on.up q_on.up (leb-true _ _ parts.1))

one_of_three : (m n : ℕ) → AreNextTo m n → 1 ≤ m → (n ≡ m - 1) ⊎ ((n ≡ m) ⊎ (n ≡ m + 1))
one_of_three m n is some =
    let up = is.up in
    let down = is.down in
    elim (cases_lt n m) [
      | inl less ↦ inl (omega arith)
      | inr not_less ↦ elim (cases_lt m n) [ inl more ↦ inr (inr (omega arith)) | inr not_more ↦ inr (inl (omega arith)) ]
    ]

-- the three columns around that of a point have all that is near it
near_found : (t : ℕ) (points : List GridPoint) (p : GridPoint) (column row : ℕ) (left middle first : Option ℕ) → All (λ q. IsOnGrid q.x q.y) points → IsOnGrid p.x p.y → column ≡ strip_of t p.x → row ≡ strip_of t p.y
    → IsLeastOfColumn t points p (column - 1) row left → ((k : ℕ) → AtMost left k → AtMost middle k)
    → IsLeastOfColumn t points p column row middle → ((k : ℕ) → AtMost middle k → AtMost first k)
    → IsLeastOfColumn t points p (column + 1) row first → (k : ℕ) → IsNearAt t points p k → AtMost first k
near_found t points p column row left middle first on p_on column_is row_is in_left left_kept in_middle middle_kept in_right k is =
    let q = is.point in
    let point = get_or_from_slice_get points k q q is.is_point in
    let q_on : IsOnGrid q.x q.y = subst (λ r. IsOnGrid r.x r.y) point (All-get_or (λ q. IsOnGrid q.x q.y) points k q (slice_get_within points k q is.is_point) on) in
    let beside = near_beside t p q p_on q_on is.near in
    let up = beside.1.up in
    let down = beside.1.down in
    let low : row ≤ strip_of t q.y + 1 = omega arith in
    let high : strip_of t q.y ≤ row + 1 = omega arith in
    elim (one_of_three column (strip_of t q.x) (rw column_is beside.0) (omega arith)) [
      | inl there ↦ middle_kept k (left_kept k (in_left k q is.is_point is.near there low high))
      | inr (inl there) ↦ middle_kept k (in_middle k q is.is_point is.near there low high)
      | inr (inr there) ↦ in_right k q is.is_point is.near there low high
    ]

not_near : (t : ℕ) (points : List GridPoint) (p : GridPoint) (first : Option ℕ) → ((k : ℕ) → IsNearAt t points p k → AtMost first k)
    → (k : ℕ) → k < length points → ¬ AtMost first k → is_near t p (get_or points k p) ≡ false
not_near t points p first least k inside before = by (is_near t p (get_or points k p)) refl
  where
    by : (near : Bool) → is_near t p (get_or points k p) ≡ near → near ≡ false
    by true near = absurd (before (least k (record { point = get_or points k p; is_point = slice_get-get_or points k p inside; near = near })))
    by false near = refl

pub earliest_is : (t : ℕ) (points : List GridPoint) (p : GridPoint) (first : Option ℕ) → IfSome first (λ k. IsNearAt t points p k) → ((k : ℕ) → IsNearAt t points p k → AtMost first k)
    → earliest_near t points p ≡ option_and_then (slice_get points) first
earliest_is t points p None is least =
    let place = position_or_len_is (is_near t p) points (length points) p (omega arith) (λ k inside. not_near t points p None least k inside (λ never. never)) (λ over. absurd (omega arith)) in
    find_at (is_near t p) points ∙ ap (slice_get points) place ∙ slice_get_past points (length points) (omega arith)
earliest_is t points p (Some i) is least =
    let inside = slice_get_within points i is.point is.is_point in
    let here : is_near t p (get_or points i p) ≡ true = rw (get_or_from_slice_get points i is.point p is.is_point) is.near in
    let place = position_or_len_is (is_near t p) points i p (omega arith) (λ k before. not_near t points p (Some i) least k (omega arith) (λ at_most. omega arith)) (λ _. here) in
    find_at (is_near t p) points ∙ ap (slice_get points) place

carried : (t : ℕ) (points : List GridPoint) (p : GridPoint) (before after : Option ℕ) → IfSome before (λ k. IsNearAt t points p k) → (after ≡ before) ⊎ IfSome after (λ k. IsNearAt t points p k) → IfSome after (λ k. IsNearAt t points p k)
carried t points p before after is (inl same) = subst (λ o. IfSome o (λ k. IsNearAt t points p k)) (sym same) is
carried t points p before after is (inr found) = found

-- the look-ups in the three columns
pub earliest_of_columns : (t : ℕ) (points : List GridPoint) (p : GridPoint) (column row : ℕ) (left middle first : Option ℕ) → All (λ q. IsOnGrid q.x q.y) points → IsOnGrid p.x p.y → column ≡ strip_of t p.x → row ≡ strip_of t p.y
    → IsLeastOfColumn t points p (column - 1) row left → (left ≡ None) ⊎ IfSome left (λ k. IsNearAt t points p k)
    → ((k : ℕ) → AtMost left k → AtMost middle k) → IsLeastOfColumn t points p column row middle → (middle ≡ left) ⊎ IfSome middle (λ k. IsNearAt t points p k)
    → ((k : ℕ) → AtMost middle k → AtMost first k) → IsLeastOfColumn t points p (column + 1) row first → (first ≡ middle) ⊎ IfSome first (λ k. IsNearAt t points p k)
    → IsEarliest t points p first
earliest_of_columns t points p column row left middle first on p_on column_is row_is in_left left_found left_kept in_middle middle_found middle_kept in_right first_found =
    let near = carried t points p middle first (carried t points p left middle (carried t points p None left tt left_found) middle_found) first_found in
    record { near = near; earliest = earliest_is t points p first near (near_found t points p column row left middle first on p_on column_is row_is in_left left_kept in_middle middle_kept in_right) }

-- ---- one more kept point

pub none_found : (passes : GridPoint → Bool) (points : List GridPoint) → find passes points ≡ None → AllByRecursion (λ q. passes q ≡ false) points
none_found passes [] none = tt
none_found passes (q ∷ points) none = by (passes q) none (none_found passes points)
  where
    by : (here : Bool) → cond here (Some q) (find passes points) ≡ None → (find passes points ≡ None → AllByRecursion (λ q. passes q ≡ false) points) → (here ≡ false) × AllByRecursion (λ q. passes q ≡ false) points
    by true now later = absurd (cc)
    by false now later = (refl, later now)

strips_few : (t : ℕ) (z : ℤ) → IsCoordinate z → strip_of t z ≤ 65536
strips_few t z on =
    let low = on.low in
    let high = on.high in
    let size : unsigned_abs (z -ℤ negsuc 32767) ≤ 65535 = omega (arith, ints) in
    omega (arith, div-le_self (unsigned_abs (z -ℤ negsuc 32767)) (t + 1))

-- squares of one number have one column and one row
cells_apart : (column row column' row' : ℕ) → row ≤ 65536 → row' ≤ 65536 → cell_number column row ≡ cell_number column' row' → (column ≡ column') × (row ≡ row')
cells_apart column row column' row' few few' same = (omega arith, omega arith)

other_cell : (t : ℕ) (p q : GridPoint) → IsOnGrid p.x p.y → IsOnGrid q.x q.y → is_near t p q ≡ false → is_eq (nat_cmp (cell_of t p) (cell_of t q)) ≡ false
other_cell t p q p_on q_on far = by (is_eq (nat_cmp (cell_of t p) (cell_of t q))) refl
  where
    near : is_eq (nat_cmp (cell_of t p) (cell_of t q)) ≡ true → is_near t p q ≡ true
    near same =
        let is = cells_apart (strip_of t p.x) (strip_of t p.y) (strip_of t q.x) (strip_of t q.y) (strips_few t p.y p_on.up) (strips_few t q.y q_on.up) (same_from_cmp (cell_of t p) (cell_of t q) same) in
        and_from _ _ (le-leb _ _ (near_in_strip t p.x q.x p_on.across q_on.across is.0)) (le-leb _ _ (near_in_strip t p.y q.y p_on.up q_on.up is.1))

    by : (same : Bool) → is_eq (nat_cmp (cell_of t p) (cell_of t q)) ≡ same → same ≡ false
    by true same = absurd (let yes = near same in cc)
    by false same = refl

pub AreIndexed_push : (t : ℕ) (points longer : List GridPoint) (p : GridPoint) (cells cells' : BTreeMap ℕ ℕ) (cell : ℕ) (number : ℕ)
    → AreIndexed t points cells → IsOnGrid p.x p.y → earliest_near t points p ≡ None → longer ≡ points ++ p ∷ [] → cell ≡ cell_of t p → number ≡ length points
    → Updates nat_cmp cells cells' cell (Some number) → cells'.entries ≡ insert_entry nat_cmp cells.entries cell number
    → AreIndexed t longer cells'
AreIndexed_push t points longer p cells cells' cell number are p_on none longer_is cell_is number_is updates entries =
    subst (λ all. AreIndexed t all cells') (sym longer_is) (record {
      numbers = subst (λ es. All (λ n. n < length (points ++ p ∷ [])) (values_of es)) (sym entries)
          (All-values-insert_entry nat_cmp cell number (λ n. n < length (points ++ p ∷ [])) cells.entries
          (All-weaker (λ n. n < length points) (λ n. n < length (points ++ p ∷ [])) (λ n below. omega (arith, length_push points p)) (values_of cells.entries) are.numbers)
          (omega (arith, length_push points p)));
      indexed = λ i d inside. ⊎_elim
          (λ before.
          let q = get_or points i d in
          let far = All-get_or (λ q. is_near t p q ≡ false) points i d before (All-from_recursion (λ q. is_near t p q ≡ false) points (none_found (is_near t p) points none)) in
          let q_on = All-get_or (λ q. IsOnGrid q.x q.y) points i d before are.on_grid in
          let other : is_eq (nat_cmp cell (cell_of t q)) ≡ false = rw cell_is (other_cell t p q p_on q_on far) in
          rw (get_or_append_left points (p ∷ []) d i before) (updates.2 (cell_of t q) other ∙ are.indexed i d before))
          (λ past.
          let last : length points ≡ i = omega (arith, length_push points p) in
          rw (get_or_push points p d i last, ← cell_is) (updates.1 ∙ ap Some (number_is ∙ last)))
          (cases_lt i (length points));
      on_grid = All-push (λ q. IsOnGrid q.x q.y) points p are.on_grid p_on;
    })

-- the same squares and points
pub AreIndexed_same : (t : ℕ) (points points' : List GridPoint) (cells cells' : BTreeMap ℕ ℕ) → AreIndexed t points cells → points' ≡ points → cells'.entries ≡ cells.entries → AreIndexed t points' cells'
AreIndexed_same t points points' cells cells' are points_are entries =
    subst (λ all. AreIndexed t all cells') (sym points_are) (record {
      numbers = subst (λ es. All (λ n. n < length points) (values_of es)) (sym entries) are.numbers;
      indexed = λ i d inside. ap (lookup (λ c. is_eq (nat_cmp (cell_of t (get_or points i d)) c))) entries ∙ are.indexed i d inside;
      on_grid = are.on_grid;
    })

-- ---- the point of a number

pub earliest_within : {t : ℕ} {points : List GridPoint} {p : GridPoint} {number : Option ℕ} (k : ℕ) → IsEarliest t points p number → number ≡ Some k → k < length points
earliest_within {t} {points} {p} k is here =
    let near : IsNearAt t points p k = subst (λ o. IfSome o (λ k. IsNearAt t points p k)) here is.near in
    slice_get_within points k near.point near.is_point

pub earliest_point : {t : ℕ} {points : List GridPoint} {p : GridPoint} {number : Option ℕ} (k : ℕ) (q : GridPoint) → IsEarliest t points p number → number ≡ Some k → q ≡ get_or points k q → Some q ≡ earliest_near t points p
earliest_point {t} {points} {p} k q is here read =
    sym (is.earliest ∙ ap (option_and_then (slice_get points)) here ∙ slice_get-get_or points k q (earliest_within k is here) ∙ ap Some (sym read))
