-- The least number of a kept point near a given one, of those that a range of squares shows.
use Rattle.std.proofs.Common.{◌≡◌, ℕ, ◌+◌, ◌-◌, ◌<◌, ◌≤◌, Bool, true, false, cond, ◌⊎◌, inl, inr, ⊎_elim, Option, Some, IfSome, List, [], ◌∷◌, length, All, sym, subst, refl, arith}
use Rattle.std.specs.BTreeMap.{BTreeMap, get}
use Rattle.std.specs.BTreeMap.Range.{entries_between, range_contains}
use Rattle.std.specs.List.{filter}
use Rattle.std.specs.Map.{lookup, values_of}
use Rattle.std.specs.Ordering.{is_eq, is_le, is_lt, nat_cmp}
use Rattle.std.specs.declared.ops.Bound.TheVariants.{Included}
use Rattle.std.proofs.lemmas.Bool.Decides.{nat_tests}
use Rattle.std.proofs.lemmas.List.Elements.{All-cons, All-head, All-nil, All-rest, All-tail}
use Rattle.std.proofs.lemmas.Option.{get_or_from_slice_get, slice_get_within}
use Rattle.plane_exact.specs.Plane.{GridPoint}
use Rattle.loop_join.specs.Cells.{cell_number, cell_of}
use Rattle.loop_join.specs.Keeping.{AreIndexed, AtMost, IsLeastOfColumn, IsNearAt}

-- ---- squares in a range

not_above : (a b : ℕ) → a ≤ b → is_le (nat_cmp a b) ≡ true
not_above a b le = grind (arith, nat_tests)

not_below : (a b : ℕ) → b ≤ a → is_lt (nat_cmp a b) ≡ false
not_below a b le = grind (arith, nat_tests)

pub same_from_cmp : (c d : ℕ) → is_eq (nat_cmp c d) ≡ true → c ≡ d
same_from_cmp c d is = grind (arith, nat_tests)

in_range : (from to c : ℕ) → from ≤ c → c ≤ to → range_contains nat_cmp (Included from) (Included to) c ≡ true
in_range from to c low high = rw (not_above from c low, not_below to c high) refl

-- an entry has the number
abbrev pub HasNumber : ℕ → List (ℕ × ℕ) → Type 0
HasNumber k [] = ⊥
HasNumber k (e ∷ es) = (e.1 ≡ k) ⊎ HasNumber k es

-- what a look-up finds is among the entries of a range that has its key
found_in_range : (is_key range : ℕ → Bool) → ((c : ℕ) → is_key c ≡ true → range c ≡ true) → (k : ℕ) (es : List (ℕ × ℕ)) → lookup is_key es ≡ Some k → HasNumber k (filter (λ e. range e.0) es)
found_in_range is_key range holds k [] is = absurd (cc)
found_in_range is_key range holds k (e ∷ es) is = by (is_key e.0) (range e.0) (holds e.0) is (found_in_range is_key range holds k es)
  where
    by : (here shown : Bool) → (here ≡ true → shown ≡ true) → cond here (Some e.1) (lookup is_key es) ≡ Some k → (lookup is_key es ≡ Some k → HasNumber k (filter (λ e. range e.0) es)) → HasNumber k (cond shown (e ∷ filter (λ e. range e.0) es) (filter (λ e. range e.0) es))
    by true true shows now later = inl (let number : e.1 ≡ k = cc in number)
    by true false shows now later = absurd (let never = shows refl in cc)
    by false true shows now later = inr (later now)
    by false false shows now later = later now

shown_numbers : (n : ℕ) (shown : Bool) (e : ℕ × ℕ) (es : List (ℕ × ℕ)) → e.1 < n → All (λ e. e.1 < n) es → All (λ e. e.1 < n) (cond shown (e ∷ es) es)
shown_numbers n true e es here others = All-cons (λ e. e.1 < n) e es here others
shown_numbers n false e es here others = others

pub numbers_in_range : (n : ℕ) (range : ℕ → Bool) (es : List (ℕ × ℕ)) → All (λ m. m < n) (values_of es) → All (λ e. e.1 < n) (filter (λ e. range e.0) es)
numbers_in_range n range [] all = All-nil (λ e. e.1 < n)
numbers_in_range n range (e ∷ es) all =
    shown_numbers n (range e.0) e (filter (λ e. range e.0) es) (All-head (λ m. m < n) e.1 (values_of es) all) (numbers_in_range n range es (All-tail (λ m. m < n) e.1 (values_of es) all))

-- ---- the least so far, where some entries are left

pub record IsLeastSoFar (t : ℕ) (points : List GridPoint) (p : GridPoint) (start least : Option ℕ) (all left : List (ℕ × ℕ)) : Type 0 where
  pub keeps : (k : ℕ) → AtMost start k → AtMost least k
  pub found : (least ≡ start) ⊎ IfSome least (λ k. IsNearAt t points p k)
  pub numbers : All (λ e. e.1 < length points) left
  pub passed : (k : ℕ) → IsNearAt t points p k → HasNumber k all → HasNumber k left ⊎ AtMost least k

pub least_begun : (t : ℕ) (points : List GridPoint) (p : GridPoint) (start : Option ℕ) (all : List (ℕ × ℕ)) → All (λ e. e.1 < length points) all → IsLeastSoFar t points p start start all all
least_begun t points p start all numbers = record { keeps = λ k is. is; found = inl refl; numbers = numbers; passed = λ k near has. inl has }

least_first : (t : ℕ) (points : List GridPoint) (p : GridPoint) (k number : ℕ) (least next : Option ℕ) (rest : List (ℕ × ℕ))
    → ((j : ℕ) → AtMost least j → AtMost next j) → (IsNearAt t points p number → AtMost next number) → IsNearAt t points p k
    → ((number ≡ k) ⊎ HasNumber k rest) ⊎ AtMost least k → HasNumber k rest ⊎ AtMost next k
least_first t points p k number least next rest keeps judged near (inl (inl same)) = inr (subst (AtMost next) same (judged (subst (IsNearAt t points p) (sym same) near)))
least_first t points p k number least next rest keeps judged near (inl (inr later)) = inl later
least_first t points p k number least next rest keeps judged near (inr before) = inr (keeps k before)

pub least_stepped : (t : ℕ) (points : List GridPoint) (p : GridPoint) (start least next : Option ℕ) (all left : List (ℕ × ℕ)) (cell : ℕ) (number : ℕ) (rest : List (ℕ × ℕ))
    → left ≡ (cell, number) ∷ rest → ((k : ℕ) → AtMost least k → AtMost next k) → (IsNearAt t points p number → AtMost next number)
    → (next ≡ least) ⊎ ((next ≡ Some number) × IsNearAt t points p number)
    → IsLeastSoFar t points p start least all left → IsLeastSoFar t points p start next all rest
least_stepped t points p start least next all left cell number rest first keeps judged found is =
    record {
      keeps = λ k at_most. keeps k (is.keeps k at_most);
      found = next_found found;
      numbers = All-rest (λ e. e.1 < length points) (cell, number) rest left first is.numbers;
      passed = λ k near has. least_first t points p k number least next rest keeps judged near (subst (λ entries. HasNumber k entries ⊎ AtMost least k) first (is.passed k near has));
    }
  where
    next_found : (next ≡ least) ⊎ ((next ≡ Some number) × IsNearAt t points p number) → (next ≡ start) ⊎ IfSome next (λ k. IsNearAt t points p k)
    next_found (inl same) = subst (λ o. (o ≡ start) ⊎ IfSome o (λ k. IsNearAt t points p k)) (sym same) is.found
    next_found (inr here) = inr (subst (λ o. IfSome o (λ k. IsNearAt t points p k)) (sym here.0) here.1)

-- where none is left, none of the column is passed over
pub column_least : (t : ℕ) (points : List GridPoint) (p : GridPoint) (column row : ℕ) (start least : Option ℕ) (cells : BTreeMap ℕ ℕ) (from to : ℕ) (all left : List (ℕ × ℕ))
    → AreIndexed t points cells → 1 ≤ row → from ≡ cell_number column (row - 1) → to ≡ cell_number column (row + 1)
    → all ≡ entries_between nat_cmp (Included from) (Included to) cells.entries → left ≡ []
    → IsLeastSoFar t points p start least all left → IsLeastOfColumn t points p column row least
column_least t points p column row start least cells from to all left are some from_is to_is all_is none is =
    λ k q there near in_column low high.
    let cell = cell_of t q in
    let point = get_or_from_slice_get points k q q there in
    let found : get nat_cmp cells cell ≡ Some k = subst (λ r. get nat_cmp cells (cell_of t r) ≡ Some k) point (are.indexed k q (slice_get_within points k q there)) in
    let after : from ≤ cell = omega arith in
    let before : cell ≤ to = omega arith in
    let shown : (c : ℕ) → is_eq (nat_cmp cell c) ≡ true → range_contains nat_cmp (Included from) (Included to) c ≡ true =
    λ c same. subst (λ d. range_contains nat_cmp (Included from) (Included to) d ≡ true) (same_from_cmp cell c same) (in_range from to cell after before) in
    let has : HasNumber k all = subst (HasNumber k) (sym all_is) (found_in_range (λ c. is_eq (nat_cmp cell c)) (range_contains nat_cmp (Included from) (Included to)) shown k cells.entries found) in
    ⊎_elim (λ later. absurd (subst (HasNumber k) none later)) (λ before. before) (is.passed k (record { point = q; is_point = there; near = near }) has)
