-- The loops of a field with one cell more, and how many points they have.
use Rattle.std.proofs.Common.{◌≡◌, ◌≢◌, ◌∙◌, ℕ, zero, suc, ◌+◌, ◌*◌, Bool, true, false, cond, List, [], ◌∷◌, ◌++◌, length, pos, eq-eqb, ne_eqb, refl, sym, ap, arith, sum_by, append-nil, append_assoc, add-zero, zero-add}
use Rattle.std.specs.List.{flat_map, range_with_len}
use Rattle.std.specs.Prelude.{◌%◌, ◌==◌}
use Rattle.std.proofs.lemmas.List.Sums.{sum_by-append}
use Rattle.plane_exact.specs.Plane.{GridPoint}
use Rattle.trial_field.specs.Field.{cell_loops, far_of, middle_of, near_of, octagon, square, trial_loops}

-- the loops of a cell, by whether its number is even
abbrev by_parity : Bool → ℕ → List (List GridPoint)
by_parity even i = cond even (octagon (middle_of i) (pos (far_of i)) (pos (near_of i)) ∷ []) (square (middle_of i) (pos (far_of i)) ∷ square (middle_of i) (pos (near_of i)) ∷ [])

one_more : (first count : ℕ) → flat_map cell_loops (range_with_len first (suc count)) ≡ flat_map cell_loops (range_with_len first count) ++ cell_loops (first + count)
one_more first zero = append-nil (cell_loops first) ∙ ap cell_loops (sym (add-zero first))
one_more first (suc count) =
    let others = flat_map cell_loops (range_with_len (first + 1) count) in
    let last : first + 1 + count ≡ first + suc count = omega arith in
    ap (λ rest. cell_loops first ++ rest) (one_more (first + 1) count) ∙ sym (append_assoc (cell_loops first) others (cell_loops (first + 1 + count)))
    ∙ ap (λ i. (cell_loops first ++ others) ++ cell_loops i) last

-- no cell has no loops
pub trial_loops_none : [] ≡ trial_loops 0
unfolding trial_loops
trial_loops_none = refl

-- the loops of the next cell come last
pub trial_loops_more : (count : ℕ) → trial_loops (count + 1) ≡ trial_loops count ++ cell_loops count
unfolding trial_loops
trial_loops_more count =
    let next : count + 1 ≡ suc count = omega arith in
    ap (λ n. flat_map cell_loops (range_with_len 0 n)) next ∙ one_more 0 count ∙ ap (λ i. trial_loops count ++ cell_loops i) (zero-add count)

-- an even cell has an octagon
pub even_cell : (i : ℕ) → i % 2 ≡ 0 → cell_loops i ≡ octagon (middle_of i) (pos (far_of i)) (pos (near_of i)) ∷ []
unfolding cell_loops
even_cell i even = ap (λ b. by_parity b i) (eq-eqb (i % 2) 0 even)

-- an odd one has two squares
pub odd_cell : (i : ℕ) → i % 2 ≢ 0 → cell_loops i ≡ square (middle_of i) (pos (far_of i)) ∷ square (middle_of i) (pos (near_of i)) ∷ []
unfolding cell_loops
odd_cell i odd = ap (λ b. by_parity b i) (ne_eqb (i % 2) 0 odd)

-- a cell has eight points
cell_points : (i : ℕ) → sum_by length (cell_loops i) ≡ 8
unfolding cell_loops
cell_points i = go (i % 2 == 0)
  where
    go : (even : Bool) → sum_by length (by_parity even i) ≡ 8
    go true = refl
    go false = refl

pub trial_points : (count : ℕ) → sum_by length (trial_loops count) ≡ 8 * count
trial_points zero = ap (sum_by length) (sym trial_loops_none)
trial_points (suc count) =
    let next : suc count ≡ count + 1 = omega arith in
    let more = ap (λ n. sum_by length (trial_loops n)) next ∙ ap (sum_by length) (trial_loops_more count) ∙ sum_by-append length (trial_loops count) (cell_loops count) in
    omega (arith, more, trial_points count, cell_points count)
