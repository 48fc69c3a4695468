-- Whether an edge is counted at a grid point, by the sign of a cross product.
use Rattle.std.specs.Prelude.{not, ◌&&◌, if◌then◌else◌, int_lt, int_le}
use Rattle.std.proofs.Common.{◌≡◌, Bool, refl, true, false, [], ◌∷◌, ℤ, pos, ◌-ℤ◌, ◌*ℤ◌, ◌<ℤ◌, ◌≤ℤ◌, arith}
use Rattle.std.proofs.lemmas.Int.{ints, by_lt_z}
use Rattle.integer_algebra.proofs.Ring.{ring, V, K, ◌⊖◌, ◌⊗◌}
use Rattle.integer_algebra.proofs.Order.{sign_of_pos, sign_of_nonpos}
use Rattle.plane_exact.specs.Plane.{GridPoint, rational}
use Rattle.plane_exact.specs.Product.{cross_of}
use Rattle.engrave_model.specs.Inside.{is_counted}

pub one_times : (z : ℤ) → pos 1 *ℤ z ≡ z
one_times z = ring (z ∷ []) (K (pos 1) ⊗ V 0) (V 0) tt

-- two tests of order are one where they hold together
pub same_lt : (a b c d : ℤ) → (a <ℤ b → c <ℤ d) → (b ≤ℤ a → d ≤ℤ c) → int_lt a b ≡ int_lt c d
same_lt a b c d below above =
    by_lt_z a b
    (λ l. let holds : c <ℤ d = below l in grind (arith, ints))
    (λ l. let fails : d ≤ℤ c = above l in grind (arith, ints))

-- the sign of a difference by that of a multiple of it
pub scaled_test : (m gap less more : ℤ) → pos 0 <ℤ m → m *ℤ gap ≡ more -ℤ less → int_lt less more ≡ int_lt (pos 0) gap
scaled_test m gap less more some is =
    same_lt less more (pos 0) gap
    (λ l. sign_of_pos m gap (omega (arith, ints)) (omega (arith, ints)))
    (λ l. sign_of_nonpos m gap some (omega (arith, ints)))

-- the cross product of an edge and the way to p, by how far p is along and across
cross_parts : (ax ay bx by px py : ℤ)
    → (bx -ℤ ax) *ℤ (py -ℤ ay) -ℤ (by -ℤ ay) *ℤ (px -ℤ ax)
    ≡ (py -ℤ ay) *ℤ (bx -ℤ ax) -ℤ (px -ℤ ax) *ℤ (by -ℤ ay)
cross_parts ax ay bx by px py =
    let along = (V 5 ⊖ V 1) ⊗ (V 2 ⊖ V 0) in
    let across = (V 4 ⊖ V 0) ⊗ (V 3 ⊖ V 1) in
    ring (ax ∷ ay ∷ bx ∷ by ∷ px ∷ py ∷ []) ((V 2 ⊖ V 0) ⊗ (V 5 ⊖ V 1) ⊖ (V 3 ⊖ V 1) ⊗ (V 4 ⊖ V 0)) (along ⊖ across) tt

pub left_of : (cross along across : ℤ) → cross ≡ along -ℤ across → int_lt (pos 0) cross ≡ int_lt across along
left_of cross along across is = same_lt (pos 0) cross across along (λ l. omega (arith, ints)) (λ l. omega (arith, ints))

right_of : (cross along across : ℤ) → cross ≡ along -ℤ across → int_lt cross (pos 0) ≡ int_lt along across
right_of cross along across is = same_lt cross (pos 0) along across (λ l. omega (arith, ints)) (λ l. omega (arith, ints))

passes_none : (at_or_below right : Bool) → false ≡ (if at_or_below then not at_or_below else at_or_below) && right
passes_none true right = refl
passes_none false right = refl

module _ (a b p : GridPoint) where
  -- an edge that starts and ends on one side of the row isn't counted
  pub beside_row : int_le a.y p.y ≡ int_le b.y p.y → false ≡ is_counted (rational p) (record { a = a; b = b })
  beside_row same = rw (one_times a.y, one_times b.y, same) (passes_none _ _)

  -- a rising edge is counted where p lies on its left
  pub rising : int_le a.y p.y ≡ true → int_le b.y p.y ≡ false
      → int_lt (pos 0) (cross_of a b p) ≡ is_counted (rational p) (record { a = a; b = b })
  rising starts ends =
      let up : int_lt a.y b.y ≡ true = grind (arith, ints) in
      rw (one_times a.y, one_times b.y, one_times a.x, starts, ends, up)
      (left_of _ ((p.y -ℤ a.y) *ℤ (b.x -ℤ a.x)) ((p.x -ℤ a.x) *ℤ (b.y -ℤ a.y)) (cross_parts a.x a.y b.x b.y p.x p.y))

  -- a falling edge is counted where p lies on its right
  pub falling : int_le a.y p.y ≡ false → int_le b.y p.y ≡ true
      → int_lt (cross_of a b p) (pos 0) ≡ is_counted (rational p) (record { a = a; b = b })
  falling starts ends =
      let down : int_lt a.y b.y ≡ false = grind (arith, ints) in
      rw (one_times a.y, one_times b.y, one_times a.x, starts, ends, down)
      (right_of _ ((p.y -ℤ a.y) *ℤ (b.x -ℤ a.x)) ((p.x -ℤ a.x) *ℤ (b.y -ℤ a.y)) (cross_parts a.x a.y b.x b.y p.x p.y))
