-- The parity law for one edge.
use Rattle.std.specs.Prelude.{int_lt}
use Rattle.std.proofs.Common.{◌≡◌, Bool, true, false, refl, ℤ, pos, ◌<ℤ◌, arith, sym, ◌∙◌, ap₂}
use Rattle.std.proofs.lemmas.Int.{ints, by_lt_z}
use Rattle.plane_exact.specs.Plane.{GridPoint, RationalPoint}
use Rattle.engrave_model.specs.Inside.{is_at_or_below, is_counted, passes_row}
use Rattle.evenodd_region.specs.Parity.{EdgeParityLaw, exactly_one, is_in_rows, is_right_of_path}
use Rattle.evenodd_region.proofs.Levels.{IsLevel, meeting, shared}
use Rattle.evenodd_region.proofs.Crossings.{IsTold, counted_told, right_told, path_turned_told, edge_turned_told}

module _ (v w : RationalPoint) (a b : GridPoint) (apart : ¬ IsLevel v w a b (pos 0)) where
  -- the gaps of two levels have one sign
  same_sign : (g h : ℤ) → IsLevel v w a b g → IsLevel v w a b h → pos 0 <ℤ g → int_lt (pos 0) h ≡ true
  same_sign g h l m right = by_lt_z (pos 0) h (λ r. grind (arith, ints)) (λ left. absurd (apart (meeting v w a b h g m l left right)))

  -- where one test holds, each other holds just where its row is passed
  agree : (p s q t : Bool) → IsTold v w a b p s → IsTold v w a b q t → s ≡ true → t ≡ q
  agree true s true t first second holds =
      let c = first.crossing refl in
      let d = second.crossing refl in
      d.1.1 ∙ same_sign c.0 d.0 c.1.0 d.1.0 (let is = c.1.1 in grind (arith, ints))
  agree true s false t first second holds = second.none refl
  agree false s q t first second holds = let no = first.none refl in grind arith

-- whether two ends of the edge are in each of two rows, by rows and by ends
rows_even : (p q r s : Bool) → exactly_one (exactly_one p q) (exactly_one r s) ≡ exactly_one (exactly_one p r) (exactly_one q s)
rows_even true true true true = refl
rows_even true true true false = refl
rows_even true true false true = refl
rows_even true true false false = refl
rows_even true false true true = refl
rows_even true false true false = refl
rows_even true false false true = refl
rows_even true false false false = refl
rows_even false true true true = refl
rows_even false true true false = refl
rows_even false true false true = refl
rows_even false true false false = refl
rows_even false false true true = refl
rows_even false false true false = refl
rows_even false false false true = refl
rows_even false false false false = refl

abbrev AreSame : (k l m n p q r s : Bool) → Type 0
AreSame k l m n p q r s = (k ≡ p) × (l ≡ q) × (m ≡ r) × (n ≡ s)

-- four tests that are others as soon as one of them holds
tests_even : (k l m n p q r s : Bool)
    → (k ≡ true → AreSame k l m n p q r s)
    → (l ≡ true → AreSame k l m n p q r s)
    → (m ≡ true → AreSame k l m n p q r s)
    → (n ≡ true → AreSame k l m n p q r s)
    → exactly_one p q ≡ exactly_one r s
    → exactly_one k l ≡ exactly_one m n
tests_even k l m n p q r s first second third fourth even = go k l m n first second third fourth
  where
    even_as : (k l m n : Bool) → AreSame k l m n p q r s → exactly_one k l ≡ exactly_one m n
    even_as k l m n same = ap₂ exactly_one same.0 same.1 ∙ even ∙ sym (ap₂ exactly_one same.2 same.3)

    go : (k l m n : Bool)
        → (k ≡ true → AreSame k l m n p q r s)
        → (l ≡ true → AreSame k l m n p q r s)
        → (m ≡ true → AreSame k l m n p q r s)
        → (n ≡ true → AreSame k l m n p q r s)
        → exactly_one k l ≡ exactly_one m n
    go true l m n first second third fourth = even_as true l m n (first refl)
    go false true m n first second third fourth = even_as false true m n (second refl)
    go false false true n first second third fourth = even_as false false true n (third refl)
    go false false false true first second third fourth = even_as false false false true (fourth refl)
    go false false false false first second third fourth = refl

pub edge_law : EdgeParityLaw
edge_law e v w off =
    let a = e.a in
    let b = e.b in
    let apart : ¬ IsLevel v w a b (pos 0) = λ l. (let common = shared v w a b l in off common.point common.on_path common.on_edge) in
    let at_v = counted_told v w a b in
    let at_w = path_turned_told v w a b _ _ (counted_told w v a b) in
    let at_a = right_told v w a b in
    let at_b = edge_turned_told v w a b _ _ (right_told v w b a) in
    let Same : Type 0 = AreSame
    (is_counted v e) (is_counted w e) (is_right_of_path v w a) (is_right_of_path v w b)
    (passes_row e v) (passes_row e w) (is_in_rows v w a) (is_in_rows v w b) in
    let all : (p s : Bool) → IsTold v w a b p s → s ≡ true → Same =
    (λ p s told holds. (
      agree v w a b apart p s _ _ told at_v holds,
      agree v w a b apart p s _ _ told at_w holds,
      agree v w a b apart p s _ _ told at_a holds,
      agree v w a b apart p s _ _ told at_b holds,
    )) in
    tests_even _ _ _ _ _ _ _ _ (all _ _ at_v) (all _ _ at_w) (all _ _ at_a) (all _ _ at_b)
    (rows_even (is_at_or_below a v) (is_at_or_below b v) (is_at_or_below a w) (is_at_or_below b w))
