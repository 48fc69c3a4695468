-- The points of a row, and those of them whose bits are 1.
use Rattle.std.specs.Prelude.{◌↔◌, List, [], ◌∷◌, ℤ, pos, ◌+ℤ◌}
use Rattle.std.proofs.Common.{◌≡◌, ℕ, zero, suc, ◌+◌, ◌*◌, ◌<◌, ◌≤◌, true, false, length, refl, ap, subst, sym, ◌∙◌, inl, inr, arith, mul-le-mul_right}
use Rattle.std.proofs.lemmas.Bool.{cases_eq, cond_both}
use Rattle.std.proofs.lemmas.Bool.Decides.{nat_tests}
use Rattle.std.proofs.lemmas.Int.{ints}
use Rattle.plane_exact.specs.Plane.{GridPoint}
use Rattle.evenodd_region.specs.RowBits.{IsSetIn, point_of_row}
use Rattle.coverage_report.specs.Lattices.{IsInRow}
use Rattle.coverage_report.specs.Points.{AreAll, IsBefore}
use Rattle.coverage_report.specs.Rows.{PointRow, is_set_in, points_of_row, set_among, set_points}
use Rattle.coverage_report.specs.Runs.{row_points}
use Rattle.coverage_report.proofs.Alls.{first_all, none_all, same_all}

-- p is a point of the row of which this is so
pub record IsOfRow (row : PointRow) (IsSo : GridPoint → Type 0) (p : GridPoint) : Type 0 where
  pub so : IsSo p
  pub on : IsInRow row p

set_is : (words : List ℕ) (i : ℕ) → is_set_in words i ≡ true → IsSetIn words i
set_is words i set = grind (arith, nat_tests)

unset_is : (words : List ℕ) (i : ℕ) → is_set_in words i ≡ false → ¬ IsSetIn words i
unset_is words i unset set = absurd (grind (arith, nat_tests))

module _ (y x0 : ℤ) (pitch : ℕ) (apart : 1 ≤ pitch) where
  -- the points of lesser numbers are before those of greater ones
  before : (i j : ℕ) (p q : GridPoint) → i < j → p ≡ point_of_row y x0 pitch i → q ≡ point_of_row y x0 pitch j → IsBefore p q
  before i j p q less is_p is_q =
      let next : (i + 1) * pitch ≤ j * pitch = mul-le-mul_right pitch (omega arith) in
      let places : IsBefore (point_of_row y x0 pitch i) (point_of_row y x0 pitch j) = inr (refl, omega (arith, ints)) in
      subst (λ p. IsBefore p q) (sym is_p) (subst (IsBefore (point_of_row y x0 pitch i)) (sym is_q) places)

  -- p is the point of a number from i on, so many of them, of which this is so
  record IsFrom (So : ℕ → Type 0) (i n : ℕ) (p : GridPoint) : Type 0 where
    number : ℕ
    low : i ≤ number
    high : number < i + n
    so : So number
    is : p ≡ point_of_row y x0 pitch number

  module _ (So : ℕ → Type 0) (i : ℕ) where
    from_none : AreAll (IsFrom So i zero) []
    from_none = none_all (IsFrom So i zero) (λ p from. let low = from.low in let high = from.high in absurd (omega arith))

    module _ (n : ℕ) (points : List GridPoint) (rest : AreAll (IsFrom So (i + 1) n) points) where
      later : (p : GridPoint) → IsFrom So (i + 1) n p → IsFrom So i (suc n) p
      later p from = record { number = from.number; low = (let low = from.low in omega arith); high = (let high = from.high in omega arith); so = from.so; is = from.is }

      -- the point of the number i is none of them, or it is the first
      from_skip : ¬ So i → AreAll (IsFrom So i (suc n)) points
      from_skip none = same_all (IsFrom So (i + 1) n) (IsFrom So i (suc n)) points rest later (λ p from. elim (cases_eq from.number i) [
        | inl same ↦ absurd (none (subst So same from.so))
        | inr other ↦ record { number = from.number; low = (let low = from.low in omega arith); high = (let high = from.high in omega arith); so = from.so; is = from.is }
      ])

      from_more : (p : GridPoint) → p ≡ point_of_row y x0 pitch i → So i → AreAll (IsFrom So i (suc n)) (p ∷ points)
      from_more p is so = first_all (IsFrom So (i + 1) n) (IsFrom So i (suc n)) points rest p
          (record { number = i; low = omega arith; high = omega arith; so = so; is = is })
          later
          (λ q from. before i from.number p q (let low = from.low in omega arith) is from.is)
          (λ q from. elim (cases_eq from.number i) [
            | inl same ↦ inl (from.is ∙ ap (point_of_row y x0 pitch) same ∙ sym is)
            | inr other ↦ inr (record { number = from.number; low = (let low = from.low in omega arith); high = (let high = from.high in omega arith); so = from.so; is = from.is })
          ])

  point_is : (i : ℕ) (x : ℤ) → x ≡ x0 +ℤ pos (i * pitch) → let p : GridPoint = record { x = x; y = y } in p ≡ point_of_row y x0 pitch i
  point_is i x at = ap (λ x. record { x = x; y = y }) at

  next_at : (i : ℕ) (x : ℤ) → x ≡ x0 +ℤ pos (i * pitch) → x +ℤ pos pitch ≡ x0 +ℤ pos ((i + 1) * pitch)
  next_at i x at = omega (arith, ints)

  set_from : (words : List ℕ) (n i : ℕ) (x : ℤ) → x ≡ x0 +ℤ pos (i * pitch) → AreAll (IsFrom (IsSetIn words) i n) (set_among words i (row_points y x pitch n))
  set_from words zero i x at = from_none (IsSetIn words) i
  set_from words (suc n) i x at =
      let more = set_among words (i + 1) (row_points y (x +ℤ pos pitch) pitch n) in
      let rest = set_from words n (i + 1) (x +ℤ pos pitch) (next_at i x at) in
      cond_both (is_set_in words i) (record { x = x; y = y } ∷ more) more (AreAll (IsFrom (IsSetIn words) i (suc n)))
      (λ set. from_more (IsSetIn words) i n more rest (record { x = x; y = y }) (point_is i x at) (set_is words i set))
      (λ unset. from_skip (IsSetIn words) i n more rest (unset_is words i unset))

  whole_from : (n i : ℕ) (x : ℤ) → x ≡ x0 +ℤ pos (i * pitch) → AreAll (IsFrom (λ k. Unit {0}) i n) (row_points y x pitch n)
  whole_from zero i x at = from_none (λ k. Unit {0}) i
  whole_from (suc n) i x at =
      from_more (λ k. Unit {0}) i n (row_points y (x +ℤ pos pitch) pitch n) (whole_from n (i + 1) (x +ℤ pos pitch) (next_at i x at)) (record { x = x; y = y }) (point_is i x at) tt

module _ (row : PointRow) (apart : 1 ≤ row.pitch) where
  -- where the bits that are 1 are those of the points of which something is so, these points are all of them
  pub set_all : (words : List ℕ) (IsSo : GridPoint → Type 0)
      → ((i : ℕ) → IsSetIn words i ↔ ((i < row.count) × IsSo (point_of_row row.y row.x row.pitch i))) → AreAll (IsOfRow row IsSo) (set_points words row)
  set_all words IsSo bits = same_all _ (IsOfRow row IsSo) _ (set_from row.y row.x row.pitch apart words row.count 0 row.x (omega (arith, ints)))
      (λ p from. let both = (bits from.number).0 from.so in record {
        so = subst IsSo (sym from.is) both.1;
        on = record { number = from.number; below = both.0; is = from.is };
      })
      (λ p of. let on = of.on in record {
        number = on.number;
        low = omega arith;
        high = (let below = on.below in omega arith);
        so = (bits on.number).1 (on.below, subst IsSo on.is of.so);
        is = on.is;
      })

  pub whole_all : AreAll (IsOfRow row (λ p. Unit {0})) (points_of_row row)
  whole_all = same_all _ (IsOfRow row (λ p. Unit {0})) _ (whole_from row.y row.x row.pitch apart row.count 0 row.x (omega (arith, ints)))
      (λ p from. record { so = tt; on = record { number = from.number; below = (let high = from.high in omega arith); is = from.is } })
      (λ p of. let on = of.on in record { number = on.number; low = omega arith; high = (let below = on.below in omega arith); so = tt; is = on.is })

-- ---- how many they are

pub whole_length : (y x : ℤ) (pitch count : ℕ) → length (row_points y x pitch count) ≡ count
whole_length y x pitch zero = refl
whole_length y x pitch (suc count) = ap suc (whole_length y (x +ℤ pos pitch) pitch count)

few_among : (words : List ℕ) (i : ℕ) (points : List GridPoint) → length (set_among words i points) ≤ length points
few_among words i [] = omega arith
few_among words i (p ∷ points) =
    let more = set_among words (i + 1) points in
    let few = few_among words (i + 1) points in
    cond_both (is_set_in words i) (p ∷ more) more (λ set. length set ≤ suc (length points)) (λ set. omega arith) (λ unset. omega arith)

pub few_set : (words : List ℕ) (row : PointRow) → length (set_points words row) ≤ row.count
few_set words row = let few = few_among words 0 (points_of_row row) in let all = whole_length row.y row.x row.pitch row.count in omega arith
