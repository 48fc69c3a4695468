-- The points of a lattice, row by row.
use mir.Syntax.{w64}
use Rattle.std.specs.Prelude.{List, [], ◌++◌, ℤ, pos, ◌+ℤ◌, ◌<ℤ◌}
use Rattle.std.proofs.Common.{◌≡◌, ◌⊎◌, ℕ, zero, suc, ◌+◌, ◌-◌, ◌*◌, ◌<◌, ◌≤◌, Fits, length, refl, ap, subst, inl, inr, arith, mul-le-mul, mul-le-mul_left, mul-le-mul_right, length-append}
use Rattle.std.proofs.lemmas.Bool.{cases_lt}
use Rattle.std.proofs.lemmas.Int.{ints}
use Rattle.plane_exact.specs.Plane.{GridPoint, IsCoordinate}
use Rattle.coverage_report.specs.Lattices.{IsInRow, IsInRows, IsPointLattice, PointLattice, row_at}
use Rattle.coverage_report.specs.Points.{AreAll, IsBefore, IsCount}
use Rattle.coverage_report.specs.Rows.{points_of_row}
use Rattle.coverage_report.specs.Taken.{AreCounted, IsAmong}
use Rattle.coverage_report.proofs.Alls.{joined_all, none_all, same_all}
use Rattle.coverage_report.proofs.RowPoints.{IsOfRow, whole_all, whole_length}

module _ (lattice : PointLattice) (apart : 1 ≤ lattice.pitch) where
  -- a row of a greater number is above one of a lesser
  pub higher : (j k : ℕ) → j < k → (row_at lattice j).y <ℤ (row_at lattice k).y
  higher j k less = let next : (j + 1) * lattice.pitch ≤ k * lattice.pitch = mul-le-mul_right lattice.pitch (omega arith) in omega (arith, ints)

  module _ (IsSo : GridPoint → Type 0) where
    pub none_among : AreAll (IsAmong lattice zero IsSo) []
    none_among = none_all (IsAmong lattice zero IsSo) (λ p among. let below = among.on.below in absurd (omega arith))

    module _ (k : ℕ) where
      in_lower : (p : GridPoint) → IsAmong lattice k IsSo p → IsAmong lattice (k + 1) IsSo p
      in_lower p among = let on = among.on in record { so = among.so; on = record { number = on.number; below = (let below = on.below in omega arith); on = on.on } }

      in_row : (p : GridPoint) → IsOfRow (row_at lattice k) IsSo p → IsAmong lattice (k + 1) IsSo p
      in_row p of = record { so = of.so; on = record { number = k; below = omega arith; on = of.on } }

      in_either : (p : GridPoint) → IsAmong lattice (k + 1) IsSo p → IsAmong lattice k IsSo p ⊎ IsOfRow (row_at lattice k) IsSo p
      in_either p among = let on = among.on in elim (cases_lt on.number k) [
        | inl lower ↦ inl (record { so = among.so; on = record { number = on.number; below = lower; on = on.on } })
        | inr high ↦
            let same : on.number ≡ k = (let below = on.below in omega arith) in
            inr (record { so = among.so; on = subst (λ j. IsInRow (row_at lattice j) p) same on.on })
      ]

      below_row : (p q : GridPoint) → IsAmong lattice k IsSo p → IsOfRow (row_at lattice k) IsSo q → IsBefore p q
      below_row p q low high =
          let on = low.on in
          let p_up : p.y ≡ (row_at lattice on.number).y = ap (λ (p : GridPoint). p.y) on.on.is in
          let q_up : q.y ≡ (row_at lattice k).y = ap (λ (p : GridPoint). p.y) high.on.is in
          let less = higher on.number k on.below in
          inl (omega (arith, ints))

      -- the points of one more row behind those of the rows below it
      pub row_among : (points more : List GridPoint) → AreAll (IsAmong lattice k IsSo) points → AreAll (IsOfRow (row_at lattice k) IsSo) more
          → AreAll (IsAmong lattice (k + 1) IsSo) (points ++ more)
      row_among points more all others =
          joined_all (IsAmong lattice k IsSo) (IsAmong lattice (k + 1) IsSo) points all (IsOfRow (row_at lattice k) IsSo) more others below_row in_lower in_row in_either

    pub none_counted : AreCounted lattice zero IsSo [] 0
    none_counted = record { all = none_among; counted = refl; few = omega arith }

    pub row_counted : (k : ℕ) (points more : List GridPoint) (count others : ℕ) → AreCounted lattice k IsSo points count
        → AreAll (IsOfRow (row_at lattice k) IsSo) more → others ≡ length more → length more ≤ lattice.columns
        → AreCounted lattice (k + 1) IsSo (points ++ more) (count + others)
    row_counted k points more count others are all counted few =
        let sum = length-append points more in record {
          all = row_among k points more are.all all;
          counted = (let was = are.counted in omega arith);
          few = (let was = are.few in omega arith);
        }

  -- how many points so many rows have
  rows_count : (k : ℕ) → IsCount (IsAmong lattice k (λ p. Unit {0})) (k * lattice.columns)
  rows_count zero = record { points = []; all = none_among (λ p. Unit {0}); counted = omega arith }
  rows_count (suc k) =
      let lower = rows_count k in
      let row = row_at lattice k in
      let next : k + 1 ≡ suc k = omega arith in
      subst (λ n. IsCount (IsAmong lattice n (λ p. Unit {0})) (n * lattice.columns)) next (record {
        points = lower.points ++ points_of_row row;
        all = row_among (λ p. Unit {0}) k lower.points (points_of_row row) lower.all (whole_all row apart);
        counted =
            let were = lower.counted in
            let sum = length-append lower.points (points_of_row row) in
            let more = whole_length row.y row.x row.pitch row.count in
            omega arith;
      })

  pub lattice_count : (k : ℕ) → IsCount (IsInRows lattice k) (k * lattice.columns)
  lattice_count k =
      let all = rows_count k in record {
        points = all.points;
        all = same_all (IsAmong lattice k (λ p. Unit {0})) (IsInRows lattice k) all.points all.all (λ p among. among.on) (λ p on. record { so = tt; on = on });
        counted = all.counted;
      }

-- ---- how many points a lattice may have

module _ (lattice : PointLattice) (are : IsPointLattice lattice) where
  few_in_line : (z : ℤ) (count : ℕ) → IsCoordinate z → IsCoordinate (z +ℤ pos ((count - 1) * lattice.pitch)) → count ≤ 65536
  few_in_line z count first last =
      let low = first.low in
      let high = last.high in
      let apart : (count - 1) * 1 ≤ (count - 1) * lattice.pitch = mul-le-mul_left (count - 1) are.apart in
      omega (arith, ints)

  -- what is counted of some rows and of one more fits 64 bits
  pub sum_fits : (k count more : ℕ) → k < lattice.rows → count ≤ k * lattice.columns → more ≤ lattice.columns → Fits w64 (count + more)
  sum_fits k count more below few others =
      let columns = few_in_line lattice.x lattice.columns are.left are.right in
      let rows = few_in_line lattice.y lattice.rows are.bottom are.top in
      let lower : k ≤ 65536 = omega arith in
      let all : k * lattice.columns ≤ 65536 * 65536 = mul-le-mul lower columns in
      record { fits = omega arith }
