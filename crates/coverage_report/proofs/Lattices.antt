-- The lattice of the points of a box, and of a report.
use Rattle.std.specs.Prelude.{◌↔◌, List, slice_index_or}
use Rattle.std.proofs.Common.{◌≡◌, ℕ, ◌<◌, ◌≤◌, length, refl, ap, ap₂, subst, arith}
use Rattle.std.proofs.lemmas.Int.{ints}
use Rattle.plane_exact.specs.Plane.{GridPoint, IsOnGrid}
use Rattle.evenodd_region.specs.Bounds.{IsBoxOf, IsInBox, points_of}
use Rattle.depth_rule.specs.Ticks.{AreTicks}
use Rattle.depth_rule.proofs.Multiples.{IsTick, first_on, last_on, tick_above, tick_multiple, tick_of, tick_under}
use Rattle.coverage_report.specs.Lattices.{IsBoxPoint, IsInRows, IsLatticeIn, IsLatticeOf, IsPointLattice, PointLattice}
use Rattle.coverage_report.specs.Points.{IsReportPoint}

-- ---- of a box

module _ (low high : GridPoint) (lattice : PointLattice) (apart : 1 ≤ lattice.pitch)
    (across : AreTicks low.x high.x lattice.pitch lattice.x lattice.columns) (up : AreTicks low.y high.y lattice.pitch lattice.y lattice.rows) where
  in_rows : (p : GridPoint) → IsBoxPoint low high lattice.pitch p → IsInRows lattice lattice.rows p
  in_rows p of =
      let within = of.within in
      let column = tick_of lattice.pitch apart low.x high.x lattice.x lattice.columns across p.x of.across within.across.low within.across.high in
      let row = tick_of lattice.pitch apart low.y high.y lattice.y lattice.rows up p.y of.up within.up.low within.up.high in
      record {
        number = row.number;
        below = row.below;
        on = record { number = column.number; below = column.below; is = ap₂ (λ x y. record { x = x; y = y }) column.is row.is };
      }

  in_box : (p : GridPoint) → IsInRows lattice lattice.rows p → IsBoxPoint low high lattice.pitch p
  in_box p of =
      let on = of.on in
      let column : IsTick lattice.x lattice.pitch lattice.columns p.x = record { number = on.number; below = on.below; is = ap (λ (p : GridPoint). p.x) on.is } in
      let row : IsTick lattice.y lattice.pitch lattice.rows p.y = record { number = of.number; below = of.below; is = ap (λ (p : GridPoint). p.y) on.is } in
      record {
        across = tick_multiple lattice.pitch apart low.x high.x lattice.x lattice.columns across p.x column;
        up = tick_multiple lattice.pitch apart low.y high.y lattice.y lattice.rows up p.y row;
        within = record {
          across = record {
            low = tick_above lattice.pitch apart low.x high.x lattice.x lattice.columns across p.x column;
            high = tick_under lattice.pitch apart low.x high.x lattice.x lattice.columns across p.x column;
          };
          up = record {
            low = tick_above lattice.pitch apart low.y high.y lattice.y lattice.rows up p.y row;
            high = tick_under lattice.pitch apart low.y high.y lattice.y lattice.rows up p.y row;
          };
        };
      }

  pub lattice_is : IsOnGrid low.x low.y → IsOnGrid high.x high.y → IsPointLattice lattice
  lattice_is low_on high_on = record {
    some_columns = across.some;
    some_rows = up.some;
    apart = apart;
    left = first_on low.x high.x lattice.x lattice.pitch lattice.columns low_on.across high_on.across across;
    right = last_on low.x high.x lattice.x lattice.pitch lattice.columns low_on.across high_on.across across;
    bottom = first_on low.y high.y lattice.y lattice.pitch lattice.rows low_on.up high_on.up up;
    top = last_on low.y high.y lattice.y lattice.pitch lattice.rows low_on.up high_on.up up;
  }

  pub lattice_in : IsLatticeIn low high lattice.pitch lattice
  lattice_in = record { same = refl; points = λ p. (in_rows p, in_box p) }

-- ---- of a drawing's box

-- two boxes of the same points have the same corners
module _ (points : List GridPoint) (low high low' high' : GridPoint) (box : IsBoxOf points low high) (box' : IsBoxOf points low' high') where
  -- a point that one box has on a side is in the other
  in_both : (p : GridPoint) (k : ℕ) → k < length points → slice_index_or points k p ≡ p → IsInBox low' high' p
  in_both p k below is = subst (IsInBox low' high') is (box'.within k p below)

  pub box_within : (p : GridPoint) → IsInBox low high p → IsInBox low' high' p
  box_within p within =
      let in_x = within.across in
      let in_y = within.up in
      record {
        across = record {
          low = (let on = box.left in let side = (in_both on.1 on.0 on.2 on.3).across.low in let at = on.4 in let least = in_x.low in omega (arith, ints));
          high = (let on = box.right in let side = (in_both on.1 on.0 on.2 on.3).across.high in let at = on.4 in let most = in_x.high in omega (arith, ints));
        };
        up = record {
          low = (let on = box.bottom in let side = (in_both on.1 on.0 on.2 on.3).up.low in let at = on.4 in let least = in_y.low in omega (arith, ints));
          high = (let on = box.top in let side = (in_both on.1 on.0 on.2 on.3).up.high in let at = on.4 in let most = in_y.high in omega (arith, ints));
        };
      }

module _ (loops : List (List GridPoint)) (pitch : ℕ) where
  -- the report's points are those of any least box
  report_point : (low high : GridPoint) → IsBoxOf (points_of loops) low high → (p : GridPoint) → IsReportPoint loops pitch p ↔ IsBoxPoint low high pitch p
  report_point low high box p = (
    (λ of. record { across = of.across; up = of.up; within = box_within (points_of loops) of.low of.high low high of.box box p of.within }),
    (λ of. record { across = of.across; up = of.up; low = low; high = high; box = box; within = of.within }),
  )

  pub lattice_of_report : (low high : GridPoint) (lattice : PointLattice) → IsBoxOf (points_of loops) low high → IsLatticeIn low high pitch lattice → IsLatticeOf loops pitch lattice
  lattice_of_report low high lattice box is = record {
    same = is.same;
    points = λ p. let at = report_point low high box p in let there = is.points p in ((λ of. there.0 (at.0 of)), (λ on. at.1 (there.1 on)));
  }

  pub none_of_box : (low high : GridPoint) → IsBoxOf (points_of loops) low high → ((p : GridPoint) → ¬ IsBoxPoint low high pitch p) → (p : GridPoint) → ¬ IsReportPoint loops pitch p
  none_of_box low high box none p of = none p ((report_point low high box p).0 of)
