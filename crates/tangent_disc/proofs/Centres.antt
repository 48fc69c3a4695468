-- The centre of a disc: in the range of the grid where it is inside, and rounded.
use Rattle.std.proofs.Common.{◌≡◌, ℕ, List, [], ◌∷◌, All, ℤ, pos, negsuc, ◌+ℤ◌, ◌*ℤ◌, ◌≤ℤ◌, arith, ap, sym, subst}
use Rattle.std.proofs.lemmas.Int.{ints, by_lt_z}
use Rattle.std.proofs.lemmas.List.Elements.{All-append, All-head, All-nil, All-tail, All-weaker}
use Rattle.integer_algebra.proofs.Order.{times_le}
use Rattle.plane_exact.specs.Plane.{GridPoint, IsCoordinate, IsOnGrid}
use Rattle.engrave_model.specs.Drawing.{AreOnGrid, IsDrawing, edges_of}
use Rattle.evenodd_region.specs.Bounds.{IsInBox, points_of}
use Rattle.evenodd_region.proofs.Bounds.{inside_in_box}
use Rattle.tangent_disc.specs.Tangent.{IsCentreInside, IsRounded}
use Rattle.tangent_disc.specs.Touch.{IsCentreOnGrid}
use Rattle.tangent_disc.specs.Ways.{IsAmongGrid}
use Rattle.tangent_disc.specs.declared.disc.Side.{Side}
use Rattle.tangent_disc.specs.declared.edge_point.EdgePoint.{EdgePoint}

-- ---- rounding

pub rounded_same : (z over p x y w : ℤ) → x ≡ z → y ≡ over → w ≡ p → IsRounded x y p → IsRounded z over w
rounded_same z over p x y w e f g rounded = subst (λ r. IsRounded z over r) (sym g) (subst (λ r. IsRounded z r p) f (subst (λ r. IsRounded r y p) e rounded))

pub rounded_on_grid : (z over p : ℤ) → pos 1 ≤ℤ over → IsAmongGrid z over → IsRounded z over p → IsCoordinate p
rounded_on_grid z over p some among rounded =
    let among_low = among.low in
    let among_high = among.high in
    let low = rounded.low in
    let high = rounded.high in
    record {
      low = by_lt_z p (negsuc 32767) (λ below. let h = times_le over (p +ℤ pos 1) (negsuc 32767) (omega (arith, ints)) (omega (arith, ints)) in absurd (omega (arith, ints))) (λ l. l);
      high = by_lt_z (pos 32767) p (λ above. let h = times_le over (pos 32768) p (omega (arith, ints)) (omega (arith, ints)) in absurd (omega (arith, ints))) (λ l. l);
    }

-- ---- centres in the range of the grid

abbrev lowest : GridPoint
lowest = record { x = negsuc 32767; y = negsuc 32767 }

abbrev highest : GridPoint
highest = record { x = pos 32767; y = pos 32767 }

points_in_box : (loops : List (List GridPoint)) → All AreOnGrid loops → All (IsInBox lowest highest) (points_of loops)
points_in_box [] each = All-nil (IsInBox lowest highest)
points_in_box (points ∷ loops) each =
    All-append (IsInBox lowest highest) points (points_of loops)
    (All-weaker (λ (p : GridPoint). IsOnGrid p.x p.y) (IsInBox lowest highest) (λ p on. record { across = on.across; up = on.up }) points (All-head AreOnGrid points loops each))
    (points_in_box loops (All-tail AreOnGrid points loops each))

-- an inside centre is
pub inside_on_grid : (loops : List (List GridPoint)) (side : Side) (p : EdgePoint) (j : ℕ) → IsDrawing loops → IsCentreInside (edges_of loops) side p j → IsCentreOnGrid side p j
inside_on_grid loops side p j drawing inside =
    let box = inside_in_box loops lowest highest inside.centre (points_in_box loops drawing.on_grid) inside.inside in
    let x = inside.is.same_x in
    let y = inside.is.same_y in
    let left = box.left in
    let right = box.right in
    let bottom = box.bottom in
    let top = box.top in
    let over_low = ap (λ o. o *ℤ negsuc 32767) inside.is.same_over in
    let over_high = ap (λ o. o *ℤ pos 32767) inside.is.same_over in
    record {
      across = record { low = omega (arith, ints); high = omega (arith, ints) };
      up = record { low = omega (arith, ints); high = omega (arith, ints) };
    }
