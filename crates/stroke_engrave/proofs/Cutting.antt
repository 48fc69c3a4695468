-- The points that the moves along strokes cut, and those of the box round the strokes.
use Rattle.std.specs.Prelude.{◌↔◌, MatchResult, Result, Ok, Err}
use Rattle.std.proofs.Common.{◌≡◌, ℕ, ◌≤◌, List, [], ◌∷◌, map, pos, neg_ℤ, ◌+ℤ◌, ◌-ℤ◌, ◌≤ℤ◌, ap, ap₂, subst, sym, ◌∙◌, inl, inr, arith}
use Rattle.std.proofs.lemmas.Int.{ints}
use Rattle.plane_exact.specs.Cone.{Cone}
use Rattle.plane_exact.specs.Plane.{GridPoint, rational}
use Rattle.plane_exact.specs.declared.moves.LineMove.{LineMove}
use Rattle.plane_exact.specs.declared.point.Seg.{Seg}
use Rattle.engrave_model.specs.Removal.{Removes}
use Rattle.evenodd_region.specs.Bounds.{IsBoxOf, IsInBox}
use Rattle.coverage_report.specs.Counts.{AreCounts}
use Rattle.coverage_report.specs.Cuts.{IsCut}
use Rattle.coverage_report.specs.Lattices.{IsBoxPoint}
use Rattle.coverage_report.specs.Points.{IsMarkedPoint}
use Rattle.coverage_report.specs.Report.{IsReportFault}
use Rattle.coverage_report.specs.declared.count.CutCount.{CutCount}
use Rattle.coverage_report.specs.declared.fault.CoverFault.{CoverFault}
use Rattle.coverage_report.specs.declared.fault.CoverFault.TheVariants.{TooManyPoints, Memory}
use Rattle.coverage_report.proofs.CutCounts.{count_same, counts_same}
use Rattle.coverage_report.proofs.Reports.{none_count}
use Rattle.stroke_engrave.specs.Bounds.{IsStrokeBox, ends_of, reach_of, to_coordinate}
use Rattle.stroke_engrave.specs.Cut.{AreStrokeCounts, IsStrokePoint}
use Rattle.stroke_engrave.specs.Disc.{IsInStrokes, IsNearStroke}
use Rattle.stroke_engrave.specs.Moves.{stroke_move}
use Rattle.gcode_text.proofs.Anys.{any_cases, any_first, any_later, any_none}
use Rattle.stroke_engrave.proofs.Straight.{near_of_removed, removed_of_near}

-- ---- the moves along the strokes

module _ (cone : Cone) (depth : ℕ) (some : 1 ≤ depth) (p : GridPoint) where
  abbrev IsNear : Seg → Type 0
  IsNear = IsNearStroke cone depth (rational p)

  abbrev IsRemover : LineMove → Type 0
  IsRemover move = Removes cone move.mv (rational p)

  near : (stroke : Seg) → IsRemover (stroke_move depth stroke) → IsNear stroke
  near stroke = near_of_removed cone depth some stroke.a stroke.b (rational p) (neg_ℤ (pos depth)) (neg_ℤ (pos depth)) (omega (arith, ints)) (omega (arith, ints))

  pub cut_near : (strokes : List Seg) → IsCut cone (map (stroke_move depth) strokes) p ↔ IsInStrokes cone depth strokes (rational p)
  cut_near [] = ((λ cut. absurd (any_none IsRemover cut)), (λ held. absurd (any_none IsNear held)))
  cut_near (stroke ∷ strokes) =
      let moves = map (stroke_move depth) strokes in
      let rest = cut_near strokes in (
        (λ cut. elim (any_cases IsRemover (stroke_move depth stroke) moves cut) [
          | inl here ↦ any_first IsNear stroke strokes (near stroke here)
          | inr later ↦ any_later IsNear stroke strokes (rest.0 later)
        ]),
        (λ held. elim (any_cases IsNear stroke strokes held) [
          | inl here ↦ any_first IsRemover (stroke_move depth stroke) moves (removed_of_near cone depth some stroke.a stroke.b (rational p) here)
          | inr later ↦ any_later IsRemover (stroke_move depth stroke) moves (rest.1 later)
        ]),
      )

-- ---- the box

-- a side of a least box isn't beyond that of another of the same points
module _ (points : List GridPoint) (low high low' high' : GridPoint) (box : IsBoxOf points low high) (other : IsBoxOf points low' high') where
  record AreInside : Type 0 where
    left : low'.x ≤ℤ low.x
    bottom : low'.y ≤ℤ low.y
    right : high.x ≤ℤ high'.x
    top : high.y ≤ℤ high'.y

  inside : AreInside
  inside = record {
    left = (let on = box.left in let at = (subst (IsInBox low' high') on.3 (other.within on.0 on.1 on.2)).across.low in let is = on.4 in omega (arith, ints));
    bottom = (let on = box.bottom in let at = (subst (IsInBox low' high') on.3 (other.within on.0 on.1 on.2)).up.low in let is = on.4 in omega (arith, ints));
    right = (let on = box.right in let at = (subst (IsInBox low' high') on.3 (other.within on.0 on.1 on.2)).across.high in let is = on.4 in omega (arith, ints));
    top = (let on = box.top in let at = (subst (IsInBox low' high') on.3 (other.within on.0 on.1 on.2)).up.high in let is = on.4 in omega (arith, ints));
  }

record AreSame (low high low' high' : GridPoint) : Type 0 where
  lower : low ≡ low'
  upper : high ≡ high'

same_ends : (points : List GridPoint) (low high low' high' : GridPoint) → IsBoxOf points low high → IsBoxOf points low' high' → AreSame low high low' high'
same_ends points low high low' high' box other =
    let there = inside points low high low' high' box other in
    let back = inside points low' high' low high other box in
    let left = there.left in
    let left' = back.left in
    let bottom = there.bottom in
    let bottom' = back.bottom in
    let right = there.right in
    let right' = back.right in
    let top = there.top in
    let top' = back.top in
    record {
      lower = ap₂ (λ x y. record { x = x; y = y }) (omega (arith, ints)) (omega (arith, ints));
      upper = ap₂ (λ x y. record { x = x; y = y }) (omega (arith, ints)) (omega (arith, ints));
    }

module _ (cone : Cone) (depth : ℕ) (strokes : List Seg) where
  same_box : (low high low' high' : GridPoint) → IsStrokeBox cone depth strokes low high → IsStrokeBox cone depth strokes low' high' → AreSame low high low' high'
  same_box low high low' high' box other =
      let reach = pos (reach_of cone depth) in
      let ends = same_ends (ends_of strokes) box.first box.last other.first other.last box.ends other.ends in
      record {
        lower = box.lower ∙ ap (λ (p : GridPoint). record { x = to_coordinate (p.x -ℤ reach); y = to_coordinate (p.y -ℤ reach) }) ends.lower ∙ sym other.lower;
        upper = box.upper ∙ ap (λ (p : GridPoint). record { x = to_coordinate (p.x +ℤ reach); y = to_coordinate (p.y +ℤ reach) }) ends.upper ∙ sym other.upper;
      }

  module _ (pitch : ℕ) (low high : GridPoint) (box : IsStrokeBox cone depth strokes low high) where
    box_point : (p : GridPoint) → IsBoxPoint low high pitch p ↔ IsStrokePoint cone depth strokes pitch p
    box_point p = (
      (λ within. record { low = low; high = high; box = box; within = within }),
      (λ of. let same = same_box of.low of.high low high of.box box in
          subst (λ high. IsBoxPoint low high pitch p) same.upper (subst (λ low. IsBoxPoint low of.high pitch p) same.lower of.within)),
    )

    -- what is told of the box and the moves is told of the strokes
    pub cut_of_strokes : (some : 1 ≤ depth) (moves : List LineMove) → moves ≡ map (stroke_move depth) strokes → (found : Result CutCount CoverFault)
        → MatchResult found (λ count. AreCounts (IsBoxPoint low high pitch) (IsCut cone moves) count.cut count.points) (λ fault. IsReportFault (IsBoxPoint low high pitch) fault)
        → MatchResult found (λ count. AreStrokeCounts cone depth strokes pitch count.cut count.points) (λ fault. IsReportFault (IsStrokePoint cone depth strokes pitch) fault)
    cut_of_strokes some moves are (Ok count) counts =
        counts_same (IsBoxPoint low high pitch) (IsStrokePoint cone depth strokes pitch) (IsCut cone moves) (λ p. IsInStrokes cone depth strokes (rational p)) count.cut count.points
        box_point
        (λ p. subst (λ moves. IsCut cone moves p ↔ IsInStrokes cone depth strokes (rational p)) (sym are) (cut_near cone depth some p strokes)) counts
    cut_of_strokes some moves are (Err TooManyPoints) many =
        record { count = many.count; is = count_same (IsBoxPoint low high pitch) (IsStrokePoint cone depth strokes pitch) many.count box_point many.is; many = many.many }
    cut_of_strokes some moves are (Err Memory) any = tt

-- without strokes there is no point
no_box : (cone : Cone) (depth pitch : ℕ) (p : GridPoint) → ¬ IsStrokePoint cone depth [] pitch p
no_box cone depth pitch p of = any_none (λ q. q.x ≡ of.box.first.x) of.box.ends.left

pub none_cut : (cone : Cone) (depth pitch : ℕ) → AreStrokeCounts cone depth [] pitch 0 0
none_cut cone depth pitch =
    let IsReported : GridPoint → Type 0 = IsStrokePoint cone depth [] pitch in record {
      few = omega arith;
      all = none_count IsReported (no_box cone depth pitch);
      some = none_count (IsMarkedPoint IsReported (λ p. IsInStrokes cone depth [] (rational p))) (λ p of. no_box cone depth pitch p of.reported);
    }
