-- Answers the goals of `mark_row`.
use Rattle.std.proofs.Common.{false, true, ◌≡◌, ◌*◌, ◌+◌, ◌∙◌, ℤ, pos, ◌+ℤ◌, arith, subst, sym}
use Rattle.std.proofs.lemmas.Int.{ints}
use Rattle.plane_exact.specs.Plane.{GridPoint, IsCoordinate, rational}
use Rattle.plane_exact.proofs.Stored.{narrow}
use Rattle.engrave_model.specs.Drawing.{edges_of}
use Rattle.engrave_model.specs.Inside.{IsInside}
use Rattle.coverage_report.specs.Marked.{IsRowMarked}
use Rattle.coverage_report.proofs.Places.{place_on}
use Rattle.flat_bit.specs.Left.{IsFloorPoint}
use Rattle.flat_bit.proofs.MarkedRows.{AreSoFar, kept, left_out, row_marked}
use Rattle.flat_bit.proofs.marks.FloorMarksMarks.mark_row.Goals as goal
use Rattle.flat_bit.proofs.marks.FloorMarksMarks.mark_row.Goals.{then-is_set+then-not-is_over, else-is_set, else-is_set-via-then-is_set+else-not-is_over, else-is_set-via-else-is_set}

-- a coordinate as the code has it
narrow_is : (z : ℤ) → IsCoordinate z → narrow z ≡ z
narrow_is z on = let low = on.low in let high = on.high in omega (arith, ints)

pub point_of_row-requires-clause-there : goal.point_of_row-requires-clause-there
point_of_row-requires-clause-there c =
    subst (λ x. IsCoordinate (x +ℤ pos (c.loop-i.i * c.args.pitch))) (sym (narrow_is c.args.x0 c.requires.first))
    (place_on c.args.x0 c.args.pitch c.args.count c.requires.first c.requires.last c.loop-i.i c.loop-i-test.true)

pub is_over-requires : goal.is_over-requires
is_over-requires c =
    let set = c.is_set.ensures.0 c.if-is_set.true in
    subst (λ (p : GridPoint). IsInside (edges_of c.args.self.now.scene.now) (rational p)) (sym c.point_of_row.ensures) ((c.loop-i.invariant.bits c.loop-i.i).0 set).1

pub loop-i-preserved : goal.loop-i-preserved
loop-i-preserved c =
    let marks = c.args.self.now in
    let loops = marks.scene.now in
    let cone = marks.bit.now in
    let y = narrow c.args.y in
    let x0 = narrow c.args.x0 in
    let i = c.loop-i.i in
    let words = c.loop-i.bits in
    let are = c.loop-i.invariant.bits in
    let long = c.if-is_set.auto.bits in
    record {
      words = long ∙ c.loop-i.invariant.words;
      bits = elim c.if-is_set.branch [
        | then-is_set+then-not-is_over w ↦
            subst (AreSoFar loops cone marks.limit y x0 c.args.pitch c.args.count (i + 1)) (sym w.bits-is)
            (left_out loops cone marks.limit y x0 c.args.pitch c.args.count i words are w.clear.new.bits
            (λ floor.
            let yes = w.is_over.ensures.1 (subst (IsFloorPoint loops cone marks.limit) (sym w.point_of_row.ensures) floor) in
            let both : false ≡ true = sym w.if-not-is_over.true ∙ yes in
            cc)
            w.clear.ensures)
        | else-is_set w ↦
            subst (AreSoFar loops cone marks.limit y x0 c.args.pitch c.args.count (i + 1)) (sym w.bits-is)
            (kept loops cone marks.limit y x0 c.args.pitch c.args.count i words are
            (λ set. elim w.else-is_set.branch [
              | else-is_set-via-then-is_set+else-not-is_over v ↦ subst (IsFloorPoint loops cone marks.limit) v.point_of_row.ensures (v.is_over.ensures.0 v.if-not-is_over.false)
              | else-is_set-via-else-is_set v ↦ (let both : false ≡ true = sym v.if-is_set.false ∙ c.is_set.ensures.1 set in absurd cc)
            ]))
      ];
    }

pub returns : goal.returns
returns c =
    let marks = c.args.self.now in
    let end = c.loop-i-test.false in
    let row = row_marked marks.scene.now marks.bit.now marks.limit (narrow c.args.y) (narrow c.args.x0) c.args.pitch c.args.count c.loop-i.i c.loop-i.bits c.loop-i.invariant.bits (omega arith) in
    let IsMarked = IsFloorPoint marks.scene.now marks.bit.now marks.limit in
    subst (λ x. IsRowMarked IsMarked c.args.y x c.args.pitch c.args.count c.loop-i.bits) (narrow_is c.args.x0 c.requires.first)
    (subst (λ y. IsRowMarked IsMarked y (narrow c.args.x0) c.args.pitch c.args.count c.loop-i.bits) (narrow_is c.args.y c.requires.row) row)
