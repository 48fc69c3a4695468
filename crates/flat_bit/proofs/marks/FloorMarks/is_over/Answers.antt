-- Answers the goals of `FloorMarks::is_over`.
use Rattle.std.specs.Prelude.{◌↔◌, IsTrue}
use Rattle.std.proofs.Common.{◌*◌, ◌≤◌, arith, subst}
use Rattle.plane_exact.specs.Plane.{rational}
use Rattle.engrave_model.specs.Drawing.{edges_of}
use Rattle.depth_rule.specs.Deepest.{deepest_of}
use Rattle.flat_bit.specs.Apart.{IsApart}
use Rattle.flat_bit.proofs.FloorReports.{apart_of_floor, floor_of_apart}
use Rattle.flat_bit.proofs.marks.FloorMarks.is_over.Goals as goal

pub returns-then-self-gt0 : goal.returns-then-self-gt0
returns-then-self-gt0 c =
    let marks = c.args.self.now in
    let bit = marks.bit.now in
    let loops = marks.scene.now in
    let slope : 1 ≤ bit.sn = c.sn.ensures.range.slope.low in
    let is = marks.deepest_is in
    let Yes = IsTrue c.is_apart.result in
    let test : Yes ↔ IsApart (edges_of loops) (bit.sn * deepest_of bit marks.limit) bit.sd (rational c.args.p) =
    subst (λ d. Yes ↔ IsApart (edges_of loops) (bit.sn * d) bit.sd (rational c.args.p)) is
    (subst (λ sn. Yes ↔ IsApart (edges_of loops) (sn * marks.deepest) bit.sd (rational c.args.p)) c.sn.ensures.value
    (subst (λ sd. Yes ↔ IsApart (edges_of loops) (c.sn.result * marks.deepest) sd (rational c.args.p)) c.sd.ensures.value c.is_apart.ensures))
    in
    let some = c.if-self-gt0.true in (
      (λ yes. floor_of_apart loops bit marks.limit slope c.args.p c.requires (let d = is in omega arith) (test.0 yes)),
      (λ floor. test.1 (apart_of_floor loops bit marks.limit slope c.args.p c.requires floor)),
    )
