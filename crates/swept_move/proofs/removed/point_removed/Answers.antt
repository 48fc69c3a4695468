-- Answers the goals of `point_removed`.
use Rattle.std.proofs.Common.{ap, arith, pos, ◌≤ℤ◌}
use Rattle.std.proofs.lemmas.Int.{ints}
use Rattle.plane_exact.specs.declared.moves.Move.{Move}
use Rattle.plane_exact.specs.Plane.{rational}
use Rattle.swept_move.proofs.Cuts.{removes_nothing, removes_turned}
use Rattle.swept_move.proofs.removed.point_removed.Goals as goal

pub returns-then-mv-lt0-2 : goal.returns-then-mv-lt0-2
returns-then-mv-lt0-2 c =
    let mv = c.args.mv.now in
    let bit = c.args.bit.now in
    let w = rational c.args.p in
    let r = c.removes_from-then-mv-lt0-2.ensures in (
      (λ t. removes_turned bit mv.to mv.from w (r.0 t)),
      (λ removes. r.1 (removes_turned bit mv.from mv.to w removes)),
    )

pub returns-else-mv-lt0-2 : goal.returns-else-mv-lt0-2
returns-else-mv-lt0-2 c =
    let mv = c.args.mv.now in
    let first = ap (λ (m : Move). m.from.h) c.mv.view_is in
    let last = ap (λ (m : Move). m.to.h) c.mv.view_is in
    let within = c.mv.invariant in
    let first_high = c.if-mv-lt0.false in
    let last_high = c.if-mv-lt0-2.false in
    let above : pos 0 ≤ℤ mv.from.h = omega (arith, ints) in
    let above' : pos 0 ≤ℤ mv.to.h = omega (arith, ints) in (
      (λ t. absurd (cc)),
      (λ removes. absurd (removes_nothing c.args.bit.now mv.from mv.to (rational c.args.p) above above' removes)),
    )
