-- Answers the goals of `dist_at_least`.
use Rattle.std.proofs.Common.{◌↔◌, ℕ, pos, arith}
use Rattle.std.proofs.lemmas.Int.{ints}
use Rattle.plane_exact.specs.Distance.{square, IsAtLeastApart}
use Rattle.plane_exact.specs.Plane.{GridPoint, RationalPoint, IsBetween, rational}
use Rattle.plane_exact.proofs.Ranges.{not_above, above}
use Rattle.plane_exact.proofs.Apart.{far_by_start, far_by_finish, far_by_foot, far_is_apart, IsFarEnough}
use Rattle.plane_exact.proofs.distance.dist_at_least.Goals as goal

both : {A B C : Type 0} → A ↔ B → B ↔ C → A ↔ C
both e f = ((λ a. f.0 (e.0 a)), (λ c. e.1 (f.1 c)))

by : {A B : Type 0} (num den : ℕ) (p a b : GridPoint) → A ↔ B → B ↔ IsFarEnough (square (pos num)) (square (pos den)) (rational p) a b
    → A ↔ ((w : RationalPoint) → IsBetween a b w → IsAtLeastApart (pos num) (pos den) (rational p) w)
by num den p a b test far = both (both test far) (far_is_apart (pos num) (pos den) p a b)

pub returns-then-dot-le0 : goal.returns-then-dot-le0
returns-then-dot-le0 c =
    let away = not_above _ _ c.dot.ensures.range c.dot.ensures.value c.if-dot-le0.true in
    by c.args.num c.args.den c.args.p c.args.s.a c.args.s.b c.point_at_least.ensures
    (far_by_start (square (pos c.args.num)) (square (pos c.args.den)) c.args.p c.args.s.a c.args.s.b (omega (arith, ints)) away)

pub returns-then-dot-le0-2 : goal.returns-then-dot-le0-2
returns-then-dot-le0-2 c =
    let near = not_above _ _ c.dot-else-dot-le0.ensures.range c.dot-else-dot-le0.ensures.value c.if-dot-le0-2.true in
    by c.args.num c.args.den c.args.p c.args.s.a c.args.s.b c.point_at_least-then-dot-le0-2.ensures
    (far_by_finish (square (pos c.args.num)) (square (pos c.args.den)) c.args.p c.args.s.a c.args.s.b (omega (arith, ints)) near)

pub returns-else-dot-le0-2 : goal.returns-else-dot-le0-2
returns-else-dot-le0-2 c =
    let before = above _ _ c.dot.ensures.range c.dot.ensures.value c.if-dot-le0.false in
    let after = above _ _ c.dot-else-dot-le0.ensures.range c.dot-else-dot-le0.ensures.value c.if-dot-le0-2.false in
    by c.args.num c.args.den c.args.p c.args.s.a c.args.s.b c.line_at_least.ensures
    (far_by_foot (square (pos c.args.num)) (square (pos c.args.den)) c.args.p c.args.s.a c.args.s.b (omega (arith, ints)) before after)
