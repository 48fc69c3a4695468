-- Answers the goals of `stepped`.
use mir.Syntax.{w64}
use Rattle.std.proofs.Common.{ℕ, ◌+◌, ◌*◌, ◌/◌, ◌++◌, ◌∷◌, [], List, map, ap, sym, ◌∙◌, ◌≡◌, arith}
use Rattle.std.specs.List.{range_with_len}
use Rattle.std.proofs.lemmas.Int.{to_z-of_z}
use Rattle.std.proofs.lemmas.List.FromFn.{map-range_with_len_more}
use Rattle.plane_exact.proofs.Stored.{wide}
use Rattle.arc_flatten.specs.Arcs.{circle_point_of, stepped_points}
use Rattle.arc_flatten.specs.Points.{FinePoint}
use Rattle.arc_flatten.proofs.circle.stepped.Goals as goal

-- one point more
one_more : (point : ℕ → FinePoint) (k : ℕ) (p : FinePoint) (old all : List FinePoint) → old ≡ map point (range_with_len 0 k) → p ≡ point k → all ≡ old ++ p ∷ [] → all ≡ map point (range_with_len 0 (k + 1))
one_more point k p old all so_far is pushed =
    pushed ∙ ap (λ points. points ++ p ∷ []) so_far ∙ ap (λ last. map point (range_with_len 0 k) ++ last ∷ []) is ∙ sym (map-range_with_len_more point 0 k k (omega arith))

pub loop-i-preserved : goal.loop-i-preserved
loop-i-preserved c =
    one_more (λ i. circle_point_of c.args.c (wide c.args.r) (c.args.from + i * c.args.span / c.args.pieces)) c.loop-i.i c.circle_point.result c.loop-i.points.items c.push.new.self.items
    c.loop-i.invariant c.circle_point.ensures c.in_ok-push.ensures.items

pub returns : goal.returns
unfolding stepped_points
returns c =
    let all : c.loop-i.i ≡ c.args.pieces + 1 = omega arith in
    c.loop-i.invariant
    ∙ ap (λ r. map (λ i. circle_point_of c.args.c r (c.args.from + i * c.args.span / c.args.pieces)) (range_with_len 0 c.loop-i.i)) (to_z-of_z w64 c.args.r c.ranges.r)
    ∙ ap (λ n. map (λ i. circle_point_of c.args.c c.args.r (c.args.from + i * c.args.span / c.args.pieces)) (range_with_len 0 n)) all
