-- Answers the goals of `greatest_free_within`.
use Rattle.std.proofs.Common.{◌≡◌, ◌<◌, Some, pos, ◌≤ℤ◌, length, arith, subst, sym}
use Rattle.std.specs.List.{slice_get}
use Rattle.std.proofs.lemmas.Int.{ints}
use Rattle.engrave_model.specs.Drawing.{edges_of}
use Rattle.tangent_disc.specs.OpenDisc.{centre_of}
use Rattle.tangent_disc.proofs.Free.{free_of_off}
use Rattle.tangent_disc.proofs.Searches.{IsSearched, begun, ended, inside, stepped}
use Rattle.tangent_disc.proofs.Touches.{reach_short}
use Rattle.tangent_disc.proofs.greatest.greatest_free_within.Goals as goal

pub box_around-requires-clause-wide : goal.box_around-requires-clause-wide
box_around-requires-clause-wide c =
    let t = c.args.touch.now in
    reach_short t.side t.point t.across t.up t.over t.size t.at c.args.most c.disc.result c.disc.ensures

pub loop-e-init : goal.loop-e-init
loop-e-init c =
    let t = c.args.touch.now in
    let edges = edges_of c.args.scene.now in
    let disc = c.disc.ensures in
    subst (IsSearched edges t.side t.point c.args.most c.args.most) (sym c.into_iter-e-iterator.ensures.into_iter_gives)
    (begun edges t.side t.point c.box_around.result c.near-e-items.result c.near-e-items.ensures c.args.most
    (λ e misses. (free_of_off t.side t.point t.at.ranged.long.low c.args.most (centre_of c.disc.result) c.disc.result.reach disc.across disc.up disc.denominator disc.wide e).0 (c.box_around.ensures e misses)))

pub edge-requires : goal.edge-requires
edge-requires c =
    let t = c.args.touch.now in
    subst (λ loops. c.in-Some.e < length (edges_of loops)) (sym c.drawing-drawing.ensures)
    (inside (edges_of c.args.scene.now) t.side t.point c.in-Some.e c.loop-e.e-iterator c.next.new.self c.in-Some.ensures.steps c.loop-e.invariant.there)

pub loop-e-preserved : goal.loop-e-preserved
loop-e-preserved c =
    let t = c.args.touch.now in
    let some = t.at.ranged.long.low in
    let long : pos 0 ≤ℤ t.point.length = omega (arith, ints) in
    stepped (edges_of c.args.scene.now) t.side t.point long c.args.most c.loop-e.j c.greatest_free_of-j.result c.in-Some.e c.edge.result c.loop-e.e-iterator c.next.new.self c.in-Some.ensures.steps
    (subst (λ loops. slice_get (edges_of loops) c.in-Some.e ≡ Some c.edge.result) c.drawing-drawing.ensures c.edge.ensures.edge)
    c.greatest_free_of-j.ensures c.loop-e.invariant

pub returns : goal.returns
returns c =
    let t = c.args.touch.now in
    ended (edges_of c.args.scene.now) t.side t.point c.args.most c.loop-e.j c.loop-e.e-iterator c.in-None.ensures.steps.0 c.loop-e.invariant
