-- Answers the goals of `taken`.
use Rattle.std.proofs.Common.{arith, rules, pos, ◌≤ℤ◌}
use Rattle.std.proofs.lemmas.Int.{ints}
use Rattle.engrave_model.specs.Drawing.{edges_of}
use Rattle.tangent_disc.proofs.Along.{refused_by_none, refused_by_small, taken_by_small}
use Rattle.tangent_disc.proofs.Centres.{inside_on_grid}
use Rattle.tangent_disc.proofs.Searches.{stopped}
use Rattle.tangent_disc.proofs.chosen.taken.Goals as goal

pub returns-then-small-eq0-clause-refused : goal.returns-then-small-eq0-clause-refused
returns-then-small-eq0-clause-refused c =
    let t = c.args.touch.now in
    let low = c.requires.rmax.low in
    refused_by_none c.args.scene.now t.side t.point t.at.ranged c.min-first.result c.args.rmax c.greatest_free_within-small.result (omega arith) (omega arith) c.greatest_free_within-small.ensures (omega arith)

pub returns-then-not-is_centre_inside-clause-refused : goal.returns-then-not-is_centre_inside-clause-refused
returns-then-not-is_centre_inside-clause-refused c =
    let t = c.args.touch.now in
    let low = c.requires.rmax.low in
    refused_by_small c.args.scene.now t.side t.point t.at.ranged c.min-first.result c.args.rmax c.greatest_free_within-small.result (omega arith) (omega arith) c.greatest_free_within-small.ensures
    (omega arith) (λ inside. let yes = c.is_centre_inside.ensures.1 inside in grind (arith, yes))

pub returns-then-small-first-clause-taken : goal.returns-then-small-first-clause-taken
returns-then-small-first-clause-taken c =
    let t = c.args.touch.now in
    let low = c.requires.rmax.low in
    let some = t.at.ranged.long.low in
    let long : pos 0 ≤ℤ t.point.length = omega (arith, ints) in
    let small = c.greatest_free_within-small.result in
    taken_by_small c.args.scene.now t.side t.point t.at.ranged c.min-first.result c.args.rmax small (omega arith) (omega arith) c.greatest_free_within-small.ensures
    small (omega arith) (c.if-not-is_centre_inside.ensures.0 (search rules))
    (stopped (edges_of c.args.scene.now) t.side t.point c.min-first.result c.args.rmax small long c.greatest_free_within-small.ensures c.if-small-first.true (omega arith))

pub returns-then-small-first-clause-on_grid : goal.returns-then-small-first-clause-on_grid
returns-then-small-first-clause-on_grid c =
    let t = c.args.touch.now in
    inside_on_grid c.args.scene.now t.side t.point c.greatest_free_within-small.result c.requires.drawing (c.if-not-is_centre_inside.ensures.0 (search rules))

pub returns-clause-taken : goal.returns-clause-taken
returns-clause-taken c =
    let t = c.args.touch.now in
    let low = c.requires.rmax.low in
    taken_by_small c.args.scene.now t.side t.point t.at.ranged c.min-first.result c.args.rmax c.greatest_free_within-small.result (omega arith) (omega arith) c.greatest_free_within-small.ensures
    c.greatest_free.result (omega arith) (c.if-not-is_centre_inside.ensures.0 (search rules)) c.greatest_free.ensures

pub returns-clause-on_grid : goal.returns-clause-on_grid
returns-clause-on_grid c =
    let t = c.args.touch.now in
    let low = c.requires.rmax.low in
    let taken = taken_by_small c.args.scene.now t.side t.point t.at.ranged c.min-first.result c.args.rmax c.greatest_free_within-small.result (omega arith) (omega arith) c.greatest_free_within-small.ensures
    c.greatest_free.result (omega arith) (c.if-not-is_centre_inside.ensures.0 (search rules)) c.greatest_free.ensures in
    inside_on_grid c.args.scene.now t.side t.point c.greatest_free.result c.requires.drawing taken.inside
