-- Answers the goals of `flip`.
use Rattle.std.proofs.Common.{ap, sym, ◌∙◌}
use Rattle.std.specs.BTreeSet.{contains}
use Rattle.loop_join.specs.Places.{place_cmp}
use Rattle.loop_join.proofs.Flips.{flip_in, flip_out}
use Rattle.loop_join.proofs.odd.flip.Goals as goal

pub returns-in_ok-insert : goal.returns-in_ok-insert
returns-in_ok-insert c =
    let points = c.args.points.now in
    let is = c.place_of-place.ensures in
    flip_in points c.remove.new.self c.insert.new.self c.args.p (ap (contains place_cmp points) (sym is) ∙ sym c.remove.ensures.test ∙ c.if-not-remove.true)
    (rw is at c.remove.ensures.updates)
    (rw is at c.in_ok-insert.ensures.updates)

pub returns-else-not-remove : goal.returns-else-not-remove
returns-else-not-remove c =
    let points = c.args.points.now in
    let is = c.place_of-place.ensures in
    flip_out points c.remove.new.self c.args.p (ap (contains place_cmp points) (sym is) ∙ sym c.remove.ensures.test ∙ c.if-not-remove.false)
    (rw is at c.remove.ensures.updates)
