-- Answers the goal of `is_among`.
use Rattle.std.proofs.Common.{ap, ◌∙◌}
use Rattle.std.specs.BTreeSet.{contains}
use Rattle.loop_join.specs.Places.{place_cmp}
use Rattle.loop_join.proofs.odd.is_among.Goals as goal

pub returns : goal.returns
returns c = c.contains.ensures ∙ ap (contains place_cmp c.args.points.now) c.place_of.ensures
