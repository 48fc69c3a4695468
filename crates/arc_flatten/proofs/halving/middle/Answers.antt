-- Answers the goals of `middle`.
use Rattle.arc_flatten.proofs.Bounded.{middle_fits, moved_fits, read_is_middle, sum_fits, top_fits}
use Rattle.arc_flatten.proofs.halving.middle.Goals as goal

pub times-moved-requires : goal.times-moved-requires
times-moved-requires c = moved_fits c.args.u c.args.v c.args.from c.args.to c.args.b c.requires.u c.requires.v c.requires.from c.requires.to c.ranges.b

pub overflow_mul-sum : goal.overflow_mul-sum
overflow_mul-sum c = sum_fits c.args.u c.args.v c.args.from c.args.to c.args.b c.requires.u c.requires.v c.requires.from c.requires.to c.ranges.b

pub overflow_add-sum-2 : goal.overflow_add-sum-2
overflow_add-sum-2 c = top_fits c.args.u c.args.v c.args.from c.args.to c.args.b c.requires.u c.requires.v c.requires.from c.requires.to c.ranges.b _ c.times-moved.ensures

pub overflow_cast-result : goal.overflow_cast-result
overflow_cast-result c = middle_fits c.args.u c.args.v c.args.from c.args.to c.args.b c.requires.u c.requires.v c.requires.from c.requires.to c.ranges.b _ c.times-moved.ensures _ c.div_euclid.ensures c.requires.on

pub returns : goal.returns
returns c = read_is_middle c.args.u c.args.v c.args.from c.args.to c.args.b c.requires.u c.requires.v c.requires.from c.requires.to c.ranges.b _ c.times-moved.ensures _ c.div_euclid.ensures c.requires.on
