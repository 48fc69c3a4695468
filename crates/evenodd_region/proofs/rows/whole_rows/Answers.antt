-- Answers the goals of `whole_rows`.
use Rattle.std.proofs.Common.{arith}
use Rattle.evenodd_region.proofs.RowNumbers.{whole_read}
use Rattle.evenodd_region.proofs.rows.whole_rows.Goals as goal

pub overflow_cast-result-2 : goal.overflow_cast-result-2
overflow_cast-result-2 c = let few = (whole_read c.args.p).few in omega arith

pub returns-clause-few : goal.returns-clause-few
returns-clause-few c = (whole_read c.args.p).few

pub returns-clause-row : goal.returns-clause-row
returns-clause-row c = (whole_read c.args.p).row
