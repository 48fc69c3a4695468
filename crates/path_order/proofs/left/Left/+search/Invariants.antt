-- The measure of `Left::search`.
use Rattle.std.proofs.Common.{◌-◌, vec_len}
use Rattle.path_order.proofs.left.Left.+search.Given as goal

abbrev pub decreases-search : goal.decreases-search
decreases-search l = vec_len l.self.now.extents - l.node
