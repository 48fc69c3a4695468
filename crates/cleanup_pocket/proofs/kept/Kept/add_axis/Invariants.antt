-- What the loop of `add_axis` keeps.
use Rattle.cleanup_pocket.proofs.Axes.{AreLinesKept}
use Rattle.cleanup_pocket.proofs.kept.Kept.add_axis.Given as goal

abbrev pub invariant-loop-k : goal.invariant-loop-k
invariant-loop-k g l =
    AreLinesKept (g.F.Floor.is_good l.floor) (g.F.Floor.is_way l.floor) (g.F.Floor.depth_of l.floor) l.over l.bounds.low l.bounds.high l.axis l.ticks.first l.k l.initial.self.chains.items l.initial.self.has_more l.self.chains.items
    l.self.has_more
