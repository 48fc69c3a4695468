-- The invariant and the measure of the loop of `Pairs::take_slots`.
use Rattle.grid_num.specs.Units.{per_unit_of}
use Rattle.dxf_outline.specs.Pairs.{count_of}
use Rattle.dxf_outline.specs.State.{pairs_left}
use Rattle.dxf_outline.proofs.Taking.{IsTaking}
use Rattle.dxf_outline.proofs.ahead.Pairs.take_slots.Given as goal

abbrev pub invariant-fields : goal.invariant-fields
invariant-fields l = IsTaking l.shape (per_unit_of l.units) l.slots (pairs_left l.self) (pairs_left l.initial.self)

abbrev pub decreases-fields : goal.decreases-fields
decreases-fields l = count_of (pairs_left l.self)
