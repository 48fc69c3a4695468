-- The invariant and the measure of the loop of `walk`.
use Rattle.std.proofs.Common.{◌≡◌}
use Rattle.grid_num.specs.Units.{per_unit_of}
use Rattle.dxf_outline.specs.Outline.{begun, drawn_from}
use Rattle.dxf_outline.specs.Pairs.{count_of}
use Rattle.dxf_outline.specs.State.{pairs_left, state_of}
use Rattle.dxf_outline.proofs.walk.walk.Given as goal

abbrev pub invariant-pairs : goal.invariant-pairs
invariant-pairs l =
    drawn_from (per_unit_of l.resolution.units) l.resolution.chord begun (pairs_left l.initial.pairs) ≡ drawn_from (per_unit_of l.resolution.units) l.resolution.chord (state_of l.place l.outline) (pairs_left l.pairs)

abbrev pub decreases-pairs : goal.decreases-pairs
decreases-pairs l = count_of (pairs_left l.pairs)
