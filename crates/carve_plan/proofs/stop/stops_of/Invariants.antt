-- The invariant of the loop of `stops_of`.
use Rattle.std.specs.List.{AllZip}
use Rattle.std.proofs.Common.{take}
use Rattle.carve_plan.specs.Stops.{IsStop}
use Rattle.carve_plan.proofs.stop.stops_of.Given as goal

abbrev pub invariant-loop-contact : goal.invariant-loop-contact
invariant-loop-contact l = AllZip (IsStop l.scene l.bit l.limit) (take l.contact-index l.contacts) l.stops.items
