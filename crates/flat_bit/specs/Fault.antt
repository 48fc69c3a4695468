-- When the ways of a flat bit are refused.
use Rattle.std.specs.Prelude.{ℕ, List}
use Rattle.plane_exact.specs.Cone.{Cone}
use Rattle.plane_exact.specs.Plane.{GridPoint}
use Rattle.cleanup_pocket.specs.Fault.{IsManyFault}
use Rattle.cleanup_pocket.specs.declared.axis.Way.{Way}
use Rattle.cleanup_pocket.specs.declared.fault.PocketFault.{PocketFault}
use Rattle.flat_bit.specs.Flat.{IsFlat}

-- when each fault is answered: there are more chains than a path may have; out of memory at any time
abbrev pub IsMillFault : List (List GridPoint) → Cone → (limit radius over : ℕ) → Way → PocketFault → Type 0
IsMillFault loops cone limit radius over way fault = IsManyFault (IsFlat loops cone limit radius over way) fault
