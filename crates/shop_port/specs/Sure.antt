-- What the depot and the sink that never fail have besides what is known of them by their traits.
use Rattle.std.specs.Prelude.{ℕ, List, if◌then◌else◌, Option, None, Some}
use Rattle.shop_port.specs.Files.{files_of}
use Rattle.shop_port.specs.declared.sure.SureDepot.{SureDepot}
use Rattle.shop_port.specs.declared.sure.SureSink.{SureSink}

-- the bytes under each name
abbrev pub files_within : SureDepot → List ℕ → Option (List ℕ)
files_within depot = files_of depot.files

-- how many reads found no such name
abbrev pub absences : SureDepot → ℕ
absences depot = depot.misses

-- the most bytes of one read
abbrev pub per_read : SureDepot → ℕ
per_read depot = depot.per_call

-- the most bytes of one write
abbrev pub per_write : SureSink → ℕ
per_write sink = sink.per_call

-- up to how many bytes it is known what was written
abbrev pub room_of : SureSink → ℕ
room_of sink = sink.room

-- what it took, unless that went past its room
abbrev pub written_to : SureSink → Option (List ℕ)
written_to sink = if sink.is_known then Some sink.bytes.items else None
