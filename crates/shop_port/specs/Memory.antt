-- What the depot and the sink in memory keep: their setting, their content and how many calls were made.
use Rattle.std.specs.Prelude.{ℕ, List, Option, vec_capacity}
use Rattle.shop_port.specs.Files.{files_of}
use Rattle.shop_port.specs.declared.memory.MemDepot.{MemDepot}
use Rattle.shop_port.specs.declared.memory.MemSink.{MemSink}

-- the bytes under each name
abbrev pub files_in : MemDepot → List ℕ → Option (List ℕ)
files_in depot = files_of depot.files

-- the most bytes of one read
abbrev pub most_per_read : MemDepot → ℕ
most_per_read depot = depot.per_call

-- the numbers of the reads that fail, from 1 on
abbrev pub failing_reads : MemDepot → List ℕ
failing_reads depot = depot.schedule.failing.items

-- how many reads were asked for
abbrev pub reads_made : MemDepot → ℕ
reads_made depot = depot.schedule.calls

-- how many of them failed
abbrev pub reads_failed : MemDepot → ℕ
reads_failed depot = depot.schedule.faults

-- how many of them found no such name
abbrev pub names_missed : MemDepot → ℕ
names_missed depot = depot.misses

-- the bytes written so far
abbrev pub bytes_of : MemSink → List ℕ
bytes_of sink = sink.bytes.items

-- how many bytes it can take before it needs memory
abbrev pub capacity_of : MemSink → ℕ
capacity_of sink = vec_capacity sink.bytes

-- the most bytes of one write
abbrev pub most_per_write : MemSink → ℕ
most_per_write sink = sink.per_call

-- the numbers of the writes that fail, from 1 on
abbrev pub failing_writes : MemSink → List ℕ
failing_writes sink = sink.schedule.failing.items

-- how many writes were asked for
abbrev pub writes_made : MemSink → ℕ
writes_made sink = sink.schedule.calls

-- how many of them failed
abbrev pub writes_failed : MemSink → ℕ
writes_failed sink = sink.schedule.faults
