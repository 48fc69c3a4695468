-- The words that are printed for the faults of PBM files and of their segments.
use Rattle.std.specs.Prelude.{ℕ, List, codes}
use Rattle.pbm_edges.specs.declared.fault.FlatFault.{FlatFault}
use Rattle.pbm_edges.specs.declared.fault.FlatFault.TheVariants as flat
use Rattle.pbm_edges.specs.declared.fault.PbmFault.{PbmFault}
use Rattle.pbm_edges.specs.declared.fault.PbmFault.TheVariants.{Magic, Header, Size, Short, Pixel, Memory}

-- the words of a fault of a PBM file
abbrev pub pbm_words : PbmFault → List ℕ
pbm_words Magic = codes "magic"
pbm_words Header = codes "header"
pbm_words Size = codes "size"
pbm_words Short = codes "short"
pbm_words Pixel = codes "pixel"
pbm_words Memory = codes "memory"

-- the words of a fault of its segments
abbrev pub flat_words : FlatFault → List ℕ
flat_words flat.OutOfRange = codes "out of range"
flat_words flat.TooMany = codes "too many"
flat_words flat.Memory = codes "memory"
