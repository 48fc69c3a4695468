-- The grids of a job.
use Rattle.std.specs.Prelude.{ℕ, Bool, true, false}
use Rattle.grid_num.specs.declared.units.Units.{Units}
use Rattle.grid_num.specs.declared.units.Units.TheVariants.{Mm10, Mm100, Mm1000, In100, In1000}

-- how many grid units a millimetre or an inch has
abbrev pub per_unit_of : Units → ℕ
per_unit_of Mm10 = 10
per_unit_of Mm100 = 100
per_unit_of Mm1000 = 1000
per_unit_of In100 = 100
per_unit_of In1000 = 1000

-- lengths are in inches
abbrev pub is_inch_of : Units → Bool
is_inch_of Mm10 = false
is_inch_of Mm100 = false
is_inch_of Mm1000 = false
is_inch_of In100 = true
is_inch_of In1000 = true
