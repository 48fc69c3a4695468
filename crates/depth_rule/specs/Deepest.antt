-- The deepest that the bit may go anywhere.
use Rattle.std.specs.Prelude.{ℕ, ◌*◌, ◌/◌, min}
use Rattle.plane_exact.specs.Cone.{Cone}

-- the greatest depth up to the limit at which the bit's radius is at most its greatest one
abbrev pub deepest_of : Cone → (limit : ℕ) → ℕ
deepest_of cone limit = min limit (cone.sd * cone.rmax / cone.sn)
