-- The runs of a row.
use Rattle.std.specs.Prelude.{ℕ, ◌-◌, ◌*◌, pos, ◌+ℤ◌}
use Rattle.plane_exact.specs.Uncut.{GridRun}
use Rattle.coverage_report.specs.Rows.{PointRow}

-- the run of the row's points from the first to before the end
abbrev pub run_at : PointRow → (first end : ℕ) → GridRun
run_at row first end = record { y = row.y; x0 = row.x +ℤ pos (first * row.pitch); x1 = row.x +ℤ pos ((end - 1) * row.pitch) }
