-- Answers the goals of `guard`.
use Rattle.std.specs.Prelude.{List, None}
use Rattle.std.proofs.Common.{ap, subst}
use Rattle.engrave_model.specs.Drawing.{edges_of}
use Rattle.plane_exact.specs.Plane.{GridPoint}
use Rattle.engrave_core.specs.Drawing.{IsRefusedCrossing, ReadDrawing}
use Rattle.engrave_core.proofs.Guarding.{guarded_none}
use Rattle.engrave_core.proofs.drawing.guard.Goals as goal

pub returns-in-None-clause-value : goal.returns-in-None-clause-value
returns-in-None-clause-value c =
    guarded_none c.args.cross _ _
    (ap (λ (loops : List (List GridPoint)). let drawing : ReadDrawing = record { loops = loops; skipped = c.args.read.skipped } in drawing) c.in_ok-scene.ensures)
    (subst (λ loops. IsRefusedCrossing c.args.cross (edges_of loops) None) c.in_ok-scene.ensures c.in-None.ensures)
