-- Answers the goals of `Made::go`.
use Rattle.std.proofs.Common.{rules}
use Rattle.engrave_model.specs.Drawing.{edges_of}
use Rattle.carve_plan.proofs.Faults.{cut_fault}
use Rattle.carve_plan.proofs.Going.{no_room_for_steps}
use Rattle.carve_plan.proofs.made.Made.go.Goals as goal

pub returns-in_err-count-clause-fault : goal.returns-in_err-count-clause-fault
returns-in_err-count-clause-fault c =
    let told = c.in_err-count.ensures.fault in
    let steps = c.in_ok-steps.steps in
    let many = no_room_for_steps (edges_of c.args.scene.now) c.args.bit.now c.args.limit c.args.from c.args.to c.args.self.now.nodes steps.items _ c.in_ok-steps.ensures
    (search rules) told.1
    in
    let fault = cut_fault _ c.in_err-count.field-0.0 told.0 many in
    search rules
