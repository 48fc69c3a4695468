-- Answers the goals of `is_clear_of`.
use Rattle.std.proofs.Common.{◌≡◌, ◌∙◌, false, subst, sym}
use Rattle.lane_kernels.specs.Boxes.{is_met}
use Rattle.segment_grid.specs.Near.{box_of}
use Rattle.depth_rule.proofs.Crossings.{missed_clear, own_box}
use Rattle.depth_rule.proofs.together.is_clear_of.Goals as goal

pub returns-then-not-is_met : goal.returns-then-not-is_met
returns-then-not-is_met c = λ yes.
    let edge = c.args.edge.now in
    let missed = sym c.is_met.ensures ∙ c.if-not-is_met.true in
    missed_clear (box_of edge) edge c.args.other.now (own_box edge)
    (subst (λ b. is_met b (box_of c.args.other.now) ≡ false) c.box_of.ensures (subst (λ b. is_met c.box_of.result b ≡ false) c.box_of-2.ensures missed))
