-- Answers the goals of `add_line`.
use Rattle.std.proofs.Common.{◌<◌, ◌+◌, ◌-◌, ◌++◌, arith, ap, sym, ◌∙◌}
use Rattle.pbm_edges.specs.Boundary.{sides_along}
use Rattle.pbm_edges.proofs.Scan.{at_first, begins_far, goes_far, renamed, went_far, went_on, went_past}
use Rattle.pbm_edges.proofs.tracing.add_line.Goals as goal
use Rattle.pbm_edges.proofs.tracing.add_line.Goals.{then-not-is_same+in_ok-add_run, else-not-is_same}

pub loop-i-init : goal.loop-i-init
loop-i-init c = record {
  same = ap (λ later. c.args.segs.now.items ++ later) (at_first c.args.image.now c.args.pixel c.args.line);
  behind = omega arith;
  within = omega arith;
  few = c.requires.few;
}

pub loop-i-preserved : goal.loop-i-preserved
loop-i-preserved c =
    let image = c.args.image.now in
    let line = c.args.line in
    let i = c.loop-i.i in
    let until = c.end_of_same-i.result in
    let far = c.end_of_same-i.ensures in
    let later = far.later in
    let next = c.side_at-next.result in
    let on : i < sides_along image line = omega arith in
    elim c.if-not-is_same.branch [
      | then-not-is_same+in_ok-add_run w ↦ (let other = sym c.is_same.ensures ∙ w.if-not-is_same.true in
          renamed (went_far image c.args.pixel line (until - (i + 1)) (i + 1) until (went_past image c.args.pixel line c.loop-i.invariant on next c.side_at-next.ensures other w.add_run.new.segs.items w.in_ok-add_run.ensures.grown w.in_ok-add_run.ensures.few) (omega arith) far.within (begins_far image line next i until far.same)) (ap (λ segs. segs.items) w.segs-is) w.side-is w.first-is)
      | else-not-is_same w ↦ (let goes = sym c.is_same.ensures ∙ w.if-not-is_same.false in
          renamed (went_far image c.args.pixel line (until - (i + 1)) (i + 1) until (went_on image c.args.pixel line c.loop-i.invariant on next c.side_at-next.ensures goes) (omega arith) far.within (goes_far image line c.loop-i.side next i until goes far.same)) (ap (λ segs. segs.items) w.segs-is) w.side-is w.first-is)
    ]
