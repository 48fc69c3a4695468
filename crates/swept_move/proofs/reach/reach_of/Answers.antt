-- Answers the goals of `reach_of`.
use Rattle.std.specs.Int.{div_ceil}
use Rattle.std.proofs.Common.{◌*◌, ◌∙◌, ap₂, max, arith, inl, inr}
use Rattle.plane_exact.specs.Moves.{depth_of}
use Rattle.swept_move.specs.Reach.{IsReach}
use Rattle.swept_move.proofs.Moves.{deep_reaches, narrow_at}
use Rattle.swept_move.proofs.Reaches.{deeper_least}
use Rattle.swept_move.proofs.reach.reach_of.Goals as goal

pub returns : goal.returns
returns c =
    let bit = c.args.bit.now in
    let y = depth_of c.args.mv.now.from.h in
    let z = depth_of c.args.mv.now.to.h in
    let over = c.sd.ensures.range.over.low in
    let reach = deeper_least bit.sn bit.sd y z c.max-deepest.result c.div_ceil.result (omega arith)
    (c.max-deepest.ensures ∙ ap₂ (λ y z. max y z) c.depth.ensures.value c.depth-2.ensures.value)
    (c.div_ceil.ensures ∙ ap₂ (λ n d. div_ceil (n * c.max-deepest.result) d) c.sn.ensures.value c.sd.ensures.value) in
    let within = reach.least (10 * bit.rmax) (narrow_at bit y (λ wide. c.requires (inl wide))) (narrow_at bit z (λ wide. c.requires (inr wide))) in
    let value : IsReach bit c.args.mv.now c.div_ceil.result = record { start = reach.start; finish = reach.finish; least = reach.least } in
    record {
      value = value;
      some = λ deep. deep_reaches bit c.args.mv.now c.div_ceil.result c.sd.ensures.range.slope.low value deep;
      within = within;
      range = (let widest = c.sd.ensures.range.widest.high in omega arith);
    }
