-- Answers the goals of `glyph_reach`.
use Rattle.std.proofs.Common.{◌∙◌}
use Rattle.cxf_font.proofs.Farthest.{farthest-element, sound_behind}
use Rattle.cxf_font.proofs.reach.glyph_reach.Goals as goal

pub loop-element-preserved : goal.loop-element-preserved
loop-element-preserved c =
    let parted = c.in-Some.ensures.cases.0 in
    let points = c.deref.ensures.value ∙ c.in_ok-points.ensures in
    record {
      ahead = farthest-element c.args.layout.now 0 _ _ c.args.chord _ _ _ _ parted points c.points_reach-reach.ensures.ahead ∙ c.loop-element.invariant.ahead;
      right = farthest-element c.args.layout.now c.args.pen _ _ c.args.chord _ _ _ _ parted points c.points_reach-reach.ensures.right ∙ c.loop-element.invariant.right;
      near = c.points_reach-reach.ensures.near;
      within = c.points_reach-reach.ensures.within;
      sound = sound_behind _ _ _ parted c.loop-element.invariant.sound;
    }
