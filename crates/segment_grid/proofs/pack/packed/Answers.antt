-- One level more is packed.
use Rattle.segment_grid.specs.Packed.{IsLevelFrom}
use Rattle.segment_grid.proofs.PackLaws.{zip_more}
use Rattle.segment_grid.proofs.pack.packed.Goals as goal

pub loop-level-preserved : goal.loop-level-preserved
loop-level-preserved c =
    zip_more IsLevelFrom c.loop-level.yielded c.loop-level.packed.items c.push.new.self.items c.in-Some.level c.in_ok-of.field-0
    c.loop-level.invariant c.in_ok-of.ensures c.in_ok-push.ensures.items
