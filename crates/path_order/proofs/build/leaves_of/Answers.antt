-- Answers the goals of `leaves_of`.
use Rattle.std.proofs.Common.{◌≡◌, length, arith}
use Rattle.path_order.proofs.Indexes.{leaves_all, leaves_more, leaves_none}
use Rattle.path_order.proofs.build.leaves_of.Goals as goal

pub loop-slot-init : goal.loop-slot-init
loop-slot-init c =
    let extents = c.resize.new.self.items in
    let same : length extents ≡ length c.args.slots.now = omega (arith, c.in_ok-resize.ensures.len, c.resize.new.self.ok.0) in
    leaves_none c.args.slots.now extents same

pub loop-slot-preserved : goal.loop-slot-preserved
loop-slot-preserved c =
    let more = leaves_more c.args.slots.now c.loop-slot.extents.items c.loop-slot.slot-index c.slot-item.result c.box_of.result c.push.new.self.items
    c.loop-slot.invariant c.loop-slot-test.true c.slot-item.is c.box_of.ensures c.in_ok-push.ensures.items in
    record { size = more.0; leaves = more.1 }

pub returns : goal.returns
returns c = leaves_all c.args.slots.now c.loop-slot.extents.items c.loop-slot.slot-index (omega arith) c.requires c.loop-slot.invariant
