-- Answers the goals of `add_axis`.
use Rattle.std.proofs.Common.{◌≡◌, ◌*◌, pos, ◌+ℤ◌, arith, ap, subst, sym, ◌∙◌}
use Rattle.plane_exact.specs.Plane.{IsCoordinate}
use Rattle.cleanup_pocket.specs.Kept.{IsGrown}
use Rattle.cleanup_pocket.specs.Floors.{AreAxisChains, AreLineChains, line_of}
use Rattle.cleanup_pocket.proofs.Axes.{AreLinesKept, first_on, line_on, lines_begun, lines_ended, lines_stepped, none_along}
use Rattle.cleanup_pocket.proofs.Growing.{none_added}
use Rattle.cleanup_pocket.proofs.Lines.{bounded_line}
use Rattle.cleanup_pocket.proofs.StoredPlaces.{place_read, value_read}
use Rattle.cleanup_pocket.proofs.kept.Kept.add_axis.Goals as goal

pub returns-in_default : goal.returns-in_default
returns-in_default g c =
    let floor = c.args.floor.now in
    let bounds = c.args.bounds.now in
    none_added c.args.self.now.chains.items c.args.self.now.has_more (AreAxisChains (g.F.Floor.is_good floor) (g.F.Floor.is_way floor) (g.F.Floor.depth_of floor) c.args.over bounds.low bounds.high c.args.axis)
    (none_along (g.F.Floor.is_good floor) (g.F.Floor.is_way floor) (g.F.Floor.depth_of floor) c.args.over bounds.low bounds.high c.args.axis c.in_default.ensures.value)

pub loop-k-init : goal.loop-k-init
loop-k-init g c =
    let floor = c.args.floor.now in
    let bounds = c.args.bounds.now in
    lines_begun (g.F.Floor.is_good floor) (g.F.Floor.is_way floor) (g.F.Floor.depth_of floor) c.args.over bounds.low bounds.high c.args.axis c.in-Some.ticks.first c.args.self.now.chains.items c.args.self.now.has_more

pub tick-at-requires-clause-first : goal.tick-at-requires-clause-first
tick-at-requires-clause-first g c =
    let bounds = c.args.bounds.now in
    let ticks = c.in-Some.ticks in
    let on = first_on ticks.first c.args.over ticks.count (line_of c.args.axis bounds.low) (line_of c.args.axis bounds.high) c.requires.over.low c.in-Some.ensures.value c.in-Some.ensures.low c.in-Some.ensures.high in
    subst IsCoordinate (sym (place_read ticks.first on)) on

pub tick-at-requires-clause-range : goal.tick-at-requires-clause-range
tick-at-requires-clause-range g c =
    let bounds = c.args.bounds.now in
    let ticks = c.in-Some.ticks in
    let on = first_on ticks.first c.args.over ticks.count (line_of c.args.axis bounds.low) (line_of c.args.axis bounds.high) c.requires.over.low c.in-Some.ensures.value c.in-Some.ensures.low c.in-Some.ensures.high in
    subst (λ z. IsCoordinate (z +ℤ pos (c.loop-k.k * c.args.over))) (sym (place_read ticks.first on))
    (line_on ticks.first c.args.over ticks.count (line_of c.args.axis bounds.low) (line_of c.args.axis bounds.high) c.requires.over.low c.in-Some.ensures.value c.in-Some.ensures.low c.in-Some.ensures.high
    c.loop-k.k (let below = c.loop-k-test.true in omega arith))

pub add_line-requires : goal.add_line-requires
add_line-requires g c =
    let floor = c.args.floor.now in
    let bounds = c.args.bounds.now in
    bounded_line (g.F.Floor.loops_of floor) (g.F.Floor.is_good floor) bounds.low bounds.high c.requires.bounds.within (g.met.F.Floor.good_inside floor) c.args.axis
    c.through.result.axis c.through.result.at c.through.result.low c.through.result.high c.through.ensures.axis c.through.ensures.low c.through.ensures.high

pub loop-k-preserved : goal.loop-k-preserved
loop-k-preserved g c =
    let floor = c.args.floor.now in
    let bounds = c.args.bounds.now in
    let ticks = c.in-Some.ticks in
    let on = first_on ticks.first c.args.over ticks.count (line_of c.args.axis bounds.low) (line_of c.args.axis bounds.high) c.requires.over.low c.in-Some.ensures.value c.in-Some.ensures.low c.in-Some.ensures.high in
    let there = line_on ticks.first c.args.over ticks.count (line_of c.args.axis bounds.low) (line_of c.args.axis bounds.high) c.requires.over.low c.in-Some.ensures.value c.in-Some.ensures.low c.in-Some.ensures.high
    c.loop-k.k (let below = c.loop-k-test.true in omega arith) in
    let at = c.tick-at.ensures.value ∙ ap (λ z. z +ℤ pos (c.loop-k.k * c.args.over)) (place_read ticks.first on) in
    lines_stepped (g.F.Floor.is_good floor) (g.F.Floor.is_way floor) (g.F.Floor.depth_of floor) c.args.over bounds.low bounds.high c.args.axis ticks.first c.args.self.now.chains.items c.args.self.now.has_more
    c.loop-k.k c.through.result.at c.loop-k.self.chains.items c.add_line.new.self.chains.items c.loop-k.self.has_more c.add_line.new.self.has_more
    (c.through.ensures.at ∙ value_read _ c.tick-at.result there at)
    (subst
    (λ axis. IsGrown (AreLineChains (g.F.Floor.is_good floor) (g.F.Floor.is_way floor) (g.F.Floor.depth_of floor) axis c.through.result.at) c.loop-k.self.chains.items c.loop-k.self.has_more c.add_line.new.self.chains.items
    c.add_line.new.self.has_more)
    c.through.ensures.axis c.in_ok-add_line.ensures)
    c.loop-k.invariant

pub returns : goal.returns
returns g c =
    let floor = c.args.floor.now in
    let bounds = c.args.bounds.now in
    let ticks = c.in-Some.ticks in
    let all : c.loop-k.k ≡ ticks.count = (let past = c.loop-k-test.false in let within = c.loop-k.auto.k-end in omega arith) in
    lines_ended (g.F.Floor.is_good floor) (g.F.Floor.is_way floor) (g.F.Floor.depth_of floor) c.args.over bounds.low bounds.high c.args.axis ticks.first c.args.self.now.chains.items c.args.self.now.has_more
    ticks.count c.loop-k.self.chains.items c.loop-k.self.has_more c.requires.over.low c.in-Some.ensures.value
    (subst
    (λ k. AreLinesKept (g.F.Floor.is_good floor) (g.F.Floor.is_way floor) (g.F.Floor.depth_of floor) c.args.over bounds.low bounds.high c.args.axis ticks.first k c.args.self.now.chains.items c.args.self.now.has_more
    c.loop-k.self.chains.items c.loop-k.self.has_more)
    all c.loop-k.invariant)
