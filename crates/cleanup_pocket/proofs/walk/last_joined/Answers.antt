-- Answers the goals of `last_joined`.
use mir.Syntax.{w32}
use Rattle.std.proofs.Common.{◌+ℤ◌, arith, subst, to_z, of_z}
use Rattle.std.proofs.lemmas.Int.{ints, to_z-of_z}
use Rattle.cleanup_pocket.specs.Floors.{IsJoinedBy}
use Rattle.cleanup_pocket.specs.Walk.{IsLastJoined}
use Rattle.cleanup_pocket.proofs.Ahead.{inner_on, joined_ended, joined_stepped}
use Rattle.cleanup_pocket.proofs.Places.{fewer}
use Rattle.cleanup_pocket.proofs.StoredPlaces.{step_read}
use Rattle.cleanup_pocket.proofs.walk.last_joined.Goals as goal

pub returns-then-ahead-eq0 : goal.returns-then-ahead-eq0
returns-then-ahead-eq0 g c =
    let floor = c.args.floor.now in
    let line = c.args.line.now in
    subst (λ first. IsLastJoined (IsJoinedBy (g.F.Floor.is_good floor) (g.F.Floor.is_way floor) line.axis line.at) first (to_z w32 c.loop-first.place-bits)) (to_z-of_z w32 c.args.first c.ranges.first)
    (joined_ended (g.F.Floor.is_good floor line.axis line.at) (to_z w32 (of_z w32 c.args.first))
    (IsJoinedBy (g.F.Floor.is_good floor) (g.F.Floor.is_way floor) line.axis line.at) (λ t joined. joined.next)
    (to_z w32 c.loop-first.place-bits) c.joined_ahead-ahead.result c.if-ahead-eq0.true c.joined_ahead-ahead.ensures.ahead c.loop-first.invariant)

pub overflow_add-place : goal.overflow_add-place
overflow_add-place g c =
    let line = c.args.line.now in
    let place = to_z w32 c.loop-first.place-bits in
    let on = inner_on line.low line.high place line.low_range line.high_range (c.requires.bounded place c.loop-first.invariant.good) in
    (step_read place c.joined_ahead-ahead.result on c.joined_ahead-ahead.ensures.range).fits

pub loop-first-smaller : goal.loop-first-smaller
loop-first-smaller g c =
    let line = c.args.line.now in
    let place = to_z w32 c.loop-first.place-bits in
    let inner = c.requires.bounded place c.loop-first.invariant.good in
    let on = inner_on line.low line.high place line.low_range line.high_range inner in
    let step = step_read place c.joined_ahead-ahead.result on c.joined_ahead-ahead.ensures.range in
    let is = step.value in
    let some = c.if-ahead-eq0.false in
    fewer place (to_z w32 (of_z w32 (place +ℤ to_z w32 c.joined_ahead-ahead.result))) line.high (omega (arith, ints)) inner.to

pub loop-first-preserved : goal.loop-first-preserved
loop-first-preserved g c =
    let floor = c.args.floor.now in
    let line = c.args.line.now in
    let place = to_z w32 c.loop-first.place-bits in
    let on = inner_on line.low line.high place line.low_range line.high_range (c.requires.bounded place c.loop-first.invariant.good) in
    let some = c.if-ahead-eq0.false in
    joined_stepped (g.F.Floor.is_good floor line.axis line.at) _
    (IsJoinedBy (g.F.Floor.is_good floor) (g.F.Floor.is_way floor) line.axis line.at) (λ t joined. joined.next)
    place _ c.joined_ahead-ahead.result (step_read place c.joined_ahead-ahead.result on c.joined_ahead-ahead.ensures.range).value (omega arith)
    c.joined_ahead-ahead.ensures.ahead c.loop-first.invariant
