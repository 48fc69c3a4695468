-- Answers the goals of `next_good`.
use mir.Syntax.{w32}
use Rattle.std.proofs.Common.{◌+ℤ◌, pos, arith, subst, to_z, of_z}
use Rattle.std.proofs.lemmas.Int.{ints, to_z-of_z}
use Rattle.cleanup_pocket.specs.Walk.{IsFirstGood, IsNoneGood}
use Rattle.cleanup_pocket.proofs.Ahead.{found, none_ended, none_stepped, passed_on}
use Rattle.cleanup_pocket.proofs.Places.{fewer}
use Rattle.cleanup_pocket.proofs.StoredPlaces.{at_most, more_than, step_read}
use Rattle.cleanup_pocket.proofs.walk.next_good.Goals as goal

pub returns-then-bad-eq0 : goal.returns-then-bad-eq0
returns-then-bad-eq0 g c =
    let floor = c.args.floor.now in
    let line = c.args.line.now in
    let place = to_z w32 c.loop-place.place-bits in
    subst (λ from. IsFirstGood (g.F.Floor.is_good floor line.axis line.at) from place) (to_z-of_z w32 c.args.from c.ranges.from)
    (found (g.F.Floor.is_good floor line.axis line.at) (to_z w32 (of_z w32 c.args.from)) place c.bad_ahead-bad.result c.if-bad-eq0.true
    c.bad_ahead-bad.ensures.ahead c.loop-place.invariant)

pub loop-place-smaller : goal.loop-place-smaller
loop-place-smaller g c =
    let line = c.args.line.now in
    let place = to_z w32 c.loop-place.place-bits in
    let within = at_most place line.high line.high_range c.loop-place-test.true in
    let on = passed_on (to_z w32 (of_z w32 c.args.from)) place line.high c.args.from (to_z-of_z w32 c.args.from c.ranges.from) c.requires.from line.high_range within c.loop-place.invariant.order in
    let is = (step_read place c.bad_ahead-bad.result on c.bad_ahead-bad.ensures.range).value in
    let some = c.if-bad-eq0.false in
    fewer place (to_z w32 (of_z w32 (place +ℤ to_z w32 c.bad_ahead-bad.result))) (line.high +ℤ pos 1) (omega (arith, ints)) (omega (arith, ints))

pub loop-place-preserved : goal.loop-place-preserved
loop-place-preserved g c =
    let floor = c.args.floor.now in
    let line = c.args.line.now in
    let place = to_z w32 c.loop-place.place-bits in
    let within = at_most place line.high line.high_range c.loop-place-test.true in
    let end = line.high_range.high in
    let on = passed_on (to_z w32 (of_z w32 c.args.from)) place line.high c.args.from (to_z-of_z w32 c.args.from c.ranges.from) c.requires.from line.high_range within c.loop-place.invariant.order in
    none_stepped (g.F.Floor.is_good floor line.axis line.at) (to_z w32 (of_z w32 c.args.from)) place _ c.bad_ahead-bad.result
    (step_read place c.bad_ahead-bad.result on c.bad_ahead-bad.ensures.range).value (omega (arith, ints)) c.bad_ahead-bad.ensures.range
    c.bad_ahead-bad.ensures.ahead c.loop-place.invariant

pub returns : goal.returns
returns g c =
    let floor = c.args.floor.now in
    let line = c.args.line.now in
    let place = to_z w32 c.loop-place.place-bits in
    let past = more_than place line.high line.high_range c.loop-place-test.false in
    subst (IsNoneGood (g.F.Floor.is_good floor line.axis line.at)) (to_z-of_z w32 c.args.from c.ranges.from)
    (none_ended (g.F.Floor.is_good floor line.axis line.at) (to_z w32 (of_z w32 c.args.from)) place line.high past
    (λ t good. let inner = c.requires.bounded t good in let to = inner.to in omega (arith, ints)) c.loop-place.invariant)
