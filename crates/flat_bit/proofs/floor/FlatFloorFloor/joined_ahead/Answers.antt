-- Answers the goals of `joined_ahead`.
use mir.Syntax.{w32}
use Rattle.std.proofs.Common.{◌≤ℤ◌, ◌+ℤ◌, pos, arith, subst, sym, to_z, of_z}
use Rattle.std.proofs.lemmas.Int.{ints}
use Rattle.plane_exact.specs.Plane.{IsCoordinate}
use Rattle.plane_exact.proofs.Stored.{fits_up_to}
use Rattle.engrave_model.specs.Drawing.{edges_of}
use Rattle.cleanup_pocket.specs.Floors.{IsJoinedBy}
use Rattle.cleanup_pocket.specs.Walk.{AreJoinedFrom, IsBadAhead}
use Rattle.cleanup_pocket.proofs.Ahead.{inner_on}
use Rattle.cleanup_pocket.proofs.StoredPlaces.{next_read, place_read}
use Rattle.flat_bit.specs.Flat.{IsFlatGood, IsFlatWay}
use Rattle.flat_bit.proofs.FlatAhead.{next_bad, next_good}
use Rattle.flat_bit.proofs.floor.FlatFloorFloor.joined_ahead.Goals as goal

pub wide_ahead-wide-requires-clause-place : goal.wide_ahead-wide-requires-clause-place
wide_ahead-wide-requires-clause-place c =
    let line = c.args.line.now in
    let on = inner_on line.low line.high c.args.place line.low_range line.high_range (c.requires.bounded c.args.place c.requires.good) in
    subst IsCoordinate (sym (place_read c.args.place on)) on

pub wide_ahead-wide-requires-clause-within : goal.wide_ahead-wide-requires-clause-within
wide_ahead-wide-requires-clause-within c =
    let line = c.args.line.now in
    let inner = c.requires.bounded c.args.place c.requires.good in
    let on = inner_on line.low line.high c.args.place line.low_range line.high_range inner in
    let before = inner.to in
    subst (λ z. z ≤ℤ line.high) (sym (place_read c.args.place on)) (omega (arith, ints))

pub overflow_add-place : goal.overflow_add-place
overflow_add-place c =
    let line = c.args.line.now in
    let on = inner_on line.low line.high c.args.place line.low_range line.high_range (c.requires.bounded c.args.place c.requires.good) in
    let low = on.low in
    let high = on.high in
    let read = place_read c.args.place on in
    fits_up_to w32 65535 (to_z w32 (of_z w32 c.args.place) +ℤ pos 1) (omega arith) (record { low = omega (arith, ints); high = omega (arith, ints) })

pub bad_ahead-requires-clause-place : goal.bad_ahead-requires-clause-place
bad_ahead-requires-clause-place c =
    let line = c.args.line.now in
    let inner = c.requires.bounded c.args.place c.requires.good in
    let on = inner_on line.low line.high c.args.place line.low_range line.high_range inner in
    let low = on.low in
    let before = inner.to in
    let most = line.high_range.high in
    subst IsCoordinate (sym (next_read c.args.place line.high on line.high_range before)) (record { low = omega (arith, ints); high = omega (arith, ints) })

pub bad_ahead-requires-clause-within : goal.bad_ahead-requires-clause-within
bad_ahead-requires-clause-within c =
    let line = c.args.line.now in
    let inner = c.requires.bounded c.args.place c.requires.good in
    let on = inner_on line.low line.high c.args.place line.low_range line.high_range inner in
    let before = inner.to in
    subst (λ z. z ≤ℤ line.high) (sym (next_read c.args.place line.high on line.high_range before)) (omega (arith, ints))

pub returns-then-wide-gt0-clause-ahead : goal.returns-then-wide-gt0-clause-ahead
returns-then-wide-gt0-clause-ahead c =
    let floor = c.args.self.now in
    let edges = edges_of floor.scene.now in
    let line = c.args.line.now in
    let on = inner_on line.low line.high c.args.place line.low_range line.high_range (c.requires.bounded c.args.place c.requires.good) in
    let some = c.if-wide-gt0.true in
    record {
      joined = subst
          (λ z. AreJoinedFrom (IsJoinedBy (IsFlatGood edges floor.bit.now floor.limit floor.radius) (IsFlatWay edges floor.bit.now floor.limit floor.radius) line.axis line.at) z c.wide_ahead-wide.result)
          (place_read c.args.place on) c.wide_ahead-wide.ensures.joined;
      apart = λ none. absurd (omega arith);
    }

pub returns-then-bad_ahead-eq0-clause-ahead : goal.returns-then-bad_ahead-eq0-clause-ahead
returns-then-bad_ahead-eq0-clause-ahead c =
    let floor = c.args.self.now in
    let line = c.args.line.now in
    let inner = c.requires.bounded c.args.place c.requires.good in
    let on = inner_on line.low line.high c.args.place line.low_range line.high_range inner in
    next_good floor.scene.now floor.bit.now floor.limit floor.radius line.axis line.at floor.over.low floor.radius_range c.args.place c.bad_ahead.result
    (subst (λ z. IsBadAhead (IsFlatGood (edges_of floor.scene.now) floor.bit.now floor.limit floor.radius line.axis line.at) z c.bad_ahead.result)
    (next_read c.args.place line.high on line.high_range inner.to) c.bad_ahead.ensures.ahead)
    c.requires.good c.if-bad_ahead-eq0.true

pub returns-else-bad_ahead-eq0-clause-ahead : goal.returns-else-bad_ahead-eq0-clause-ahead
returns-else-bad_ahead-eq0-clause-ahead c =
    let floor = c.args.self.now in
    let line = c.args.line.now in
    let inner = c.requires.bounded c.args.place c.requires.good in
    let on = inner_on line.low line.high c.args.place line.low_range line.high_range inner in
    let some = c.if-bad_ahead-eq0.false in
    next_bad floor.scene.now floor.bit.now floor.limit floor.radius line.axis line.at floor.over.low floor.radius_range c.args.place c.bad_ahead.result
    (subst (λ z. IsBadAhead (IsFlatGood (edges_of floor.scene.now) floor.bit.now floor.limit floor.radius line.axis line.at) z c.bad_ahead.result)
    (next_read c.args.place line.high on line.high_range inner.to) c.bad_ahead.ensures.ahead)
    (omega arith)
