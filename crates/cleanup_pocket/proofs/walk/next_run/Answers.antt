-- Answers the goals of `next_run`.
use mir.Syntax.{w32}
use Rattle.std.proofs.Common.{FitsSigned, of_z, rules, subst, sym, to_z}
use Rattle.std.proofs.lemmas.Int.{to_z-of_z}
use Rattle.cleanup_pocket.specs.Floors.{IsJoinedBy}
use Rattle.cleanup_pocket.specs.Walk.{IsFirstGood, IsLastJoined, IsRunFrom}
use Rattle.cleanup_pocket.proofs.Ahead.{inner_on}
use Rattle.cleanup_pocket.proofs.StoredPlaces.{place_read}
use Rattle.cleanup_pocket.proofs.walk.next_run.Goals as goal

pub returns : goal.returns
returns g c =
    let floor = c.args.floor.now in
    let line = c.args.line.now in
    let first = c.in_ok-first.first in
    let last = c.last_joined-last.result in
    let fits : FitsSigned w32 c.last_joined-last.result = search rules in
    let begins = subst (λ from. IsFirstGood (g.F.Floor.is_good floor line.axis line.at) from first) (place_read c.args.from c.requires.from) c.in_ok-first.ensures in
    let read = place_read first (inner_on line.low line.high first line.low_range line.high_range (c.requires.bounded first begins.good)) in
    subst
    (λ z. IsRunFrom (g.F.Floor.is_good floor line.axis line.at) (IsJoinedBy (g.F.Floor.is_good floor) (g.F.Floor.is_way floor) line.axis line.at) c.args.from
    (record { first = z; last = to_z w32 (of_z w32 last) })) (sym read)
    (subst
    (λ z. IsRunFrom (g.F.Floor.is_good floor line.axis line.at) (IsJoinedBy (g.F.Floor.is_good floor) (g.F.Floor.is_way floor) line.axis line.at) c.args.from
    (record { first = first; last = z })) (sym (to_z-of_z w32 last fits))
    (record {
      begins = begins;
      ends = subst (λ z. IsLastJoined (IsJoinedBy (g.F.Floor.is_good floor) (g.F.Floor.is_way floor) line.axis line.at) z last) read c.last_joined-last.ensures;
    }))
