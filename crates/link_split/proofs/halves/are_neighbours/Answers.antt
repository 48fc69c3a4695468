-- Answers the goals of `are_neighbours`.
use mir.Syntax.{w32}
use Rattle.std.specs.Prelude.{◌↔◌, IsTrue}
use Rattle.std.proofs.Common.{rules}
use Rattle.plane_exact.proofs.Stored.{read_is}
use Rattle.link_split.specs.Midway.{IsWithinOne}
use Rattle.link_split.proofs.Halfway.{within_same}
use Rattle.link_split.proofs.halves.are_neighbours.Goals as goal

pub returns-then-are_within_one : goal.returns-then-are_within_one
returns-then-are_within_one c =
    let across : IsWithinOne c.args.p.x c.args.q.x =
    (within_same _ _ _ _ _ (read_is w32 c.x.result _ (record { sfits = c.x.type_inv }) c.x.ensures.value)
    (read_is w32 c.x-2.result _ (record { sfits = c.x-2.type_inv }) c.x-2.ensures.value) c.if-are_within_one.ensures).0 (search rules)
    in
    let up : IsTrue c.are_within_one-then-are_within_one.result ↔ IsWithinOne c.args.p.y c.args.q.y =
    within_same _ _ _ _ _ (read_is w32 c.y.result _ (record { sfits = c.y.type_inv }) c.y.ensures.value)
    (read_is w32 c.y-then-are_within_one.result _ (record { sfits = c.y-then-are_within_one.type_inv }) c.y-then-are_within_one.ensures.value)
    c.are_within_one-then-are_within_one.ensures
    in
    ((λ yes. record { across = across; up = up.0 yes }), (λ near. up.1 near.up))
