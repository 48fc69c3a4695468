-- Answers the goals of `grid_floor`.
use mir.Syntax.{w64}
use Rattle.std.proofs.Common.{◌≡◌, arith, refl, subst}
use Rattle.std.proofs.lemmas.Int.{ints, to_z-of_z}
use Rattle.plane_exact.proofs.Stored.{narrow, wide}
use Rattle.integer_algebra.specs.Floors.{IsFloor}
use Rattle.tangent_disc.proofs.Beyond.{floor_within}
use Rattle.integer_algebra.proofs.Floors.{floor_same}
use Rattle.tangent_disc.proofs.rounding.grid_floor.Goals as goal

floor : (c : goal.After-floor_div) → IsFloor c.args.z c.args.over c.floor_div.result
floor c = floor_same (to_z-of_z w64 c.args.z c.ranges.z) (to_z-of_z w64 c.args.over c.ranges.over) refl c.floor_div.ensures

pub overflow_cast-result : goal.overflow_cast-result
overflow_cast-result c =
    let within = floor_within c.args.z c.args.over c.floor_div.result c.requires.some c.requires.near (floor c) in
    let low = within.low in
    let high = within.high in
    omega (arith, ints)

pub returns-clause-floor : goal.returns-clause-floor
returns-clause-floor c =
    let within = floor_within c.args.z c.args.over c.floor_div.result c.requires.some c.requires.near (floor c) in
    let low = within.low in
    let high = within.high in
    let same : c.floor_div.result ≡ narrow (wide c.floor_div.result) = omega (arith, ints) in
    subst (IsFloor c.args.z c.args.over) same (floor c)

pub returns-clause-range : goal.returns-clause-range
returns-clause-range c =
    let within = floor_within c.args.z c.args.over c.floor_div.result c.requires.some c.requires.near (floor c) in
    let low = within.low in
    let high = within.high in
    record { low = omega (arith, ints); high = omega (arith, ints) }
