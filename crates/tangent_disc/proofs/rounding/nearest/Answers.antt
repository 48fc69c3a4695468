-- Answers the goals of `nearest`.
use mir.Syntax.{w64}
use Rattle.std.proofs.Common.{pos, ◌+ℤ◌, ◌*ℤ◌, arith, sym}
use Rattle.std.proofs.lemmas.Int.{ints, to_z-of_z}
use Rattle.integer_algebra.proofs.Floors.{floor_same}
use Rattle.tangent_disc.proofs.Floors.{rounded_of}
use Rattle.tangent_disc.proofs.rounding.nearest.Goals as goal

pub returns : goal.returns
returns c =
    let low = c.requires.near.low in
    let high = c.requires.near.high in
    rounded_of c.args.z c.args.over _ (floor_same
    (omega (arith, ints)) (omega (arith, ints)) (sym (to_z-of_z w64 c.floor_div.result (record { sfits = c.floor_div.type_inv }))) c.floor_div.ensures)
