-- Answers the goals of `floor_div`.
use mir.Syntax.{w64}
use Rattle.std.proofs.Common.{pos, ◌≤ℤ◌, subst, sym, ◌∙◌}
use Rattle.std.proofs.lemmas.Int.{to_z-of_z}
use Rattle.integer_algebra.proofs.Floors.{floor_of, floor_same}
use Rattle.plane_exact.proofs.floor.floor_div.Goals as goal

pub returns : goal.returns
returns c =
    let z = to_z-of_z w64 c.args.z c.ranges.z in
    let over = to_z-of_z w64 c.args.over c.ranges.over in
    let result = to_z-of_z w64 c.div_euclid.result (record { sfits = c.div_euclid.type_inv }) in
    floor_same z over (sym (result ∙ c.div_euclid.ensures)) (floor_of _ _ (subst (λ o. pos 1 ≤ℤ o) (sym over) c.requires))
