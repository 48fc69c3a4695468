-- Answers the goals of `Scene::holds`.
use Rattle.std.specs.Prelude.{FitsSigned}
use Rattle.std.specs.Int.{w32, w128}
use Rattle.std.proofs.Common.{◌≡◌, ℤ, ap, refl, sym, arith, of_z, to_z, ◌∙◌}
use Rattle.std.proofs.lemmas.Int.{ints, to_z-of_z}
use Rattle.plane_exact.specs.Heights.{GridPlace, IsFineCoordinate}
use Rattle.engrave_model.specs.Removal.{from_tenths}
use Rattle.depth_rule.proofs.scene.Scene.holds.Goals as goal

-- a coordinate, through a narrow integer and a wide one
widened : (x r a : ℤ) → IsFineCoordinate x → FitsSigned w128 r → r ≡ to_z w32 (of_z w32 x) → x ≡ a → a ≡ to_z w128 (of_z w128 r)
widened x r a on fits from is =
    let low = on.low in
    let high = on.high in
    let narrow : to_z w32 (of_z w32 x) ≡ x = omega (arith, ints) in
    sym (to_z-of_z w128 r fits ∙ from ∙ narrow ∙ is)

pub returns : goal.returns
returns c =
    let s = c.spot.invariant in
    c.inside_at.ensures (from_tenths c.args.spot.at)
    (record {
      same_x = widened c.spot.inside.x c.from.result c.args.spot.at.x s.across (record { sfits = c.from.type_inv }) c.from.ensures (ap (λ (p : GridPlace). p.at.x) c.spot.view_is);
      same_y = widened c.spot.inside.y c.from-2.result c.args.spot.at.y s.up (record { sfits = c.from-2.type_inv }) c.from-2.ensures (ap (λ (p : GridPlace). p.at.y) c.spot.view_is);
      same_over = refl;
    })
