-- Answers the goals of `point_halfway`.
use mir.Syntax.{w32, w64}
use Rattle.std.proofs.Common.{ap, ◌∙◌}
use Rattle.std.proofs.lemmas.Int.{to_z-of_z}
use Rattle.plane_exact.proofs.Stored.{read_is}
use Rattle.link_split.proofs.Halfway.{half_of_same}
use Rattle.link_split.proofs.halves.point_halfway.Goals as goal

pub returns-clause-across : goal.returns-clause-across
returns-clause-across c =
    half_of_same _ _ c.half.result _ _ _ (read_is w32 c.x.result _ (record { sfits = c.x.type_inv }) c.x.ensures.value)
    (read_is w32 c.x-2.result _ (record { sfits = c.x-2.type_inv }) c.x-2.ensures.value)
    (ap (λ p. p.x) c.in-Some.ensures.value ∙ to_z-of_z w64 c.half.result (record { sfits = c.half.type_inv })) c.half.ensures.value

pub returns-clause-up : goal.returns-clause-up
returns-clause-up c =
    half_of_same _ _ c.half-2.result _ _ _ (read_is w32 c.y.result _ (record { sfits = c.y.type_inv }) c.y.ensures.value)
    (read_is w32 c.y-2.result _ (record { sfits = c.y-2.type_inv }) c.y-2.ensures.value)
    (ap (λ p. p.y) c.in-Some.ensures.value ∙ to_z-of_z w64 c.half-2.result (record { sfits = c.half-2.type_inv })) c.half-2.ensures.value
