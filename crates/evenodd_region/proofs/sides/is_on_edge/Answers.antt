-- Answers the goals of `is_on_edge`.
use Rattle.std.proofs.Common.{eqb-true, refl}
use Rattle.plane_exact.proofs.Wide.{held, tested}
use Rattle.evenodd_region.specs.Ratios.{rational_of}
use Rattle.evenodd_region.proofs.Reach.{read_zero, zero_read}
use Rattle.evenodd_region.proofs.Scaled.{on_edge, on_its_line, between_its_ends}
use Rattle.evenodd_region.proofs.sides.is_on_edge.Goals as goal

pub returns-then-turn-eq0 : goal.returns-then-turn-eq0
returns-then-turn-eq0 c =
    let w = rational_of c.args.p.at in
    let level = read_zero _ _ (record { sfits = c.turn.type_inv }) c.turn.ensures c.if-turn-eq0.true in
    let test = tested _ _ _ _ (held _ _ (record { sfits = c.facing.type_inv }) c.facing.ensures) refl in (
      (λ t. on_edge w c.args.e.a c.args.e.b level (test.0 t)),
      (λ on. test.1 (between_its_ends w c.args.e.a c.args.e.b on)),
    )

pub returns-else-turn-eq0 : goal.returns-else-turn-eq0
returns-else-turn-eq0 c = (
  (λ t. absurd (c.if-turn-eq0.false (eqb-true _ _ t))),
  (λ on. absurd (c.if-turn-eq0.false (zero_read _ _ c.turn.ensures (on_its_line (rational_of c.args.p.at) c.args.e.a c.args.e.b on)))),
)
