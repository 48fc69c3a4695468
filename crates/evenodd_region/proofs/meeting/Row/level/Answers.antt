-- Answers the goals of `Row::level`.
use mir.Syntax.{w64}
use Rattle.std.specs.Int.{int_max, int_min}
use Rattle.std.proofs.Common.{ap₂, refl, ◌∙◌}
use Rattle.plane_exact.proofs.Stored.{read_is}
use Rattle.evenodd_region.proofs.RowMeets.{level_meets}
use Rattle.evenodd_region.proofs.meeting.Row.level.Goals as goal

pub returns : goal.returns
returns c =
    let to_a = read_is w64 _ _ (record { sfits = c.way-to_a.type_inv }) c.way-to_a.ensures in
    let to_b = read_is w64 _ _ (record { sfits = c.way-to_b.type_inv }) c.way-to_b.ensures in
    level_meets c.args.self.now (record { a = c.args.a; b = c.args.b }) _ c.requires.level c.requires.row
    (read_is w64 _ _ (record { sfits = c.min.type_inv }) (c.min.ensures.value ∙ ap₂ int_min to_a to_b))
    (read_is w64 _ _ (record { sfits = c.max.type_inv }) (c.max.ensures.value ∙ ap₂ int_max to_a to_b))
    c.from.ensures refl
