-- Answers the goals of `Slots::put`.
use Rattle.std.proofs.Common.{ap, sym, ◌∙◌, SFits, w32, rules}
use Rattle.std.proofs.lemmas.Int.{to_z-of_z}
use Rattle.grid_num.specs.Units.{per_unit_of}
use Rattle.dxf_outline.specs.Kept.{with_reading}
use Rattle.dxf_outline.specs.State.{pair_of}
use Rattle.dxf_outline.specs.Values.{reading}
use Rattle.dxf_outline.proofs.Kept.{slots_of-push}
use Rattle.dxf_outline.proofs.slots.Slots.put.Goals as goal

pub returns-then-names : goal.returns-then-names
returns-then-names c fields is =
    let pair = pair_of c.args.entry in
    let fits : SFits w32 c.args.entry.code = search rules in
    let same = to_z-of_z w32 c.args.entry.code fits in
    let named = rw same at (sym c.names.ensures ∙ c.if-names.true) in
    let its_reading = rw same at c.read_value-reading.ensures in
    let more = slots_of-push c.args.shape (per_unit_of c.args.units) fields pair named in
    c.with.ensures ∙ ap (with_reading c.args.self.now pair) its_reading ∙ ap (λ slots. with_reading slots pair (reading (per_unit_of c.args.units) pair.code pair.value)) is ∙ sym more
