-- Answers the goals of `read_pair`.
use Rattle.std.proofs.Common.{ap, sym, ◌∙◌, ◌∷◌, SFits, w32, rules}
use Rattle.std.proofs.lemmas.Int.{to_z-of_z}
use Rattle.dxf_outline.specs.Pairs.{pairs_from}
use Rattle.dxf_outline.proofs.Streams.{pairs_from-Next}
use Rattle.dxf_outline.proofs.pairs.read_pair.Goals as goal

pub returns-else-is-clause-pair : goal.returns-else-is-clause-pair
returns-else-is-clause-pair c =
    let lines = c.in-Some.ensures in
    let others = c.in-Some-next.ensures in
    let fits : SFits w32 c.in-Some-read_code.code = search rules in
    let same = to_z-of_z w32 c.in-Some-read_code.code fits in
    let goes_on = rw same at (sym c.is.ensures ∙ c.if-is.false) in
    let found = pairs_from-Next c.args.at c.in-Some.code.now c.in-Some-next.value.now c.next-2.new.self c.in-Some-read_code.code (sym c.in-Some-read_code.ensures) goes_on in
    ap (pairs_from c.args.at) (lines ∙ ap (λ others. c.in-Some.code.now ∷ others) others) ∙ rw same found
