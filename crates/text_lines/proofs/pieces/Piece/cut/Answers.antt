-- Answers the goals of `Piece::cut`.
use Rattle.std.proofs.Common.{arith, sym, ◌∙◌}
use Rattle.std.proofs.lemmas.Grind.{common_steps}
use Rattle.text_lines.proofs.Cuts.{pieces_cut, pieces_whole}
use Rattle.text_lines.proofs.pieces.Piece.cut.Goals as goal

pub returns-in_default : goal.returns-in_default
returns-in_default c =
    pieces_whole _ c.args.self.at c.args.self.bytes.now (sym c.first_in.ensures.value ∙ c.in_default.is)

pub returns : goal.returns
returns c =
    let cut = pieces_cut _ c.args.self.at c.args.self.bytes.now c.in-Some.end (sym c.first_in.ensures.value ∙ c.in-Some.is) in
    grind (arith, common_steps, cut)
