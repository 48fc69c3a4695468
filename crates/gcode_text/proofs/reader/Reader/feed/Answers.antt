-- Answers the goals of `Reader::feed`.
use Rattle.std.proofs.lemmas.Result.{IfOk-weaker}
use Rattle.gcode_text.proofs.Collects.{StandsFor-more}
use Rattle.gcode_text.proofs.reader.Reader.feed.Goals as goal

pub returns-clause-grown : goal.returns-clause-grown
returns-clause-grown c =
    let old = c.self.inside.collected in
    let new = c.take_all-grown.new.self in
    rw (← c.self.view_is) (IfOk-weaker c.take_all-grown.result _ _ (λ _ continues bytes stands. StandsFor-more bytes c.args.piece.now old new c.self.inside.is_lost c.is_err-self-inside.result c.take_all-grown.ensures.units continues stands) c.take_all-grown.ensures.moves)
