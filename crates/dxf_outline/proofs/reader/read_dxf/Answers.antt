-- Answers the goals of `read_dxf`.
use Rattle.dxf_outline.specs.State.{drawn_of}
use Rattle.dxf_outline.proofs.Few.{drawn_few}
use Rattle.dxf_outline.proofs.reader.read_dxf.Goals as goal

pub returns-clause-few : goal.returns-clause-few
returns-clause-few c = drawn_few drawn_of c.walk.result _ _ _ c.walk.ensures.outline
