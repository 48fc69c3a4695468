-- Answers the goal of `key_law`.
use Rattle.cxf_font.proofs.Encoded.{key_of-encoded}
use Rattle.cxf_font.proofs.law.key_law.Goals as goal

pub returns : goal.returns
returns c = key_of-encoded
