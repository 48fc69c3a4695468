-- Answers the goals of `first_word`.
use Rattle.gcode_text.proofs.Cutting.{line_words_first}
use Rattle.gcode_text.proofs.words.first_word.Goals as goal

pub returns-clause-words : goal.returns-clause-words
returns-clause-words c = line_words_first c.args.text.now c.number_len-end.result c.in-len1-up.len_at_least c.number_len-end.ensures.value
