-- Answers the goals of `plain_words_are_accepted`.
use Rattle.job_words.proofs.Walks.{accepts_plain_words}
use Rattle.job_words.proofs.law.plain_words_are_accepted.Goals as goal

pub returns : goal.returns
returns c = λ options given command plain are. accepts_plain_words options plain given are command
