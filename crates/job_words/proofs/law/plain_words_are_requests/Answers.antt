-- Answers the goals of `plain_words_are_requests`.
use Rattle.job_words.proofs.Laws.{all_accepted_in_form, all_requests_of_given}
use Rattle.job_words.proofs.law.plain_words_are_requests.Goals as goal

pub returns : goal.returns
returns c = record { values = all_requests_of_given; accepted = all_accepted_in_form }
