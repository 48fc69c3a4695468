-- The law of plain words, for each of the commands.
use Rattle.std.proofs.Common.{List}
use Rattle.std.specs.Prelude.{All}
use Rattle.std.proofs.lemmas.List.Elements.{All-from_recursion, All-weaker}
use Rattle.job_words.specs.Commands.{commands}
use Rattle.job_words.specs.Plain.{GivenOption, IsAcceptedInForm, IsGiven, IsRequestOfGiven}
use Rattle.job_words.proofs.CarveLaw.{carve_law}
use Rattle.job_words.proofs.CheckLaw.{check_law}
use Rattle.job_words.proofs.ContactsLaw.{contacts_law}
use Rattle.job_words.proofs.CoverLaw.{cover_law}
use Rattle.job_words.proofs.FlatLaw.{flat_law}
use Rattle.job_words.proofs.FlattenLaw.{flatten_law}
use Rattle.job_words.proofs.MovesLaw.{moves_law}
use Rattle.job_words.proofs.ProbeLaw.{probe_law}
use Rattle.job_words.proofs.RepairLaw.{repair_law}
use Rattle.job_words.proofs.StrokesLaw.{strokes_law}
use Rattle.job_words.proofs.TrialLaw.{trial_law}
use Rattle.job_words.proofs.Requests.{IsLawful, accepted_in_form, request_of-given}

lawful : All IsLawful commands
lawful = All-from_recursion IsLawful commands (probe_law, (moves_law, (check_law, (contacts_law, (carve_law, (cover_law, (flatten_law, (trial_law, (strokes_law, (repair_law, (flat_law, tt)))))))))))

pub all_requests_of_given : All (λ command. (given : List GivenOption) → IsGiven command.options given → IsRequestOfGiven command given) commands
all_requests_of_given = All-weaker IsLawful _ request_of-given commands lawful

pub all_accepted_in_form : All (λ command. (given : List GivenOption) → IsGiven command.options given → IsAcceptedInForm command given) commands
all_accepted_in_form = All-weaker IsLawful _ accepted_in_form commands lawful
