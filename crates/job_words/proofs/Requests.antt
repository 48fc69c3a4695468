-- The request of a command's name and words `--name=value` for its options.
use Rattle.std.proofs.Common.{◌≡◌, ◌∙◌, cond, true, ap, ap₂, List, ◌∷◌, map, Some, None, is_some}
use Rattle.std.specs.List.{list_all}
use Rattle.std.specs.Prelude.{option_and_then}
use Rattle.job_words.specs.Command.{Command}
use Rattle.job_words.specs.Commands.{commands, named_among}
use Rattle.job_words.specs.Plain.{GivenOption, IsAcceptedInForm, IsGiven, IsNamed, IsRequestOfGiven, given_value, is_in_form, is_text_given, plain_word}
use Rattle.job_words.specs.Request.{command_request, request_of}
use Rattle.job_words.proofs.Walks.{accepts_plain_words}

-- what has to be shown of each command
pub record IsLawful (command : Command) : Type 0 where
  pub named : named_among commands command.name ≡ Some command
  pub plain : IsNamed command.options
  pub in_form : (given : List GivenOption) → list_all is_in_form given ≡ true → is_text_given given ≡ true → command.fits (given_value given) ≡ true
      → IsGiven command.options given → is_some (command.request (given_value given)) ≡ true

pub request_of-given : (command : Command) → IsLawful command → (given : List GivenOption) → IsGiven command.options given
    → IsRequestOfGiven command given
unfolding request_of command_request
request_of-given command law given are =
    let words = command.name ∷ map plain_word given in
    let plain = accepts_plain_words command.options law.plain given are command.name in
    ap (option_and_then (λ named. command_request named words)) law.named
    ∙ ap₂ (λ b value. cond b (command.request value) None) plain.accepted (λ i name. plain.values name i)

pub accepted_in_form : (command : Command) → IsLawful command → (given : List GivenOption) → IsGiven command.options given
    → IsAcceptedInForm command given
accepted_in_form command law given are in_form worded fits =
    ap is_some (request_of-given command law given are) ∙ law.in_form given in_form worded fits are
