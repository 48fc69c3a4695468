-- Answers the goals of `match_words`.
use Rattle.std.proofs.Common.{◌++◌, map, string_bytes}
use Rattle.job_words.specs.Options.{row_of}
use Rattle.job_words.proofs.Accepting.{accepted_by, refused_by, values_by}
use Rattle.job_words.proofs.options.match_words.Goals as goal

pub returns-in-Ok-clause-accepted : goal.returns-in-Ok-clause-accepted
returns-in-Ok-clause-accepted c =
    accepted_by _ (map row_of c.args.own.now ++ map row_of c.args.of_drawing.now) (map string_bytes c.args.words.now) c.in_ok-command.ensures c.in-Ok.ensures.kinds

pub returns-in-Ok-clause-values : goal.returns-in-Ok-clause-values
returns-in-Ok-clause-values c =
    values_by _ (map row_of c.args.own.now ++ map row_of c.args.of_drawing.now) (map string_bytes c.args.words.now) c.in_ok-command.ensures c.in-Ok.matches c.in-Ok.ensures.matches

pub returns-in-Err-clause-usage : goal.returns-in-Err-clause-usage
returns-in-Err-clause-usage c = λ usage.
    refused_by _ (map row_of c.args.own.now ++ map row_of c.args.of_drawing.now) (map string_bytes c.args.words.now) c.in_ok-command.ensures c.in-Err.error
    (c.words_fault.ensures (cc)) c.in-Err.ensures.kinds
