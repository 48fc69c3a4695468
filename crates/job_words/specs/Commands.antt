-- The commands.
use Rattle.std.specs.Prelude.{ℕ, if◌then◌else◌, Option, Some, None, List, [], ◌∷◌}
use Rattle.std.specs.Str.{bytes_eq}
use Rattle.job_words.specs.Command.{Command}
use Rattle.job_words.specs.Commands.Carve.{carve}
use Rattle.job_words.specs.Commands.Check.{check}
use Rattle.job_words.specs.Commands.Contacts.{contacts}
use Rattle.job_words.specs.Commands.Cover.{cover}
use Rattle.job_words.specs.Commands.Flat.{flat}
use Rattle.job_words.specs.Commands.Flatten.{flatten}
use Rattle.job_words.specs.Commands.Moves.{moves}
use Rattle.job_words.specs.Commands.Probe.{probe}
use Rattle.job_words.specs.Commands.Repair.{repair}
use Rattle.job_words.specs.Commands.Strokes.{strokes}
use Rattle.job_words.specs.Commands.Trial.{trial}
pub mod Carve
pub mod Check
pub mod Contacts
pub mod Cover
pub mod Flat
pub mod Flatten
pub mod Moves
pub mod Probe
pub mod Repair
pub mod Strokes
pub mod Trial

-- every command of the program
abbrev pub commands : List Command
commands = probe ∷ moves ∷ check ∷ contacts ∷ carve ∷ cover ∷ flatten ∷ trial ∷ strokes ∷ repair ∷ flat ∷ []

-- the first of the commands that has this name
abbrev pub named_among : List Command → List ℕ → Option Command
named_among [] word = None
named_among (command ∷ others) word = if bytes_eq word command.name then Some command else named_among others word
