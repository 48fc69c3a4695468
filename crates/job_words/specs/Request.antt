-- What the words of a command ask for.
use Rattle.std.specs.Prelude.{ℕ, if◌then◌else◌, Option, None, List, [], ◌∷◌, option_and_then}
use Rattle.plane_exact.specs.Cone.{IsCone}
use Rattle.job_words.specs.Command.{Command}
use Rattle.job_words.specs.Commands.{commands, named_among}
use Rattle.job_words.specs.Commands.Carve.{IsCarveInRange}
use Rattle.job_words.specs.Commands.Contacts.{IsContactsInRange}
use Rattle.job_words.specs.Commands.Cover.{IsCoverInRange}
use Rattle.job_words.specs.Commands.Flat.{IsFlatInRange}
use Rattle.job_words.specs.Commands.Probe.{IsProbeInRange}
use Rattle.job_words.specs.Commands.Repair.{IsRepairInRange}
use Rattle.job_words.specs.Commands.Strokes.{IsStrokesInRange}
use Rattle.job_words.specs.Commands.Trial.{IsTrialInRange}
use Rattle.job_words.specs.Options.{is_accepted, value_in}
use Rattle.job_words.specs.Shape.{IsShapeInRange}
use Rattle.job_words.specs.declared.request.Request.{Request}
use Rattle.job_words.specs.declared.request.Request.TheVariants as request

-- the request of a command, for words of which the first is its name, where `clap` accepts them
unfoldable pub command_request : Command → List (List ℕ) → Option Request
command_request command words =
    if is_accepted command.options words then command.request (value_in command.options words) else None

-- the request of a command's words: its name, and then its options, as `clap` accepts them
unfoldable pub request_of : List (List ℕ) → Option Request
request_of [] = None
request_of (name ∷ options) =
    option_and_then (λ command. command_request command (name ∷ options)) (named_among commands name)

-- the numbers of a request are in their ranges
abbrev pub IsInRange : Request → Type 0
IsInRange (request.Probe shape at bit rmax limit) = IsShapeInRange shape × IsProbeInRange bit rmax limit
IsInRange (request.Moves code units) = Unit {0}
IsInRange (request.Check shape code bit rmax) = IsShapeInRange shape × IsCone bit.0 bit.1 rmax
IsInRange (request.Contacts shape step rmax) = IsShapeInRange shape × IsContactsInRange step rmax
IsInRange (request.Carve shape bit rmax step limit safe feed pitch lines over) = IsShapeInRange shape × IsCarveInRange bit rmax step limit safe feed pitch over
IsInRange (request.Cover shape code bit rmax pitch) = IsShapeInRange shape × IsCoverInRange bit rmax pitch
IsInRange (request.Flatten shape) = IsShapeInRange shape
IsInRange (request.Flat shape bit rmax radius limit over safe feed pitch lines) = IsShapeInRange shape × IsFlatInRange bit rmax radius limit over safe feed pitch lines
IsInRange (request.Strokes shape bit rmax depth safe feed pitch) = IsShapeInRange shape × IsStrokesInRange shape bit rmax depth safe feed pitch
IsInRange (request.Repair shape code bit rmax safe feed) = IsShapeInRange shape × IsRepairInRange bit rmax safe feed
IsInRange (request.Trial count) = IsTrialInRange count
