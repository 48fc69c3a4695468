-- What each command's request is due, and which refusals it has: a line a command.
use Rattle.std.specs.Prelude.{ℕ, List}
use Rattle.job_words.specs.declared.request.Request.{Request}
use Rattle.job_words.specs.declared.request.Request.TheVariants as request
use Rattle.engrave_core.specs.Commands.Carve.{IsDueOfCarve, IsRefusalOfCarve, job_of, pocket_of}
use Rattle.engrave_core.specs.Commands.Check.{IsDueOfCheck, IsRefusalOfCheck}
use Rattle.engrave_core.specs.Commands.Contacts.{IsDueOfContacts, IsRefusalOfTouching}
use Rattle.engrave_core.specs.Commands.Cover.{IsDueOfCover, IsRefusalOfCover}
use Rattle.engrave_core.specs.Commands.Flat.{IsDueOfFlat, IsRefusalOfFlat, floor_job, lines_of}
use Rattle.engrave_core.specs.Commands.Flatten.{IsDueOfFlatten, IsRefusalOfFlatten}
use Rattle.engrave_core.specs.Commands.Moves.{IsDueOfMoves, IsRefusalOfMoves}
use Rattle.engrave_core.specs.Commands.Probe.{IsDueOfProbe, IsRefusalOfProbe}
use Rattle.engrave_core.specs.Commands.Repair.{IsDueOfRepair, IsRefusalOfRepair}
use Rattle.engrave_core.specs.Commands.Strokes.{IsDueOfStrokes, IsRefusalOfStrokes, stroke_job}
use Rattle.engrave_core.specs.Commands.Trial.{IsDueOfTrial, IsRefusalOfTrial}
use Rattle.engrave_core.specs.Given.{cone_of}
use Rattle.engrave_core.specs.Stored.{Files}
use Rattle.engrave_core.specs.declared.outcome.Outcome.{Outcome}
pub mod Carve
pub mod Check
pub mod Contacts
pub mod Cover
pub mod Flat
pub mod Flatten
pub mod Moves
pub mod Probe
pub mod Repair
pub mod Strokes
pub mod Trial

-- the outcome and the text that are due
abbrev pub IsDueOfRequest : Files → Request → Outcome → List ℕ → Type 0
IsDueOfRequest files (request.Probe shape at bit rmax limit) = IsDueOfProbe files shape at (cone_of bit rmax) limit
IsDueOfRequest files (request.Moves code units) = IsDueOfMoves files code units
IsDueOfRequest files (request.Check shape code bit rmax) = IsDueOfCheck files shape code (cone_of bit rmax)
IsDueOfRequest files (request.Contacts shape step rmax) = IsDueOfContacts files shape step rmax
IsDueOfRequest files (request.Carve shape bit rmax step limit safe feed pitch lines over) =
    IsDueOfCarve files shape (job_of shape.units (cone_of bit rmax) step limit safe feed) pitch (pocket_of lines over)
IsDueOfRequest files (request.Cover shape code bit rmax pitch) = IsDueOfCover files shape code (cone_of bit rmax) pitch
IsDueOfRequest files (request.Flat shape bit rmax radius limit over safe feed pitch lines) =
    IsDueOfFlat files shape (floor_job shape.units (cone_of bit rmax) limit safe feed) (record { radius = radius; over = over; way = lines_of lines }) pitch
IsDueOfRequest files (request.Flatten shape) = IsDueOfFlatten files shape
IsDueOfRequest files (request.Strokes shape bit rmax depth safe feed pitch) =
    IsDueOfStrokes files shape (stroke_job shape.units (cone_of bit rmax) depth safe feed) depth pitch
IsDueOfRequest files (request.Trial count) = IsDueOfTrial count
IsDueOfRequest files (request.Repair shape code bit rmax safe feed) = IsDueOfRepair files shape code (cone_of bit rmax) safe feed

-- the refusals that there are, whatever the files have
abbrev pub IsRefusalOfRequest : Request → Outcome → Type 0
IsRefusalOfRequest (request.Probe shape at bit rmax limit) = IsRefusalOfProbe shape
IsRefusalOfRequest (request.Moves code units) = IsRefusalOfMoves
IsRefusalOfRequest (request.Check shape code bit rmax) = IsRefusalOfCheck shape
IsRefusalOfRequest (request.Contacts shape step rmax) = IsRefusalOfTouching shape
IsRefusalOfRequest (request.Carve shape bit rmax step limit safe feed pitch lines over) = IsRefusalOfCarve shape
IsRefusalOfRequest (request.Cover shape code bit rmax pitch) = IsRefusalOfCover shape
IsRefusalOfRequest (request.Flat shape bit rmax radius limit over safe feed pitch lines) = IsRefusalOfFlat shape
IsRefusalOfRequest (request.Flatten shape) = IsRefusalOfFlatten shape
IsRefusalOfRequest (request.Strokes shape bit rmax depth safe feed pitch) = IsRefusalOfStrokes shape
IsRefusalOfRequest (request.Trial count) = IsRefusalOfTrial
IsRefusalOfRequest (request.Repair shape code bit rmax safe feed) = IsRefusalOfRepair shape
