-- What is due for the words of a command and the stored files: the outcome, and the text that is written.
use Rattle.std.specs.Prelude.{◌≡◌, ℕ, Option, Some, None, List, is_some, IsTrue}
use Rattle.job_words.specs.Request.{request_of}
use Rattle.job_words.specs.declared.request.DrawingWords.{DrawingWords}
use Rattle.job_words.specs.declared.request.PocketWord.{PocketWord}
use Rattle.job_words.specs.declared.request.Request.{Request}
use Rattle.job_words.specs.declared.request.Request.TheVariants as request
use Rattle.engrave_core.specs.Commands.{IsDueOfRequest, IsRefusalOfRequest}
use Rattle.engrave_core.specs.Commands.Carve.{StoresWellCarved, job_of}
use Rattle.engrave_core.specs.Commands.Check.{IsTrueOfCheck, StoresSafeCode}
use Rattle.engrave_core.specs.Commands.Cover.{StoresCovered}
use Rattle.engrave_core.specs.Commands.Flat.{StoresMilled, floor_job}
use Rattle.engrave_core.specs.Commands.Repair.{StoresRepaired}
use Rattle.engrave_core.specs.Commands.Strokes.{StoresEngraved, stroke_job}
use Rattle.engrave_core.specs.Given.{Refuses, cone_of}
use Rattle.engrave_core.specs.Stored.{Files}
use Rattle.engrave_core.specs.declared.outcome.Outcome.{Outcome}
use Rattle.engrave_core.specs.declared.outcome.Outcome.TheVariants as outcome
use Rattle.engrave_core.specs.declared.refusal.Refusal.TheVariants.{Usage}

-- the words are a command of the program
abbrev pub IsAccepted : List (List ℕ) → Type 0
IsAccepted words = IsTrue (is_some (request_of words))

-- the words make no request, or one that is about no file
abbrev pub AsksForNoFile : Option Request → Type 0
AsksForNoFile None = Unit {0}
AsksForNoFile (Some (request.Trial count)) = Unit {0}
AsksForNoFile (Some asked) = ⊥

-- what is due for the request, or the usage line where the words make none
abbrev pub IsDueOf : Files → Option Request → Outcome → List ℕ → Type 0
IsDueOf files None outcome text = Refuses Usage outcome text
IsDueOf files (Some asked) outcome text = IsDueOfRequest files asked outcome text

-- the outcome and the text are due for the words and the stored files
abbrev pub IsDue : List (List ℕ) → Files → Outcome → List ℕ → Type 0
IsDue words files outcome text = IsDueOf files (request_of words) outcome text

-- the refusals of words, by the request that they make, if they are accepted
abbrev pub IsRefusalOfWords : Option Request → Outcome → Type 0
IsRefusalOfWords None outcome.Usage = Unit {0}
IsRefusalOfWords None outcome.Memory = Unit {0}
IsRefusalOfWords None other = ⊥
IsRefusalOfWords (Some asked) outcome = IsRefusalOfRequest asked outcome

-- the answers that there are to words, whatever the files have and whatever fails
abbrev pub IsAnswer : Option Request → Outcome → Type 0
IsAnswer (Some asked) outcome.Done = Unit {0}
IsAnswer asked outcome.WriteFault = Unit {0}
IsAnswer asked outcome = IsRefusalOfWords asked outcome

-- what Done says where the request is a check: of the stored G-code program
abbrev pub IsSafeRun : Files → Option Request → Type 0
IsSafeRun files asked =
    (shape : DrawingWords) (code : List ℕ) (bit : ℕ × ℕ) (rmax : ℕ)
    → asked ≡ Some (request.Check shape code bit rmax) → StoresSafeCode files shape code (cone_of bit rmax)

-- what the outcome says there: a yes, that the program is fit, and a no, that it isn't, and which line harms
abbrev pub IsTrueRun : Files → Option Request → Outcome → Type 0
IsTrueRun files asked outcome =
    (shape : DrawingWords) (code : List ℕ) (bit : ℕ × ℕ) (rmax : ℕ)
    → asked ≡ Some (request.Check shape code bit rmax) → IsTrueOfCheck files shape code (cone_of bit rmax) outcome

-- what is known of the text that is written with Done where the request is to carve
abbrev pub IsGoodText : Files → Option Request → List ℕ → Type 0
IsGoodText files asked text =
    (shape : DrawingWords) (bit : ℕ × ℕ) (rmax step limit safe feed pitch : ℕ) (lines : PocketWord) (over : ℕ)
    → asked ≡ Some (request.Carve shape bit rmax step limit safe feed pitch lines over)
    → StoresWellCarved files shape (job_of shape.units (cone_of bit rmax) step limit safe feed) pitch text

-- what is known of the text that is written with Done where the request is to engrave strokes
abbrev pub IsTrueEngraving : Files → Option Request → List ℕ → Type 0
IsTrueEngraving files asked text =
    (shape : DrawingWords) (bit : ℕ × ℕ) (rmax depth safe feed pitch : ℕ)
    → asked ≡ Some (request.Strokes shape bit rmax depth safe feed pitch)
    → StoresEngraved files shape (stroke_job shape.units (cone_of bit rmax) depth safe feed) depth pitch text

-- what is known of the text that is written with Done where the request is to mill a floor
abbrev pub IsTrueMilling : Files → Option Request → List ℕ → Type 0
IsTrueMilling files asked text =
    (shape : DrawingWords) (bit : ℕ × ℕ) (rmax radius limit over safe feed pitch : ℕ) (lines : PocketWord)
    → asked ≡ Some (request.Flat shape bit rmax radius limit over safe feed pitch lines)
    → StoresMilled files shape (floor_job shape.units (cone_of bit rmax) limit safe feed) radius pitch text

-- what is known of the text that is written with Done where the request is to cover: it is the report on the stored program
abbrev pub IsTrueReport : Files → Option Request → List ℕ → Type 0
IsTrueReport files asked text =
    (shape : DrawingWords) (code : List ℕ) (bit : ℕ × ℕ) (rmax pitch : ℕ)
    → asked ≡ Some (request.Cover shape code bit rmax pitch) → StoresCovered files shape code (cone_of bit rmax) pitch text

-- what is known of the text that is written with Done where the request is to repair: it is a good repair of the stored program
abbrev pub IsGoodRepairRun : Files → Option Request → List ℕ → Type 0
IsGoodRepairRun files asked text =
    (shape : DrawingWords) (code : List ℕ) (bit : ℕ × ℕ) (rmax safe feed : ℕ)
    → asked ≡ Some (request.Repair shape code bit rmax safe feed) → StoresRepaired files shape code (cone_of bit rmax) safe feed text
