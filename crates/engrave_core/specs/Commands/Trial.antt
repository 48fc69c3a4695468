-- What is due for `trial`: what becomes of a field of simple shapes that is carved, read back, checked and reported on.
use Rattle.std.specs.Prelude.{◌≡◌, ◌⊎◌, ◌++◌, ℕ, List, Some, codes, decimal, length}
use Rattle.carve_plan.specs.Plan.{AskedPocket}
use Rattle.cleanup_pocket.specs.declared.axis.Way.TheVariants as way
use Rattle.engrave_model.specs.Drawing.{edges_of}
use Rattle.gcode_text.specs.declared.job.Job.{Job}
use Rattle.grid_num.specs.declared.units.Units.TheVariants.{Mm100}
use Rattle.plane_exact.specs.Nodes.{GridNode, joined}
use Rattle.plane_exact.specs.Plane.{GridPoint}
use Rattle.plane_exact.specs.Uncut.{UncutPoints}
use Rattle.tangent_disc.specs.Contacts.{AreContacts}
use Rattle.tangent_disc.specs.declared.contact.Contact.{Contact}
use Rattle.trial_field.specs.Field.{trial_loops}
use Rattle.engrave_core.specs.declared.commands.trial.Summary.{Summary}
use Rattle.engrave_core.specs.Programs.{IsProgramOf, IsRefusalOfProgram, IsUnprogrammed}
use Rattle.engrave_core.specs.declared.outcome.Outcome.{Outcome}
use Rattle.engrave_core.specs.declared.outcome.Outcome.TheVariants.{Done}

-- the job of a trial: a bit of 90 degrees, at most 5 mm in radius and 3 mm deep, and a stop at least every half millimetre
abbrev pub trial_job : Job
trial_job = record { units = Mm100; safe = 200; feed = 500; bit = record { sn = 1; sd = 1; rmax = 500 }; limit = 300; step = 50 }

-- its pocket
abbrev pub trial_pocket : AskedPocket
trial_pocket = Some (way.X, 40)

-- the distance of its report's points
abbrev pub trial_pitch : ℕ
trial_pitch = 20

-- the beginning of the first line: which field it is
abbrev pub field_text : Summary → List ℕ
field_text summary = codes "trial " ++ decimal summary.count ++ codes " loops " ++ decimal summary.loops ++ codes " "

-- the rest of it: its edges and contacts
abbrev pub edges_text : Summary → List ℕ
edges_text summary = codes "edges " ++ decimal summary.edges ++ codes " contacts " ++ decimal summary.contacts ++ codes "\n"

-- the second line: the plan
abbrev pub nodes_text : Summary → List ℕ
nodes_text summary = codes "nodes " ++ decimal summary.nodes ++ codes " chains " ++ decimal summary.chains ++ codes "\n"

-- the third: the moves that are called clear
abbrev pub moves_text : Summary → List ℕ
moves_text summary = codes "clear " ++ decimal summary.moves ++ codes " moves\n"

-- the fourth: what stays uncut
abbrev pub uncut_text : Summary → List ℕ
uncut_text summary = codes "uncut " ++ decimal summary.left ++ codes " of " ++ decimal summary.drawn ++ codes "\n"

-- the four lines
abbrev pub summary_text : Summary → List ℕ
summary_text summary = field_text summary ++ edges_text summary ++ nodes_text summary ++ moves_text summary ++ uncut_text summary

-- the numbers of a field and of its program
abbrev pub summary_of : (count : ℕ) → List (List GridPoint) → (contacts : ℕ) → (plan : List (List GridNode)) → (moves : ℕ) → UncutPoints → Summary
summary_of count loops contacts plan moves uncut = record {
  count = count;
  loops = length loops;
  edges = length (edges_of loops);
  contacts = contacts;
  nodes = length (joined plan);
  chains = length plan;
  moves = moves;
  left = uncut.left;
  drawn = uncut.drawing;
}

-- the numbers of the field and of its program, which is a good one: what is counted as clear is its moves, read back
pub record IsSummary (count : ℕ) (loops : List (List GridPoint)) (summary : Summary) : Type 0 where
  pub contacts : List Contact
  pub listed : AreContacts loops trial_job.step contacts
  pub plan : List (List GridNode)
  pub uncut : UncutPoints
  pub code : List ℕ
  pub program : IsProgramOf trial_job trial_pitch trial_pocket loops plan uncut code
  pub is : summary ≡ summary_of count loops (length contacts) plan (length program.good.moves) uncut

-- Done, with the lines of these numbers
pub record IsTried (count : ℕ) (loops : List (List GridPoint)) (outcome : Outcome) (text : List ℕ) : Type 0 where
  pub summary : Summary
  pub tried : IsSummary count loops summary
  pub done : outcome ≡ Done
  pub lines : text ≡ summary_text summary

-- the refusals of the field's plan and of its report
abbrev pub IsUntried : List (List GridPoint) → Outcome → List ℕ → Type 0
IsUntried loops outcome text = IsUnprogrammed trial_job trial_pitch trial_pocket loops outcome text

-- the numbers of the field of so many cells, or the refusal of its plan or of the report
abbrev pub IsDueOfTrial : (count : ℕ) → Outcome → List ℕ → Type 0
IsDueOfTrial count outcome text = IsTried count (trial_loops count) outcome text ⊎ IsUntried (trial_loops count) outcome text

-- these refusals: no file is read, and no drawing is refused
abbrev pub IsRefusalOfTrial : Outcome → Type 0
IsRefusalOfTrial outcome = IsRefusalOfProgram outcome
