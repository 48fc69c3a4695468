-- What the program of a plan is worth: it is clear and safe, and it reaches each contact's node.
use Rattle.std.specs.Prelude.{◌≡◌, ◌≤◌, ℕ, List, All, Any}
use Rattle.plane_exact.specs.Cone.{Cone}
use Rattle.plane_exact.specs.Nodes.{GridNode, node_place}
use Rattle.plane_exact.specs.Plane.{GridPoint}
use Rattle.plane_exact.specs.declared.moves.LineMove.{LineMove}
use Rattle.engrave_model.specs.Drawing.{edges_of}
use Rattle.engrave_model.specs.Removal.{IsSafeCode}
use Rattle.gcode_text.specs.Path.{chain_moves}
use Rattle.gcode_text.specs.declared.job.Job.{Job}
use Rattle.gouge_checker.specs.Verdict.{IsVerdict}
use Rattle.gouge_checker.specs.declared.verdict.Verdict.TheVariants.{Clear}
use Rattle.tangent_disc.specs.Contacts.{AreContacts}
use Rattle.tangent_disc.specs.declared.contact.Contact.{Contact}
use Rattle.carve_plan.specs.Plan.{AskedPocket, IsPlan}
use Rattle.carve_plan.specs.Stops.{IsContactNode}

-- some move ends at the contact's node
pub record IsReached (loops : List (List GridPoint)) (cone : Cone) (limit : ℕ) (moves : List LineMove) (c : Contact) : Type 0 where
  pub node : GridNode
  pub is : IsContactNode loops cone limit c node
  pub ends : Any (λ move. move.mv.to ≡ node_place node) moves

-- at each contact of the drawing some move goes as deep as fits at the centre of its greatest disc
pub record ReachesContacts (loops : List (List GridPoint)) (cone : Cone) (limit step : ℕ) (moves : List LineMove) : Type 0 where
  pub contacts : List Contact
  pub listed : AreContacts loops step contacts
  pub each : All (IsReached loops cone limit moves) contacts

-- the moves are called clear, no moment of any removes a point outside the drawing, and each contact is reached
pub record CarvesWell (loops : List (List GridPoint)) (cone : Cone) (limit step : ℕ) (moves : List LineMove) : Type 0 where
  pub clear : IsVerdict (edges_of loops) cone moves Clear
  pub safe : IsSafeCode (edges_of loops) cone moves
  pub reaches : ReachesContacts loops cone limit step moves

-- the moves of a plan carve well, for a bit of some width, whatever the safe height
abbrev pub PlanLaw : Type 0
PlanLaw =
    (loops : List (List GridPoint)) (cone : Cone) (limit step : ℕ) (asked : AskedPocket) (job : Job) (plan : List (List GridNode)) → 1 ≤ cone.sn
    → IsPlan loops cone limit step asked plan → CarvesWell loops cone limit step (chain_moves job plan)
