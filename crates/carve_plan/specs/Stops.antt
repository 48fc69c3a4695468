-- The stops of a carved outline: at each contact the node at the centre of its disc, as deep as fits there.
use Rattle.std.specs.Prelude.{◌≡◌, ◌≢◌, ℕ, List, [], ◌∷◌, ◌++◌, map, All}
use Rattle.std.specs.List.{AllZip}
use Rattle.plane_exact.specs.Cone.{Cone}
use Rattle.plane_exact.specs.Nodes.{GridNode}
use Rattle.plane_exact.specs.Plane.{GridPoint}
use Rattle.engrave_model.specs.Drawing.{edges_of}
use Rattle.link_split.specs.Midway.{IsDeepest}
use Rattle.tangent_disc.specs.Contacts.{AreContacts}
use Rattle.tangent_disc.specs.Tangent.{IsTangentOf}
use Rattle.tangent_disc.specs.declared.contact.Contact.{Contact}
use Rattle.tangent_disc.specs.declared.disc.Disc.{Disc}
use Rattle.carve_plan.specs.declared.stop.Stop.{Stop}

-- the node of a contact: at the centre of its greatest disc, and as deep as fits there
pub record IsContactNode (loops : List (List GridPoint)) (cone : Cone) (limit : ℕ) (c : Contact) (node : GridNode) : Type 0 where
  pub disc : Disc
  pub tangent : IsTangentOf loops c cone.rmax disc
  pub at : node.at ≡ disc.centre
  pub deepest : IsDeepest (edges_of loops) cone limit node

-- the stop at a contact: its loop, and its node
pub record IsStop (loops : List (List GridPoint)) (cone : Cone) (limit : ℕ) (c : Contact) (stop : Stop) : Type 0 where
  pub loop : stop.loop_no ≡ c.loop_no
  pub node : IsContactNode loops cone limit c stop.node

-- the first of the stops, if there is one, isn't of this loop
abbrev pub IsOfAnother : ℕ → List Stop → Type 0
IsOfAnother loop [] = Unit {0}
IsOfAnother loop (stop ∷ _) = stop.loop_no ≢ loop

-- the nodes of one loop: of the stops, as many as there are of one loop in turn, and at least one
pub record IsRound (round : List GridNode) (stops later : List Stop) : Type 0 where
  pub loop : ℕ
  pub first : Stop
  pub others : List Stop
  pub parted : stops ≡ (first ∷ others) ++ later
  pub same : All (λ stop. stop.loop_no ≡ loop) (first ∷ others)
  pub whole : IsOfAnother loop later
  pub nodes : round ≡ map (λ stop. stop.node) (first ∷ others)

-- the stops with what follows a round
pub record AreRoundAndLater (round : List GridNode) (Later : List Stop → Type 0) (stops : List Stop) : Type 0 where
  pub later : List Stop
  pub is : IsRound round stops later
  pub others : Later later

-- the nodes of the stops, loop by loop
abbrev pub AreRounds : List Stop → List (List GridNode) → Type 0
AreRounds stops [] = stops ≡ []
AreRounds stops (round ∷ rounds) = AreRoundAndLater round (λ later. AreRounds later rounds) stops

-- the nodes of the drawing's contacts, loop by loop
pub record AreRoundsOf (loops : List (List GridPoint)) (cone : Cone) (limit step : ℕ) (rounds : List (List GridNode)) : Type 0 where
  pub contacts : List Contact
  pub listed : AreContacts loops step contacts
  pub stops : List Stop
  pub each : AllZip (IsStop loops cone limit) contacts stops
  pub parted : AreRounds stops rounds
