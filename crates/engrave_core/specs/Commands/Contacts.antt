-- What is due for `contacts`: a line for each contact, with the greatest disc that touches the outline there.
use Rattle.std.specs.Prelude.{◌≡◌, ◌⊎◌, ℕ, ℤ, pos, List, [], ◌∷◌, ◌++◌, codes}
use Rattle.engrave_model.specs.Drawing.{edges_of}
use Rattle.engrave_model.specs.Lists.{AreJoined}
use Rattle.grid_num.specs.Written.{decimal_text}
use Rattle.job_words.specs.declared.request.DrawingWords.{DrawingWords}
use Rattle.plane_exact.specs.Plane.{GridPoint}
use Rattle.tangent_disc.specs.Contacts.{AreContacts, HasTooMany, IsFirstTooFine}
use Rattle.tangent_disc.specs.Tangent.{IsTangentOf}
use Rattle.tangent_disc.specs.declared.contact.Contact.{Contact}
use Rattle.tangent_disc.specs.declared.disc.Disc.{Disc}
use Rattle.tangent_disc.specs.declared.disc.Side.{Side}
use Rattle.tangent_disc.specs.declared.disc.Side.TheVariants.{Left, Right, Nowhere}
use Rattle.engrave_core.specs.Drawing.{IsGivenByDrawing}
use Rattle.engrave_core.specs.Given.{Refuses}
use Rattle.engrave_core.specs.Stored.{Files}
use Rattle.engrave_core.specs.Refusals.{IsRefusalOfContacts, IsRefusalOfDrawing}
use Rattle.engrave_core.specs.declared.outcome.InputFault.TheVariants.{StepTooFine, TooMany}
use Rattle.engrave_core.specs.declared.outcome.Kind.TheVariants.{Contacts}
use Rattle.engrave_core.specs.declared.outcome.Outcome.{Outcome}
use Rattle.engrave_core.specs.declared.outcome.Outcome.TheVariants.{Done}
use Rattle.engrave_core.specs.declared.refusal.Refusal.TheVariants.{Input}

-- left, right, or none
abbrev pub side_text : Side → List ℕ
side_text Left = codes "left"
side_text Right = codes "right"
side_text Nowhere = codes "none"

-- a number, and what follows it
abbrev pub number_before : ℤ → List ℕ → List ℕ
number_before number end = decimal_text 0 number ++ end

-- LOOP EDGE K/N, and a space
unfoldable pub contact_text : Contact → List ℕ
contact_text c =
    number_before (pos c.loop_no) (codes " ") ++ number_before (pos c.edge) (codes " ")
    ++ number_before (pos c.k) (codes "/") ++ number_before (pos c.n) (codes " ")

-- X,Y, and the end of the line
unfoldable pub point_text : GridPoint → List ℕ
point_text p = number_before p.x (codes ",") ++ number_before p.y (codes "\n")

-- SIDE J X,Y, and the end of the line
unfoldable pub disc_text : Disc → List ℕ
disc_text disc = side_text disc.side ++ codes " " ++ number_before (pos disc.j) (codes " ") ++ point_text disc.centre

-- the line of a contact, with the disc at it
pub record IsContactLine (loops : List (List GridPoint)) (rmax : ℕ) (c : Contact) (line : List ℕ) : Type 0 where
  pub disc : Disc
  pub tangent : IsTangentOf loops c rmax disc
  pub is : line ≡ contact_text c ++ disc_text disc

-- a line for each of the contacts
abbrev pub AreContactLines : List (List GridPoint) → ℕ → List Contact → List ℕ → Type 0
AreContactLines loops rmax [] text = text ≡ []
AreContactLines loops rmax (c ∷ contacts) text = AreJoined (IsContactLine loops rmax c) (AreContactLines loops rmax contacts) text

-- Done, with a line for each contact of the drawing
pub record IsTouched (step rmax : ℕ) (loops : List (List GridPoint)) (outcome : Outcome) (text : List ℕ) : Type 0 where
  pub contacts : List Contact
  pub listed : AreContacts loops step contacts
  pub done : outcome ≡ Done
  pub lines : AreContactLines loops rmax contacts text

-- the refusal of the first edge that the step divides too fine
pub record IsRefusedTooFine (step : ℕ) (loops : List (List GridPoint)) (outcome : Outcome) (text : List ℕ) : Type 0 where
  pub edge : ℕ
  pub first : IsFirstTooFine (edges_of loops) step edge
  pub refuses : Refuses (Input (StepTooFine edge)) outcome text

-- the refusal of too many contacts, where no edge is divided too fine
pub record IsRefusedTooMany (step : ℕ) (loops : List (List GridPoint)) (outcome : Outcome) (text : List ℕ) : Type 0 where
  pub many : HasTooMany loops step
  pub refuses : Refuses (Input (TooMany Contacts)) outcome text

-- the lines, or the refusal of the step
abbrev pub IsTouchedOrRefused : (step rmax : ℕ) → List (List GridPoint) → Outcome → List ℕ → Type 0
IsTouchedOrRefused step rmax loops outcome text =
    IsTouched step rmax loops outcome text ⊎ (IsRefusedTooFine step loops outcome text ⊎ IsRefusedTooMany step loops outcome text)

-- what is due for the drawing, or the refusal of it
abbrev pub IsDueOfContacts : Files → DrawingWords → (step rmax : ℕ) → Outcome → List ℕ → Type 0
IsDueOfContacts files shape step rmax outcome text =
    IsGivenByDrawing (λ drawing. IsTouchedOrRefused step rmax drawing.loops) files shape outcome text

-- the refusals of the drawing and of the step
abbrev pub IsRefusalOfTouching : DrawingWords → Outcome → Type 0
IsRefusalOfTouching shape outcome = IsRefusalOfDrawing shape outcome ⊎ IsRefusalOfContacts outcome
