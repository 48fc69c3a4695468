-- What the bit visits when moves that aren't clear become lifts. All places and heights are in tenths of a grid unit.
use Rattle.std.specs.Prelude.{◌≡◌, ◌⊎◌, ◌+◌, ℕ, pos, ◌≤ℤ◌, Bool, true, false, List, [], ◌∷◌, ◌++◌}
use Rattle.plane_exact.specs.Cone.{Cone}
use Rattle.plane_exact.specs.Heights.{GridPlace}
use Rattle.plane_exact.specs.Plane.{GridPoint}
use Rattle.plane_exact.specs.declared.moves.LineMove.{LineMove}
use Rattle.plane_exact.specs.declared.moves.Move.{Move}
use Rattle.plane_exact.specs.declared.point.Seg.{Seg}
use Rattle.gcode_text.specs.Visits.{spot_over}
use Rattle.swept_move.specs.Clear.{IsClear}

-- the way straight down onto a place from the safe height over it
abbrev pub drop_onto : (safe : ℕ) → GridPlace → Move
drop_onto safe to = record { from = spot_over safe to.at; to = to }

-- the bit can be set down there: the place isn't below the surface, or the way down is clear
abbrev pub CanLand : List Seg → Cone → (safe : ℕ) → GridPlace → Type 0
CanLand edges cone safe to = (pos 0 ≤ℤ to.h) ⊎ IsClear edges cone (drop_onto safe to)

-- up to the safe height, unless the bit is up
abbrev pub lift : (up : Bool) → (safe : ℕ) → GridPlace → List GridPlace
lift true safe from = []
lift false safe from = spot_over safe from.at ∷ []

-- ---- one move: what the bit visits for it, whether it is up behind it, and how many moves are changed by it, none or one

-- a clear move stays: its end is visited, wherever the bit is
pub record IsStaying (edges : List Seg) (cone : Cone) (mv : Move) (visits : List GridPlace) (behind : Bool) (changed : ℕ) : Type 0 where
  pub clear : IsClear edges cone mv
  pub visited : visits ≡ mv.to ∷ []
  pub down : behind ≡ false
  pub none : changed ≡ 0

-- another is changed: up, over to its end, and down onto that where the bit can be set down there
pub record IsHopping (edges : List Seg) (cone : Cone) (safe : ℕ) (up : Bool) (mv : Move) (visits : List GridPlace) (behind : Bool) (changed : ℕ) : Type 0 where
  pub unclear : ¬ IsClear edges cone mv
  pub lands : CanLand edges cone safe mv.to
  pub visited : visits ≡ lift up safe mv.from ++ spot_over safe mv.to.at ∷ mv.to ∷ []
  pub down : behind ≡ false
  pub one : changed ≡ 1

-- and where it can't, the bit stays up over it
pub record IsHovering (edges : List Seg) (cone : Cone) (safe : ℕ) (up : Bool) (mv : Move) (visits : List GridPlace) (behind : Bool) (changed : ℕ) : Type 0 where
  pub unclear : ¬ IsClear edges cone mv
  pub hovers : ¬ CanLand edges cone safe mv.to
  pub visited : visits ≡ lift up safe mv.from ++ spot_over safe mv.to.at ∷ []
  pub stays_up : behind ≡ true
  pub one : changed ≡ 1

-- the first of these that applies
abbrev pub IsStep : List Seg → Cone → (safe : ℕ) → (up : Bool) → Move → List GridPlace → (behind : Bool) → (changed : ℕ) → Type 0
IsStep edges cone safe up mv visits behind changed =
    IsStaying edges cone mv visits behind changed
    ⊎ (IsHopping edges cone safe up mv visits behind changed ⊎ IsHovering edges cone safe up mv visits behind changed)

-- a step more has been taken: what was visited for it, and what it counts, are added
pub record IsStepFrom (edges : List Seg) (cone : Cone) (safe : ℕ) (up : Bool) (mv : Move) (spots : List GridPlace) (changed : ℕ) (spots' : List GridPlace) (behind : Bool) (changed' : ℕ) : Type 0 where
  pub part : List GridPlace
  pub here : ℕ
  pub step : IsStep edges cone safe up mv part behind here
  pub grown : spots' ≡ spots ++ part
  pub counted : changed' ≡ changed + here

-- ---- all moves

-- a step, and then the rest
pub record BeginsWith (Step : List GridPlace → Bool → ℕ → Type 0) (Rest : Bool → List GridPlace → ℕ → Type 0) (visits : List GridPlace) (changed : ℕ) : Type 0 where
  pub part : List GridPlace
  pub rest : List GridPlace
  pub behind : Bool
  pub here : ℕ
  pub later : ℕ
  pub step : Step part behind here
  pub then_rest : Rest behind rest later
  pub parts : visits ≡ part ++ rest
  pub sum : changed ≡ here + later

-- what is visited for these moves, of which the first begins over this point, and how many of them are changed; last the bit is lifted
abbrev pub AreVisits : List Seg → Cone → (safe : ℕ) → (up : Bool) → GridPoint → List LineMove → List GridPlace → (changed : ℕ) → Type 0
AreVisits edges cone safe up at [] visits changed = (visits ≡ spot_over safe at ∷ []) × (changed ≡ 0)
AreVisits edges cone safe up at (move ∷ moves) visits changed =
    BeginsWith (IsStep edges cone safe up move.mv) (λ behind. AreVisits edges cone safe behind move.mv.to.at moves) visits changed

-- the start of the first move, and then these
pub record BeginsAt (edges : List Seg) (cone : Cone) (safe : ℕ) (start : GridPlace) (moves : List LineMove) (visits : List GridPlace) (changed : ℕ) : Type 0 where
  pub rest : List GridPlace
  pub begins : visits ≡ start ∷ rest
  pub are : AreVisits edges cone safe false start.at moves rest changed

-- what the bit visits when a program is repaired, and how many of its moves are changed; nothing where there are no moves
abbrev pub IsRepair : List Seg → Cone → (safe : ℕ) → List LineMove → List GridPlace → (changed : ℕ) → Type 0
IsRepair edges cone safe [] visits changed = (visits ≡ []) × (changed ≡ 0)
IsRepair edges cone safe (move ∷ moves) visits changed = BeginsAt edges cone safe move.mv.from (move ∷ moves) visits changed
