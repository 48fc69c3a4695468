-- How far the walk over the moves has come.
use Rattle.std.specs.Prelude.{◌≡◌, ℕ, ◌+◌, List, ◌++◌}
use Rattle.plane_exact.specs.Cone.{Cone}
use Rattle.plane_exact.specs.Heights.{GridPlace}
use Rattle.plane_exact.specs.declared.moves.LineMove.{LineMove}
use Rattle.plane_exact.specs.declared.point.Seg.{Seg}
use Rattle.code_repair.specs.Repair.{AreVisits}
use Rattle.code_repair.specs.declared.visits.Visits.{Visits}

-- to what was visited before, these are added that are visited for the moves
pub record AreAdded (edges : List Seg) (cone : Cone) (old : Visits) (moves : List LineMove) (spots : List GridPlace) (changed : ℕ) : Type 0 where
  pub part : List GridPlace
  pub here : ℕ
  pub are : AreVisits edges cone old.safe old.up old.last.at moves part here
  pub grown : spots ≡ old.spots.items ++ part
  pub counted : changed ≡ old.changed + here

-- of the moves, those behind are left: whatever is visited for them makes, behind what has been visited, the visits for all
abbrev pub IsLed : List Seg → Cone → Visits → (moves behind : List LineMove) → Visits → Type 0
IsLed edges cone old moves behind new =
    (rest : List GridPlace) (n : ℕ) → AreVisits edges cone old.safe new.up new.last.at behind rest n
    → AreAdded edges cone old moves (new.spots.items ++ rest) (new.changed + n)
