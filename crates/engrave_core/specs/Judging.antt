-- A G-code program that is judged as its bytes come.
use Rattle.std.specs.Prelude.{◌≡◌, ℕ, List, length, Result, Ok, Err}
use Rattle.plane_exact.specs.Cone.{Cone}
use Rattle.plane_exact.specs.declared.moves.LineMove.{LineMove}
use Rattle.plane_exact.specs.declared.point.Seg.{Seg}
use Rattle.gcode_text.specs.Stepping.{IsAfter, moves_reported, start_of}
use Rattle.gcode_text.specs.declared.fault.CodeFault.{CodeFault}
use Rattle.gcode_text.specs.declared.state.State.{State}
use Rattle.gouge_checker.specs.Verdict.{IsVerdict}
use Rattle.gouge_checker.specs.declared.verdict.Verdict.{Verdict}

-- the verdict on the moves, and how many they are
pub record AreJudged (edges : List Seg) (cone : Cone) (moves : List LineMove) (verdict : Verdict) (count : ℕ) : Type 0 where
  pub is : IsVerdict edges cone moves verdict
  pub counted : count ≡ length moves

-- a stepper that these bytes were fed, with the verdict on the moves that it has reported
pub record IsJudgedTo (edges : List Seg) (cone : Cone) (bytes : List ℕ) (stepper : State) (verdict : Verdict) (count : ℕ) : Type 0 where
  pub stands : IsAfter bytes stepper
  pub so_far : AreJudged edges cone (moves_reported (start_of stepper.units) bytes) verdict count

-- the code has moves, and this is the verdict on them and how many they are
pub record HasVerdict {E : Type 0} (edges : List Seg) (cone : Cone) (code : Result (List LineMove) E) (verdict : Verdict) (count : ℕ) : Type 0 where
  pub moves : List LineMove
  pub read : code ≡ Ok moves
  pub judged : AreJudged edges cone moves verdict count

-- the verdict on a code, or its fault
abbrev pub IsJudgedCode : List Seg → Cone → Result (List LineMove) CodeFault → Result (Verdict × ℕ) CodeFault → Type 0
IsJudgedCode edges cone code (Ok (verdict, count)) = HasVerdict edges cone code verdict count
IsJudgedCode edges cone code (Err fault) = code ≡ Err fault
