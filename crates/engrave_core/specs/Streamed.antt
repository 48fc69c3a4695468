-- What reading a stored G-code program piece by piece answers: the verdict on its moves and how many they are, or what keeps it from them.
use Rattle.std.specs.Prelude.{◌≡◌, ℕ, Option, List, Result, Ok, Err}
use Rattle.plane_exact.specs.Cone.{Cone}
use Rattle.plane_exact.specs.declared.moves.LineMove.{LineMove}
use Rattle.plane_exact.specs.declared.point.Seg.{Seg}
use Rattle.grid_num.specs.declared.units.Units.{Units}
use Rattle.gcode_text.specs.Moves.{moves_of}
use Rattle.gcode_text.specs.declared.state.TheConstants.{MOST_CODE_BYTES}
use Rattle.gouge_checker.specs.declared.verdict.Verdict.{Verdict}
use Rattle.shop_port.specs.Loading.{file_within}
use Rattle.shop_port.specs.declared.loading.LoadFault.{LoadFault}
use Rattle.shop_port.specs.declared.loading.LoadFault.TheVariants as load
use Rattle.engrave_core.specs.Judging.{HasVerdict, IsJudgedCode}
use Rattle.engrave_core.specs.Outcome.{IfAnswered, outcome_of}
use Rattle.engrave_core.specs.declared.refusal.Refusal.{Refusal}
use Rattle.engrave_core.specs.declared.stream.StreamFault.{StreamFault}
use Rattle.engrave_core.specs.declared.stream.StreamFault.TheVariants.{Absent, ReadFault, TooLong, Code}

-- there are stored bytes, and this is so of them
pub record AreStored (stored : Result (List ℕ) LoadFault) (IsSo : List ℕ → Type 0) : Type 0 where
  pub bytes : List ℕ
  pub there : stored ≡ Ok bytes
  pub so : IsSo bytes

-- the answer to what is stored; any, where a read failed
abbrev pub IsAnswerTo : List Seg → Cone → Units → Result (List ℕ) LoadFault → Result (Verdict × ℕ) StreamFault → Type 0
IsAnswerTo edges cone units stored (Ok judged) = AreStored stored (λ bytes. IsJudgedCode edges cone (moves_of units bytes) (Ok judged))
IsAnswerTo edges cone units stored (Err (Code fault)) = AreStored stored (λ bytes. IsJudgedCode edges cone (moves_of units bytes) (Err fault))
IsAnswerTo edges cone units stored (Err Absent) = stored ≡ Err load.Absent
IsAnswerTo edges cone units stored (Err TooLong) = stored ≡ Err load.TooLong
IsAnswerTo edges cone units stored (Err ReadFault) = Unit {0}

-- the answer to a file, or to there being none
abbrev pub IsStreamed : List Seg → Cone → Units → Option (List ℕ) → Result (Verdict × ℕ) StreamFault → Type 0
IsStreamed edges cone units file result = IsAnswerTo edges cone units (file_within MOST_CODE_BYTES file) result

-- all pieces of what is stored were read, and what was made of them is so of its bytes; or what kept from that
abbrev pub AreRead : {V : Type 0} → (V → List ℕ → Type 0) → Result (List ℕ) LoadFault → Result V LoadFault → Type 0
AreRead IsMadeOf stored (Ok made) = AreStored stored (IsMadeOf made)
AreRead IsMadeOf stored (Err load.Absent) = stored ≡ Err load.Absent
AreRead IsMadeOf stored (Err load.TooLong) = stored ≡ Err load.TooLong
AreRead IsMadeOf stored (Err load.ReadFault) = Unit {0}
AreRead IsMadeOf stored (Err load.Memory) = ⊥

-- the verdict on the stored moves, and how many they are; or the refusal, where it was answered
abbrev pub IsJudgedAs : List Seg → Cone → Result (List LineMove) Refusal → Result (Verdict × ℕ) Refusal → Type 0
IsJudgedAs edges cone stored (Ok (verdict, count)) = HasVerdict edges cone stored verdict count
IsJudgedAs edges cone stored (Err refusal) = IfAnswered (outcome_of refusal) (stored ≡ Err refusal)
