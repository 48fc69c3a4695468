-- When a repair is refused.
use Rattle.std.specs.Prelude.{ℕ, ◌<◌, List, length}
use Rattle.plane_exact.specs.Cone.{Cone}
use Rattle.plane_exact.specs.Heights.{GridPlace}
use Rattle.plane_exact.specs.declared.moves.LineMove.{LineMove}
use Rattle.plane_exact.specs.declared.point.Seg.{Seg}
use Rattle.code_repair.specs.Repair.{IsRepair}
use Rattle.code_repair.specs.declared.fault.RepairFault.{RepairFault}
use Rattle.code_repair.specs.declared.fault.RepairFault.TheVariants.{TooMany, Memory}
use Rattle.code_repair.specs.declared.repairs.TheConstants.{MOST_VISITS}

-- the bit would visit more places than a written program may have moves
pub record HasManyVisits (edges : List Seg) (cone : Cone) (safe : ℕ) (moves : List LineMove) : Type 0 where
  pub visits : List GridPlace
  pub changed : ℕ
  pub is : IsRepair edges cone safe moves visits changed
  pub many : MOST_VISITS < length visits

-- when each fault is answered; out of memory at any time
abbrev pub IsRepairFault : List Seg → Cone → (safe : ℕ) → List LineMove → RepairFault → Type 0
IsRepairFault edges cone safe moves TooMany = HasManyVisits edges cone safe moves
IsRepairFault edges cone safe moves Memory = Unit {0}
