-- Faults of making chains, handed on.
use Rattle.std.proofs.Common.{◌≡◌, subst, sym}
use Rattle.carve_plan.specs.Made.{IsCutFault}
use Rattle.carve_plan.specs.declared.fault.PlanFault.{PlanFault}
use Rattle.carve_plan.specs.declared.fault.PlanFault.TheVariants.{Contact, Memory, TooManyChains, TooManyNodes}

pub cut_fault : (Many : Type 0) (fault : PlanFault) → fault ≡ TooManyNodes → Many → IsCutFault Many fault
cut_fault Many fault told many = subst (IsCutFault Many) (sym told) many

pub cut_fault_weaker : (Many More : Type 0) (fault : PlanFault) → (Many → More) → IsCutFault Many fault → IsCutFault More fault
cut_fault_weaker Many More (Contact fault) weaker is = is
cut_fault_weaker Many More TooManyNodes weaker is = weaker is
cut_fault_weaker Many More TooManyChains weaker is = is
cut_fault_weaker Many More Memory weaker is = is
