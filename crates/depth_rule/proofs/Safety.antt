-- A clear move is a safe move: the swept law for each edge, and then the parity law.
use Rattle.std.proofs.Common.{◌≡◌, arith, inl, inr, Bool, true, false, refl, nat_lt}
use Rattle.std.proofs.lemmas.List.Elements.{All-weaker}
use Rattle.plane_exact.specs.Moves.{depth_of, IsDeep}
use Rattle.engrave_model.specs.Drawing.{edges_of}
use Rattle.engrave_model.specs.Removal.{IsSafe}
use Rattle.evenodd_region.proofs.Sparing.{sparing_is_safe, surface_is_safe}
use Rattle.swept_move.proofs.Moves.{removes_none}
use Rattle.depth_rule.specs.Law.{ClearMoveLaw}

pub clear_is_safe : ClearMoveLaw
clear_is_safe loops cone mv (inl shallow) = surface_is_safe (edges_of loops) cone mv shallow
clear_is_safe loops cone mv (inr clear) =
    by_test (nat_lt 0 (depth_of mv.from.h)) refl (nat_lt 0 (depth_of mv.to.h)) refl
  where
    deep_is_safe : IsDeep mv → IsSafe (edges_of loops) cone mv
    deep_is_safe deep = sparing_is_safe loops cone mv deep (All-weaker _ _ (removes_none cone mv) (edges_of loops) clear.passes) clear.inside

    by_test : (from : Bool) → nat_lt 0 (depth_of mv.from.h) ≡ from → (to : Bool) → nat_lt 0 (depth_of mv.to.h) ≡ to → IsSafe (edges_of loops) cone mv
    by_test true is to also = deep_is_safe (inl (grind arith))
    by_test false is true also = deep_is_safe (inr (grind arith))
    by_test false is false also = surface_is_safe (edges_of loops) cone mv
        (λ deep. elim deep [ inl from ↦ absurd (grind arith) | inr to ↦ absurd (grind arith) ])
