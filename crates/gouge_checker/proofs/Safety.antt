-- A G-code program that is called clear is safe.
use Rattle.std.specs.Prelude.{List, [], ◌∷◌}
use Rattle.std.proofs.Common.{inl, inr}
use Rattle.std.proofs.lemmas.List.Elements.{All-cons, All-nil}
use Rattle.plane_exact.specs.Cone.{Cone}
use Rattle.plane_exact.specs.Plane.{GridPoint}
use Rattle.plane_exact.specs.declared.moves.LineMove.{LineMove}
use Rattle.engrave_model.specs.Drawing.{edges_of}
use Rattle.engrave_model.specs.Removal.{IsSafe, IsSafeCode}
use Rattle.depth_rule.proofs.Safety.{clear_is_safe}
use Rattle.gouge_checker.specs.Verdict.{IsVerdict}
use Rattle.gouge_checker.specs.declared.verdict.Verdict.TheVariants.{Clear}

module _ (loops : List (List GridPoint)) (cone : Cone) where
  -- a program whose verdict is `Clear` is safe
  pub clear_code_is_safe : (moves : List LineMove) → IsVerdict (edges_of loops) cone moves Clear → IsSafeCode (edges_of loops) cone moves
  clear_code_is_safe [] is = All-nil (λ move. IsSafe (edges_of loops) cone move.mv)
  clear_code_is_safe (move ∷ moves) (inl clear) =
      All-cons (λ move. IsSafe (edges_of loops) cone move.mv) move moves (clear_is_safe loops cone move.mv clear.0) (clear_code_is_safe moves clear.1)
  clear_code_is_safe (move ∷ moves) (inr fault) = absurd fault
