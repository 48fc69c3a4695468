-- What a move meets, by the edges' numbers, and what a clear move meets.
use Rattle.std.specs.Prelude.{slice_index_or, All, IfSome, IfNone}
use Rattle.std.proofs.Common.{◌≡◌, ℕ, List, [], Option, None, Some, refl, inl, inr}
use Rattle.plane_exact.specs.Cone.{Cone}
use Rattle.plane_exact.specs.Moves.{IsDeep}
use Rattle.plane_exact.specs.declared.moves.Move.{Move}
use Rattle.plane_exact.specs.declared.point.Seg.{Seg}
use Rattle.swept_move.specs.Clear.{IsClear, PassesEdge}
use Rattle.depth_rule.specs.Met.{IsFirstMet, IsMet}
use Rattle.depth_rule.proofs.Leasts.{IsLeastBad, IsLeastSoFar, least_none, least_some}
use Rattle.depth_rule.specs.declared.met.Met.{Met}
use Rattle.depth_rule.specs.declared.met.Met.TheVariants.{Edge, Outside, Nothing}

module _ (edges : List Seg) (cone : Cone) (mv : Move) where
  -- the move passes the tests against the edge of this number
  abbrev pub IsPassedAt : ℕ → Type 0
  IsPassedAt k = (d : Seg) → PassesEdge cone mv (slice_index_or edges k d)

  -- and not against the edge of this one
  abbrev pub IsMetHere : ℕ → Type 0
  IsMetHere k = (d : Seg) → ¬ PassesEdge cone mv (slice_index_or edges k d)

  first_is_met : (e : ℕ) → IsLeastBad IsPassedAt IsMetHere edges e → IsFirstMet edges cone mv e
  first_is_met e least = record { there = least.there; fails = least.bad; before = λ k d below. least.before k below d }

  pub first_of_all : (least : Option ℕ) (left : List ℕ) → left ≡ [] → IsLeastSoFar IsPassedAt IsMetHere edges least left
      → IfSome least (IsFirstMet edges cone mv) × IfNone least (All (PassesEdge cone mv) edges)
  first_of_all None left over far = (tt, λ k d there. least_none IsPassedAt IsMetHere edges left over far k there d)
  first_of_all (Some e) left over far = (first_is_met e (least_some IsPassedAt IsMetHere edges e left over far), tt)

-- a clear move that goes below the surface meets nothing
pub met_is_nothing : (edges : List Seg) (cone : Cone) (mv : Move) (met : Met) → IsDeep mv → IsMet edges cone mv met → IsClear edges cone mv → met ≡ Nothing
met_is_nothing edges cone mv met deep is (inl shallow) = absurd (shallow deep)
met_is_nothing edges cone mv (Edge e) deep is (inr clear) =
    let any : Seg = record { a = mv.from.at; b = mv.to.at } in absurd (is.fails any (clear.passes e any is.there))
met_is_nothing edges cone mv Outside deep is (inr clear) = absurd (is.outside clear.inside)
met_is_nothing edges cone mv Nothing deep is (inr clear) = refl
