-- What holds of the chain along each longest run of a floor holds of all its chains.
use Rattle.std.specs.List.{AllZip}
use Rattle.std.specs.Prelude.{All}
use Rattle.std.proofs.Common.{◌≢◌, ℕ, inl, inr, List, [], ◌∷◌, ℤ, subst, sym}
use Rattle.std.proofs.lemmas.List.Elements.{All-append, All-map, All-nil, All-weaker}
use Rattle.plane_exact.specs.Nodes.{GridNode, joined}
use Rattle.plane_exact.specs.Plane.{GridPoint}
use Rattle.cleanup_pocket.specs.Floors.{AreAxisChains, AreFloorChains, AreLineChains, AreWayChains, IsJoinedBy, OfPlaces, chain_along}
use Rattle.cleanup_pocket.specs.Runs.{IsLongest, Run}
use Rattle.cleanup_pocket.specs.declared.axis.Axis.{Axis}
use Rattle.cleanup_pocket.specs.declared.axis.Axis.TheVariants as axis
use Rattle.cleanup_pocket.specs.declared.axis.Way.{Way}
use Rattle.cleanup_pocket.specs.declared.axis.Way.TheVariants as way

module _ (IsGood IsWay : OfPlaces) (depth : ℕ) (P : List GridNode → Type 0) where
  -- P holds of the chain along each longest run of a line
  abbrev pub OfRuns : Type 0
  OfRuns = (axis : Axis) (line : ℤ) (run : Run) → IsLongest (IsGood axis line) (IsJoinedBy IsGood IsWay axis line) run → P (chain_along axis line depth run)

  module _ (holds : OfRuns) where
    line_all : (axis : Axis) (line : ℤ) (chains : List (List GridNode)) → AreLineChains IsGood IsWay depth axis line chains → All P chains
    line_all axis line chains of_line =
        subst (All P) (sym of_line.along) (All-map P (chain_along axis line depth) of_line.runs (All-weaker _ _ (holds axis line) of_line.runs of_line.are_runs.each))

    joined_all : (axis : Axis) (lines : List ℤ) (parts : List (List (List GridNode))) → AllZip (AreLineChains IsGood IsWay depth axis) lines parts → All P (joined parts)
    joined_all axis [] [] each = All-nil P
    joined_all axis [] (part ∷ parts) each = absurd each
    joined_all axis (line ∷ lines) [] each = absurd each
    joined_all axis (line ∷ lines) (part ∷ parts) each = All-append P part (joined parts) (line_all axis line part each.0) (joined_all axis lines parts each.1)

    axis_all : (over : ℕ) (low high : GridPoint) (axis : Axis) (chains : List (List GridNode)) → AreAxisChains IsGood IsWay depth over low high axis chains → All P chains
    axis_all over low high axis chains of_axis = subst (All P) (sym of_axis.are) (joined_all axis of_axis.lines of_axis.parts of_axis.each)

    way_all : (over : ℕ) (low high : GridPoint) (way : Way) (chains : List (List GridNode)) → AreWayChains IsGood IsWay depth over low high way chains → All P chains
    way_all over low high way.X chains of_way = axis_all over low high axis.X chains of_way
    way_all over low high way.Y chains of_way = axis_all over low high axis.Y chains of_way
    way_all over low high way.Both chains of_way =
        subst (All P) (sym of_way.joined)
        (All-append P of_way.first of_way.second (axis_all over low high axis.X of_way.first of_way.is_first) (axis_all over low high axis.Y of_way.second of_way.is_second))

  pub floor_all : (loops : List (List GridPoint)) (over : ℕ) (way : Way) (chains : List (List GridNode)) → (depth ≢ 0 → OfRuns) → AreFloorChains IsGood IsWay depth loops over way chains → All P chains
  floor_all loops over way chains holds (inl unmilled) = subst (All P) (sym unmilled.none) (All-nil P)
  floor_all loops over way chains holds (inr milled) = way_all (holds milled.deep) over milled.low milled.high way chains milled.lines
