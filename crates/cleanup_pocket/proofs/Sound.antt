-- The chains of a pocket are sound: the points of a run are good, and its one long move is clear since the moves between neighbours are.
use Rattle.std.specs.List.{AllZip}
use Rattle.std.specs.Prelude.{All, if◌then◌else◌, int_lt}
use Rattle.std.proofs.Common.{◌≡◌, ◌≤◌, ℕ, zero, suc, Bool, true, false, refl, inl, inr, List, [], ◌∷◌, ℤ, pos, neg_ℤ, ◌+ℤ◌, ◌-ℤ◌, ◌*ℤ◌, ◌≤ℤ◌, ◌<ℤ◌, arith, ap, subst, sym, ◌∙◌}
use Rattle.std.proofs.lemmas.Int.{ints}
use Rattle.std.proofs.lemmas.List.Elements.{All-append, All-cons, All-map, All-nil, All-weaker}
use Rattle.integer_algebra.proofs.Ring.{ring, V, K, ◌⊕◌, ◌⊖◌, ◌⊗◌}
use Rattle.plane_exact.specs.Cone.{Cone}
use Rattle.plane_exact.specs.Nodes.{GridNode, joined, node_place}
use Rattle.plane_exact.specs.Plane.{Fraction, GridPoint, IsBetween, rational}
use Rattle.plane_exact.specs.declared.point.Seg.{Seg}
use Rattle.engrave_model.specs.Depth.{Fits}
use Rattle.engrave_model.specs.Drawing.{edges_of}
use Rattle.swept_move.specs.Clear.{IsClear}
use Rattle.swept_move.specs.Law.{AreInLine, level_move}
use Rattle.swept_move.specs.Motion.{AllNeighbours, last_from}
use Rattle.swept_move.proofs.Moves.{run_is_clear}
use Rattle.depth_rule.specs.Along.{IsSound, move_between}
use Rattle.depth_rule.specs.Deepest.{deepest_of}
use Rattle.cleanup_pocket.specs.Law.{PocketLaw}
use Rattle.cleanup_pocket.specs.Floors.{AreAxisChains, AreLineChains, AreWayChains, IsJoinedBy, chain_along, node_on}
use Rattle.cleanup_pocket.specs.Pocket.{IsClearWay, IsGood}
use Rattle.cleanup_pocket.specs.Runs.{IsLongest, Run}
use Rattle.cleanup_pocket.specs.declared.axis.Axis.{Axis}
use Rattle.cleanup_pocket.specs.declared.axis.Axis.TheVariants as axis
use Rattle.cleanup_pocket.specs.declared.axis.Way.{Way}
use Rattle.cleanup_pocket.specs.declared.axis.Way.TheVariants as way
use Rattle.cleanup_pocket.proofs.Places.{behind}

-- ---- a coordinate of three places on a line, in tenths

goes_on : (first place : ℤ)
    → (place +ℤ pos 1 -ℤ first) *ℤ (pos 10 *ℤ place)
    ≡ pos 1 *ℤ ((place +ℤ pos 1 -ℤ first) *ℤ (pos 10 *ℤ first) +ℤ (place -ℤ first) *ℤ (pos 10 *ℤ (place +ℤ pos 1) -ℤ pos 10 *ℤ first))
goes_on first place =
    let n = V 1 ⊕ K (pos 1) ⊖ V 0 in
    ring (first ∷ place ∷ []) (n ⊗ (K (pos 10) ⊗ V 1))
    (K (pos 1) ⊗ (n ⊗ (K (pos 10) ⊗ V 0) ⊕ (V 1 ⊖ V 0) ⊗ (K (pos 10) ⊗ (V 1 ⊕ K (pos 1)) ⊖ K (pos 10) ⊗ V 0))) tt

stays : (n k line : ℤ) → n *ℤ (pos 10 *ℤ line) ≡ pos 1 *ℤ (n *ℤ (pos 10 *ℤ line) +ℤ k *ℤ (pos 10 *ℤ line -ℤ pos 10 *ℤ line))
stays n k line = ring (n ∷ k ∷ line ∷ []) (V 0 ⊗ (K (pos 10) ⊗ V 2)) (K (pos 1) ⊗ (V 0 ⊗ (K (pos 10) ⊗ V 2) ⊕ V 1 ⊗ (K (pos 10) ⊗ V 2 ⊖ K (pos 10) ⊗ V 2))) tt

-- the point of the line at the place, in tenths
abbrev stop : Axis → (line : ℤ) → (depth : ℕ) → (place : ℤ) → GridPoint
stop axis line depth place = (node_place (node_on axis line depth place)).at

way_of : (first place : ℤ) → first ≤ℤ place → Fraction
way_of first place from =
    record { k = place -ℤ first; n = place +ℤ pos 1 -ℤ first; start = omega (arith, ints); finish = omega (arith, ints); some = omega (arith, ints) }

stop_between : (axis : Axis) (line : ℤ) (depth : ℕ) (first place : ℤ) → first ≤ℤ place
    → IsBetween (stop axis line depth first) (stop axis line depth (place +ℤ pos 1)) (rational (stop axis line depth place))
unfolding way_of
stop_between axis.X line depth first place from =
    record { at = way_of first place from; across = goes_on first place; up = stays (place +ℤ pos 1 -ℤ first) (place -ℤ first) line }
stop_between axis.Y line depth first place from =
    record { at = way_of first place from; across = stays (place +ℤ pos 1 -ℤ first) (place -ℤ first) line; up = goes_on first place }

module _ (edges : List Seg) (cone : Cone) (limit : ℕ) (axis : Axis) (line : ℤ) where
  abbrev deepest : ℕ
  deepest = deepest_of cone limit

  abbrev node : ℤ → GridNode
  node place = node_on axis line deepest place

  abbrev at : ℤ → GridPoint
  at place = stop axis line deepest place

  -- so many points behind the place
  abbrev stops : ℤ → ℕ → List GridPoint
  stops place zero = []
  stops place (suc n) = at (place +ℤ pos 1) ∷ stops (place +ℤ pos 1) n

  last_stop : (place : ℤ) (n : ℕ) → last_from (at place) (stops place n) ≡ at (place +ℤ pos n)
  last_stop place zero = ap at (omega (arith, ints))
  last_stop place (suc n) = last_stop (place +ℤ pos 1) n ∙ ap at (omega (arith, ints))

  in_line : (first place : ℤ) (n : ℕ) → first ≤ℤ place → AreInLine (at first) (at place) (stops place n)
  in_line first place zero from = tt
  in_line first place (suc n) from = (stop_between axis line deepest first place from, in_line first (place +ℤ pos 1) n (omega (arith, ints)))

  -- the height of the run's nodes
  abbrev height : ℤ
  height = pos 10 *ℤ neg_ℤ (pos deepest)

  abbrev IsClearTo : GridPoint → GridPoint → Type 0
  IsClearTo p q = IsClear edges cone (level_move height p q)

  neighbours : (place : ℤ) (n : ℕ) → ((t : ℤ) → place ≤ℤ t → t <ℤ (place +ℤ pos n) → IsJoinedBy (IsGood edges cone limit) (IsClearWay edges cone limit) axis line t)
      → AllNeighbours IsClearTo (at place) (stops place n)
  neighbours place zero joined = tt
  neighbours place (suc n) joined =
      ((joined place (omega (arith, ints)) (omega (arith, ints))).way, neighbours (place +ℤ pos 1) n (λ t from to. joined t (omega (arith, ints)) (omega (arith, ints))))

  -- the one move along a run of several places is clear
  pub run_clear : 1 ≤ cone.sn → (first last : ℤ) → first <ℤ last
      → ((t : ℤ) → first ≤ℤ t → t <ℤ last → IsJoinedBy (IsGood edges cone limit) (IsClearWay edges cone limit) axis line t) → IsClear edges cone (move_between (node first) (node last))
  run_clear some first last before joined =
      let way = behind (first +ℤ pos 1) last (omega (arith, ints)) in
      let n = way.steps in
      let is = way.is in
      subst (λ p. IsClearTo (at first) p) (last_stop (first +ℤ pos 1) n ∙ ap at (sym is))
      (run_is_clear edges cone height (at first) (at (first +ℤ pos 1)) (stops (first +ℤ pos 1) n) some
      (in_line first (first +ℤ pos 1) n (omega (arith, ints)))
      (neighbours first (suc n) (λ t from to. joined t from (omega (arith, ints)))))

  Fitting : GridNode → Type 0
  Fitting node = Fits edges cone limit node.at node.depth

  chain_sound : 1 ≤ cone.sn → (run : Run) → IsLongest (IsGood edges cone limit axis line) (IsJoinedBy (IsGood edges cone limit) (IsClearWay edges cone limit) axis line) run
      → IsSound edges cone limit (chain_along axis line deepest run)
  unfolding Fitting
  chain_sound some run longest = by_test (int_lt run.first run.last) refl
    where
      order : run.first ≤ℤ run.last
      order = longest.order

      fits_first : Fitting (node run.first)
      fits_first = (longest.good run.first (record { from = omega (arith, ints); to = longest.order })).fits

      fits_last : Fitting (node run.last)
      fits_last = (longest.good run.last (record { from = longest.order; to = omega (arith, ints) })).fits

      by_test : (several : Bool) → int_lt run.first run.last ≡ several
          → IsSound edges cone limit (if several then node run.first ∷ node run.last ∷ [] else node run.first ∷ [])
      by_test true is = record {
        fits = All-cons Fitting (node run.first) (node run.last ∷ []) fits_first (All-cons Fitting (node run.last) [] fits_last (All-nil Fitting));
        clear = (run_clear some run.first run.last (omega (arith, ints)) longest.joined, tt);
      }
      by_test false is = record { fits = All-cons Fitting (node run.first) [] fits_first (All-nil Fitting); clear = tt }

module _ (edges : List Seg) (cone : Cone) (limit : ℕ) (some : 1 ≤ cone.sn) where
  abbrev AreSound : List (List GridNode) → Type 0
  AreSound chains = All (IsSound edges cone limit) chains

  line_sound : (axis : Axis) (line : ℤ) (chains : List (List GridNode)) → AreLineChains (IsGood edges cone limit) (IsClearWay edges cone limit) (deepest_of cone limit) axis line chains → AreSound chains
  line_sound axis line chains of_line =
      subst AreSound (sym of_line.along)
      (All-map (IsSound edges cone limit) (chain_along axis line (deepest_of cone limit)) of_line.runs
      (All-weaker _ _ (chain_sound edges cone limit axis line some) of_line.runs of_line.are_runs.each))

  joined_sound : (axis : Axis) (lines : List ℤ) (parts : List (List (List GridNode))) → AllZip (AreLineChains (IsGood edges cone limit) (IsClearWay edges cone limit) (deepest_of cone limit) axis) lines parts
      → AreSound (joined parts)
  joined_sound axis [] [] each = All-nil (IsSound edges cone limit)
  joined_sound axis [] (part ∷ parts) each = absurd each
  joined_sound axis (line ∷ lines) [] each = absurd each
  joined_sound axis (line ∷ lines) (part ∷ parts) each =
      All-append (IsSound edges cone limit) part (joined parts) (line_sound axis line part each.0) (joined_sound axis lines parts each.1)

  axis_sound : (over : ℕ) (low high : GridPoint) (axis : Axis) (chains : List (List GridNode)) → AreAxisChains (IsGood edges cone limit) (IsClearWay edges cone limit) (deepest_of cone limit) over low high axis chains → AreSound chains
  axis_sound over low high axis chains of_axis = subst AreSound (sym of_axis.are) (joined_sound axis of_axis.lines of_axis.parts of_axis.each)

  way_sound : (over : ℕ) (low high : GridPoint) (way : Way) (chains : List (List GridNode)) → AreWayChains (IsGood edges cone limit) (IsClearWay edges cone limit) (deepest_of cone limit) over low high way chains → AreSound chains
  way_sound over low high way.X chains of_way = axis_sound over low high axis.X chains of_way
  way_sound over low high way.Y chains of_way = axis_sound over low high axis.Y chains of_way
  way_sound over low high way.Both chains of_way =
      subst AreSound (sym of_way.joined)
      (All-append (IsSound edges cone limit) of_way.first of_way.second (axis_sound over low high axis.X of_way.first of_way.is_first)
      (axis_sound over low high axis.Y of_way.second of_way.is_second))

pub pocket_sound : PocketLaw
pocket_sound loops cone limit over way chains some (inl unmilled) = subst (All (IsSound (edges_of loops) cone limit)) (sym unmilled.none) (All-nil _)
pocket_sound loops cone limit over way chains some (inr milled) =
    way_sound (edges_of loops) cone limit some over milled.low milled.high way chains milled.lines
