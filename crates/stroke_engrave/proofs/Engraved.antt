-- What the moves along chains remove is what is near the strokes that they lead along.
use Rattle.std.specs.Prelude.{◌↔◌, flat_map, map, neg_ℤ, ◌≤ℤ◌}
use Rattle.std.specs.List.{All, Any}
use Rattle.std.proofs.Common.{◌≡◌, ◌⊎◌, ◌≤◌, ℕ, List, [], ◌∷◌, ◌++◌, pos, ◌*ℤ◌, ap, inl, inr, subst, sym, arith}
use Rattle.std.proofs.lemmas.Int.{ints}
use Rattle.std.proofs.lemmas.List.Elements.{All-head, All-tail}
use Rattle.std.proofs.lemmas.List.Sorted.{All-permutation}
use Rattle.plane_exact.specs.Cone.{Cone}
use Rattle.plane_exact.specs.Heights.{GridPlace}
use Rattle.plane_exact.specs.Nodes.{GridNode, last_place, node_place, place_over}
use Rattle.plane_exact.specs.Plane.{GridPoint, RationalPoint}
use Rattle.plane_exact.specs.declared.moves.LineMove.{LineMove}
use Rattle.plane_exact.specs.declared.point.Seg.{Seg}
use Rattle.engrave_model.specs.Removal.{Removes}
use Rattle.gcode_text.specs.Path.{chain_moves, chain_places, moves_along}
use Rattle.gcode_text.specs.declared.job.Job.{Job}
use Rattle.swept_move.proofs.Cuts.{removes_nothing}
use Rattle.stroke_engrave.specs.Chains.{chains_of}
use Rattle.stroke_engrave.specs.Disc.{IsNearStroke}
use Rattle.stroke_engrave.specs.Law.{StrokesLaw}
use Rattle.stroke_engrave.proofs.Along.{IsEngraved, along_strokes, chains_engraved, edges_along}
use Rattle.gcode_text.proofs.Anys.{any_cases, any_first, any_joined, any_later, any_none, any_permutation}
use Rattle.gcode_text.proofs.Through.{SomeThrough, through_moves}
use Rattle.stroke_engrave.proofs.Straight.{near_finish, near_of_removed, near_start, removed_of_near}

module _ (cone : Cone) (w : RationalPoint) where
  -- some move from a place through others removes w
  abbrev RemovedThrough : GridPlace → List GridPlace → Type 0
  RemovedThrough = SomeThrough (λ mv. Removes cone mv w)

  abbrev IsRemover : LineMove → Type 0
  IsRemover move = Removes cone move.mv w

  module _ (job : Job) (depth : ℕ) (some : 1 ≤ depth) where
    abbrev over : GridPoint → GridPlace
    over p = place_over p (pos job.safe)

    abbrev IsNear : Seg → Type 0
    IsNear = IsNearStroke cone depth w

    -- at the node the tip is at the depth
    at_depth : (node : GridNode) → node.depth ≡ depth → node_place node ≡ place_over node.at (neg_ℤ (pos depth))
    at_depth node is = ap (λ z. place_over node.at (neg_ℤ (pos z))) is

    safe_above : pos 0 ≤ℤ (pos 10 *ℤ pos job.safe)
    safe_above = omega (arith, ints)

    -- between the safe height and the node only what is near it is removed
    plunge_near : (node : GridNode) → node.depth ≡ depth → Removes cone (record { from = over node.at; to = node_place node }) w → IsNear (record { a = node.at; b = node.at })
    plunge_near node is removes =
        near_of_removed cone depth some node.at node.at w (pos job.safe) (neg_ℤ (pos depth)) (omega (arith, ints)) (omega (arith, ints))
        (subst (λ to. Removes cone (record { from = over node.at; to = to }) w) (at_depth node is) removes)

    rise_near : (node : GridNode) → node.depth ≡ depth → Removes cone (record { from = node_place node; to = over node.at }) w → IsNear (record { a = node.at; b = node.at })
    rise_near node is removes =
        near_of_removed cone depth some node.at node.at w (neg_ℤ (pos depth)) (pos job.safe) (omega (arith, ints)) (omega (arith, ints))
        (subst (λ from. Removes cone (record { from = from; to = over node.at }) w) (at_depth node is) removes)

    stroke_near : (p q : GridNode) → p.depth ≡ depth → q.depth ≡ depth → Removes cone (record { from = node_place p; to = node_place q }) w → IsNear (record { a = p.at; b = q.at })
    stroke_near p q is_p is_q removes =
        near_of_removed cone depth some p.at q.at w (neg_ℤ (pos depth)) (neg_ℤ (pos depth)) (omega (arith, ints)) (omega (arith, ints))
        (subst (λ to. Removes cone (record { from = place_over p.at (neg_ℤ (pos depth)); to = to }) w) (at_depth q is_q)
        (subst (λ from. Removes cone (record { from = from; to = node_place q }) w) (at_depth p is_p) removes))

    stroke_removed : (p q : GridNode) → p.depth ≡ depth → q.depth ≡ depth → IsNear (record { a = p.at; b = q.at }) → Removes cone (record { from = node_place p; to = node_place q }) w
    stroke_removed p q is_p is_q near =
        subst (λ to. Removes cone (record { from = node_place p; to = to }) w) (sym (at_depth q is_q))
        (subst (λ from. Removes cone (record { from = from; to = place_over q.at (neg_ℤ (pos depth)) }) w) (sym (at_depth p is_p)) (removed_of_near cone depth some p.at q.at w near))

    travel_nothing : (p q : GridPoint) → ¬ Removes cone (record { from = over p; to = over q }) w
    travel_nothing p q = removes_nothing cone (over p) (over q) w safe_above safe_above

    abbrev AreLevel : List GridNode → Type 0
    AreLevel nodes = All (λ node. node.depth ≡ depth) nodes

    level_first : (node : GridNode) (nodes : List GridNode) → AreLevel (node ∷ nodes) → node.depth ≡ depth
    level_first node nodes = All-head (λ node. node.depth ≡ depth) node nodes

    level_later : (node : GridNode) (nodes : List GridNode) → AreLevel (node ∷ nodes) → AreLevel nodes
    level_later node nodes = All-tail (λ node. node.depth ≡ depth) node nodes

    -- ---- what is removed is near

    abbrev behind : GridNode → List GridNode → List GridPlace → List GridPlace
    behind node rest after = (map node_place rest ++ over (last_place (node ∷ rest)) ∷ []) ++ after

    -- from a node through the others of its chain, up, and on
    nodes_near : (node : GridNode) (rest : List GridNode) (after : List GridPlace) → AreLevel (node ∷ rest) → RemovedThrough (node_place node) (behind node rest after)
        → (IsNear (record { a = node.at; b = node.at }) ⊎ Any IsNear (edges_along (node ∷ rest))) ⊎ RemovedThrough (over (last_place (node ∷ rest))) after
    nodes_near node [] after level (inl rise) = inl (inl (rise_near node (level_first node [] level) rise))
    nodes_near node [] after level (inr later) = inr later
    nodes_near node (next ∷ rest) after level (inl straight) =
        inl (inr (any_first IsNear (record { a = node.at; b = next.at }) (edges_along (next ∷ rest))
        (stroke_near node next (level_first node (next ∷ rest) level) (level_first next rest (level_later node (next ∷ rest) level)) straight)))
    nodes_near node (next ∷ rest) after level (inr later) =
        let stroke : Seg = record { a = node.at; b = next.at } in
        let edges = edges_along (next ∷ rest) in
        elim (nodes_near next rest after (level_later node (next ∷ rest) level) later) [
          | inl here ↦ elim here [
            | inl under ↦ inl (inr (any_first IsNear stroke edges (near_finish cone depth node.at next.at w under)))
            | inr along ↦ inl (inr (any_later IsNear stroke edges along))
          ]
          | inr behind ↦ inr behind
        ]

    abbrev IsNearChain : List GridNode → Type 0
    IsNearChain nodes = Any IsNear (edges_along nodes)

    chains_near : (from : GridPoint) (chains : List (List GridNode)) → All (IsEngraved depth) chains → RemovedThrough (over from) (flat_map (chain_places job) chains) → Any IsNearChain chains
    chains_near from [] engraved removed = absurd removed
    chains_near from ([] ∷ chains) engraved removed = let long = (All-head (IsEngraved depth) [] chains engraved).some in absurd (omega arith)
    chains_near from ((first ∷ []) ∷ chains) engraved removed = let long = (All-head (IsEngraved depth) (first ∷ []) chains engraved).some in absurd (omega arith)
    chains_near from ((first ∷ second ∷ rest) ∷ chains) engraved (inl travel) = absurd (travel_nothing from first.at travel)
    chains_near from ((first ∷ second ∷ rest) ∷ chains) engraved (inr (inl plunge)) =
        let nodes = first ∷ second ∷ rest in
        let level = (All-head (IsEngraved depth) nodes chains engraved).level in
        any_first IsNearChain nodes chains (any_first IsNear (record { a = first.at; b = second.at }) (edges_along (second ∷ rest))
        (near_start cone depth first.at second.at w (plunge_near first (level_first first (second ∷ rest) level) plunge)))
    chains_near from ((first ∷ second ∷ rest) ∷ chains) engraved (inr (inr later)) =
        let nodes = first ∷ second ∷ rest in
        let level = (All-head (IsEngraved depth) nodes chains engraved).level in
        elim (nodes_near first (second ∷ rest) (flat_map (chain_places job) chains) level later) [
          | inl here ↦ elim here [
            | inl under ↦ any_first IsNearChain nodes chains (any_first IsNear (record { a = first.at; b = second.at }) (edges_along (second ∷ rest)) (near_start cone depth first.at second.at w under))
            | inr along ↦ any_first IsNearChain nodes chains along
          ]
          | inr behind ↦ any_later IsNearChain nodes chains (chains_near (last_place nodes) chains (All-tail (IsEngraved depth) nodes chains engraved) behind)
        ]

    -- ---- what is near is removed

    nodes_removed : (node : GridNode) (rest : List GridNode) (after : List GridPlace) → AreLevel (node ∷ rest) → Any IsNear (edges_along (node ∷ rest)) → RemovedThrough (node_place node) (behind node rest after)
    nodes_removed node [] after level near = absurd (any_none IsNear near)
    nodes_removed node (next ∷ rest) after level near =
        elim (any_cases IsNear (record { a = node.at; b = next.at }) (edges_along (next ∷ rest)) near) [
          | inl here ↦ inl (stroke_removed node next (level_first node (next ∷ rest) level) (level_first next rest (level_later node (next ∷ rest) level)) here)
          | inr later ↦ inr (nodes_removed next rest after (level_later node (next ∷ rest) level) later)
        ]

    removed_behind : (node : GridNode) (rest : List GridNode) (after : List GridPlace) → RemovedThrough (over (last_place (node ∷ rest))) after → RemovedThrough (node_place node) (behind node rest after)
    removed_behind node [] after removed = inr removed
    removed_behind node (next ∷ rest) after removed = inr (removed_behind next rest after removed)

    chains_removed : (from : GridPoint) (chains : List (List GridNode)) → All (IsEngraved depth) chains → Any IsNearChain chains → RemovedThrough (over from) (flat_map (chain_places job) chains)
    chains_removed from [] engraved near = absurd (any_none IsNearChain near)
    chains_removed from ([] ∷ chains) engraved near = let long = (All-head (IsEngraved depth) [] chains engraved).some in absurd (omega arith)
    chains_removed from ((first ∷ rest) ∷ chains) engraved near =
        elim (any_cases IsNearChain (first ∷ rest) chains near) [
          | inl here ↦ inr (inr (nodes_removed first rest (flat_map (chain_places job) chains) (All-head (IsEngraved depth) (first ∷ rest) chains engraved).level here))
          | inr later ↦
              inr (inr (removed_behind first rest (flat_map (chain_places job) chains)
              (chains_removed (last_place (first ∷ rest)) chains (All-tail (IsEngraved depth) (first ∷ rest) chains engraved) later)))
        ]

    -- ---- the program

    program_removes : (chains : List (List GridNode)) → All (IsEngraved depth) chains → Any IsRemover (moves_along (flat_map (chain_places job) chains)) ↔ Any IsNearChain chains
    program_removes [] engraved = ((λ some. absurd (any_none IsRemover some)), (λ some. absurd (any_none IsNearChain some)))
    program_removes ([] ∷ chains) engraved = let long = (All-head (IsEngraved depth) [] chains engraved).some in absurd (omega arith)
    program_removes ((first ∷ rest) ∷ chains) engraved =
        let all = (first ∷ rest) ∷ chains in
        let places = map node_place (first ∷ rest) ++ over (last_place (first ∷ rest)) ∷ [] in
        let moves = through_moves (λ mv. Removes cone mv w) 7 (over first.at) (places ++ flat_map (chain_places job) chains) in (
          (λ some. chains_near first.at all engraved (inr (moves.1 some))),
          (λ near. elim (chains_removed first.at all engraved near) [ inl travel ↦ absurd (travel_nothing first.at first.at travel) | inr removed ↦ moves.0 removed ]),
        )

pub strokes_cut : StrokesLaw
unfolding chain_moves
strokes_cut job depth strokes chains w some same =
    let cone = job.bit in
    let IsNear : Seg → Type 0 = IsNearStroke cone depth w in
    let IsNearChain : List GridNode → Type 0 = λ nodes. Any IsNear (edges_along nodes) in
    let engraved = All-permutation (IsEngraved depth) (chains_of depth strokes) chains same (chains_engraved depth strokes) in
    let program = program_removes cone w job depth some chains engraved in
    let order = any_permutation IsNearChain (chains_of depth strokes) chains same in
    let each = any_joined IsNear edges_along (chains_of depth strokes) in
    let all = along_strokes depth strokes in (
      (λ removed. subst (Any IsNear) all (each.0 (order.1 (program.0 removed)))),
      (λ near. program.1 (order.0 (each.1 (subst (Any IsNear) (sym all) near)))),
    )
