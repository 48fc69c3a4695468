-- What a program along chains of one depth sweeps there is what the conical bit removes along them at the depth of the radius.
use Rattle.std.specs.Prelude.{◌↔◌, flat_map, map, neg_ℤ}
use Rattle.std.specs.List.{All, Any}
use Rattle.std.proofs.Common.{◌≡◌, ◌⊎◌, ◌+◌, ◌≤◌, ℕ, List, [], ◌∷◌, ◌++◌, pos, inl, inr}
use Rattle.std.proofs.lemmas.List.Elements.{All-head, All-tail}
use Rattle.plane_exact.specs.Heights.{GridPlace}
use Rattle.plane_exact.specs.Nodes.{GridNode, last_place, node_place, place_over}
use Rattle.plane_exact.specs.Plane.{GridPoint, RationalPoint}
use Rattle.plane_exact.specs.declared.moves.LineMove.{LineMove}
use Rattle.engrave_model.specs.Removal.{Removes}
use Rattle.gcode_text.specs.Path.{chain_moves, chain_places, moves_along, moves_through}
use Rattle.gcode_text.specs.declared.job.Job.{Job}
use Rattle.flat_bit.specs.Discs.{disc_moves, moves_from, moves_over, right_cone}
use Rattle.flat_bit.specs.Left.{AreLevel, Sweeps}
use Rattle.gcode_text.proofs.Anys.{any_cases, any_either, any_first, any_later, any_left, any_none, any_right}
use Rattle.gcode_text.proofs.Through.{SomeThrough, through_moves}
use Rattle.flat_bit.proofs.Sweeping.{disc_move, removed_of_swept, removed_of_upright, swept_along, swept_down, travel_sweeps_none}

module _ (radius depth : ℕ) (some : 1 ≤ radius) (deep : 1 ≤ depth) (w : RationalPoint) where
  -- ---- some move of many

  -- some move from a place through others sweeps w
  abbrev SweptThrough : GridPlace → List GridPlace → Type 0
  SweptThrough = SomeThrough (Sweeps radius depth w)

  abbrev IsSweeper : LineMove → Type 0
  IsSweeper move = Sweeps radius depth w move.mv

  -- some move from a node through others removes w
  abbrev RemovedFrom : GridNode → List GridNode → Type 0
  RemovedFrom from [] = ⊥
  RemovedFrom from (to ∷ nodes) = Removes right_cone (disc_move radius depth some w from to) w ⊎ RemovedFrom to nodes

  -- some move over some chain does
  abbrev RemovedOver : List (List GridNode) → Type 0
  RemovedOver [] = ⊥
  RemovedOver ([] ∷ chains) = RemovedOver chains
  RemovedOver ((first ∷ rest) ∷ chains) = RemovedFrom first (first ∷ rest) ⊎ RemovedOver chains

  abbrev IsRemover : LineMove → Type 0
  IsRemover move = Removes right_cone move.mv w

  from_moves : (from : GridNode) (nodes : List GridNode) → RemovedFrom from nodes ↔ Any IsRemover (moves_from radius from nodes)
  from_moves from [] = ((λ none. absurd none), (λ some. any_none IsRemover some))
  from_moves from (to ∷ nodes) =
      let move : LineMove = record { line = 1; mv = disc_move radius depth some w from to } in
      let moves = moves_from radius to nodes in
      let rest = from_moves to nodes in (
        (λ some. elim some [ inl here ↦ any_first IsRemover move moves here | inr later ↦ any_later IsRemover move moves (rest.0 later) ]),
        (λ some. elim (any_cases IsRemover move moves some) [ inl here ↦ inl here | inr later ↦ inr (rest.1 later) ]),
      )

  over_moves : (chains : List (List GridNode)) → RemovedOver chains ↔ Any IsRemover (disc_moves radius chains)
  over_moves [] = ((λ none. absurd none), (λ some. any_none IsRemover some))
  over_moves ([] ∷ chains) = over_moves chains
  over_moves ((first ∷ rest) ∷ chains) =
      let these = moves_over radius (first ∷ rest) in
      let others = disc_moves radius chains in
      let here = from_moves first (first ∷ rest) in
      let there = over_moves chains in (
        (λ some. elim some [ inl one ↦ any_left IsRemover these others (here.0 one) | inr other ↦ any_right IsRemover these others (there.0 other) ]),
        (λ some. elim (any_either IsRemover these others some) [ inl one ↦ inl (here.1 one) | inr other ↦ inr (there.1 other) ]),
      )

  module _ (job : Job) where
    abbrev over : GridPoint → GridPlace
    over p = place_over p (pos job.safe)

    abbrev IsLevel : List GridNode → Type 0
    IsLevel nodes = All (λ node. node.depth ≡ depth) nodes

    level_first : (node : GridNode) (nodes : List GridNode) → IsLevel (node ∷ nodes) → node.depth ≡ depth
    level_first node nodes = All-head (λ node. node.depth ≡ depth) node nodes

    level_later : (node : GridNode) (nodes : List GridNode) → IsLevel (node ∷ nodes) → IsLevel nodes
    level_later node nodes = All-tail (λ node. node.depth ≡ depth) node nodes

    -- a move between two nodes or above one
    swept_move : (p q : GridNode) → Sweeps radius depth w (record { from = node_place p; to = node_place q }) → Removes right_cone (disc_move radius depth some w p q) w
    swept_move p q = removed_of_swept radius depth some w p q (neg_ℤ (pos p.depth)) (neg_ℤ (pos q.depth))

    abbrev behind : GridNode → List GridNode → List GridPlace → List GridPlace
    behind node rest after = (map node_place rest ++ over (last_place (node ∷ rest)) ∷ []) ++ after

    -- ---- what is swept is removed

    -- from a node, to which the bit came from `before`, through the others of its chain, up, and on
    nodes_removed : (before node : GridNode) (rest : List GridNode) (after : List GridPlace) → SweptThrough (node_place node) (behind node rest after)
        → (Removes right_cone (disc_move radius depth some w before node) w ⊎ RemovedFrom node rest) ⊎ SweptThrough (over (last_place (node ∷ rest))) after
    nodes_removed before node [] after (inl rise) = inl (inl (removed_of_upright radius depth some w before node (neg_ℤ (pos node.depth)) (pos job.safe) rise))
    nodes_removed before node [] after (inr later) = inr later
    nodes_removed before node (next ∷ rest) after (inl along) = inl (inr (inl (swept_move node next along)))
    nodes_removed before node (next ∷ rest) after (inr later) =
        elim (nodes_removed node next rest after later) [ inl here ↦ inl (inr here) | inr behind ↦ inr behind ]

    chains_removed : (from : GridPoint) (chains : List (List GridNode)) → SweptThrough (over from) (flat_map (chain_places job) chains) → RemovedOver chains
    chains_removed from [] none = none
    chains_removed from ([] ∷ chains) swept = chains_removed from chains swept
    chains_removed from ((first ∷ rest) ∷ chains) (inl travel) = absurd (travel_sweeps_none radius depth some w from first.at job.safe deep travel)
    chains_removed from ((first ∷ rest) ∷ chains) (inr (inl down)) =
        inl (inl (removed_of_upright radius depth some w first first (pos job.safe) (neg_ℤ (pos first.depth)) down))
    chains_removed from ((first ∷ rest) ∷ chains) (inr (inr later)) =
        elim (nodes_removed first first rest (flat_map (chain_places job) chains) later) [
          | inl here ↦ inl here
          | inr behind ↦ inr (chains_removed (last_place (first ∷ rest)) chains behind)
        ]

    -- ---- what is removed is swept

    nodes_swept : (node : GridNode) (rest : List GridNode) (after : List GridPlace) → IsLevel (node ∷ rest) → RemovedFrom node rest → SweptThrough (node_place node) (behind node rest after)
    nodes_swept node [] after level none = absurd none
    nodes_swept node (next ∷ rest) after level (inl here) =
        inl (swept_along radius depth some w node next (level_first node (next ∷ rest) level) (level_first next rest (level_later node (next ∷ rest) level)) here)
    nodes_swept node (next ∷ rest) after level (inr later) = inr (nodes_swept next rest after (level_later node (next ∷ rest) level) later)

    swept_behind : (node : GridNode) (rest : List GridNode) (after : List GridPlace) → SweptThrough (over (last_place (node ∷ rest))) after → SweptThrough (node_place node) (behind node rest after)
    swept_behind node [] after swept = inr swept
    swept_behind node (next ∷ rest) after swept = inr (swept_behind next rest after swept)

    chains_swept : (from : GridPoint) (chains : List (List GridNode)) → AreLevel depth chains → RemovedOver chains → SweptThrough (over from) (flat_map (chain_places job) chains)
    chains_swept from [] level none = none
    chains_swept from ([] ∷ chains) level removed = chains_swept from chains (All-tail IsLevel [] chains level) removed
    chains_swept from ((first ∷ rest) ∷ chains) level (inl (inl stays)) =
        inr (inl (swept_down radius depth some w first (pos job.safe) (level_first first rest (All-head IsLevel (first ∷ rest) chains level)) stays))
    chains_swept from ((first ∷ rest) ∷ chains) level (inl (inr along)) =
        inr (inr (nodes_swept first rest (flat_map (chain_places job) chains) (All-head IsLevel (first ∷ rest) chains level) along))
    chains_swept from ((first ∷ rest) ∷ chains) level (inr later) =
        inr (inr (swept_behind first rest (flat_map (chain_places job) chains) (chains_swept (last_place (first ∷ rest)) chains (All-tail IsLevel (first ∷ rest) chains level) later)))

    -- ---- the program

    program_sweeps : (chains : List (List GridNode)) → AreLevel depth chains → Any IsSweeper (moves_along (flat_map (chain_places job) chains)) ↔ RemovedOver chains
    program_sweeps [] level = ((λ some. any_none IsSweeper some), (λ none. absurd none))
    program_sweeps ([] ∷ chains) level = program_sweeps chains (All-tail IsLevel [] chains level)
    program_sweeps ((first ∷ rest) ∷ chains) level =
        let all = (first ∷ rest) ∷ chains in
        let places = map node_place (first ∷ rest) ++ over (last_place (first ∷ rest)) ∷ [] in
        let moves = through_moves (Sweeps radius depth w) 7 (over first.at) (places ++ flat_map (chain_places job) chains) in (
          (λ some. chains_removed first.at all (inr (moves.1 some))),
          (λ removed. elim (chains_swept first.at all level removed) [ inl travel ↦ absurd (travel_sweeps_none radius depth some w first.at first.at job.safe deep travel) | inr swept ↦ moves.0 swept ]),
        )

    pub removed_is_swept : (chains : List (List GridNode)) → AreLevel depth chains → Any IsRemover (disc_moves radius chains) ↔ Any IsSweeper (chain_moves job chains)
    unfolding chain_moves
    removed_is_swept chains level =
        let program = program_sweeps chains level in
        let moves = over_moves chains in (
          (λ removed. program.1 (moves.1 removed)),
          (λ swept. moves.0 (program.0 swept)),
        )
