-- The moves of sound chains are clear, and they end at each node.
use Rattle.std.proofs.Common.{◌≡◌, ◌+◌, ◌≤◌, ℕ, zero, suc, List, [], ◌∷◌, ◌++◌, pos, neg_ℤ, All, map, flat_map, arith, inl, inr, refl, ap}
use Rattle.std.specs.List.{Any, Contains}
use Rattle.std.proofs.lemmas.List.Elements.{All-head, All-tail, Contains-append_cases, Contains-append_left, Contains-append_right}
use Rattle.plane_exact.specs.Cone.{Cone}
use Rattle.plane_exact.specs.Heights.{GridPlace}
use Rattle.plane_exact.specs.Moves.{depth_of}
use Rattle.plane_exact.specs.Nodes.{GridNode, joined, last_place, node_place, place_over}
use Rattle.plane_exact.specs.Plane.{GridPoint}
use Rattle.plane_exact.specs.declared.moves.LineMove.{LineMove}
use Rattle.engrave_model.specs.Drawing.{edges_of}
use Rattle.gcode_text.specs.Path.{chain_moves, chain_places, moves_along, moves_through}
use Rattle.gcode_text.specs.declared.job.Job.{Job}
use Rattle.gouge_checker.specs.Verdict.{IsVerdict}
use Rattle.gouge_checker.specs.declared.verdict.Verdict.TheVariants.{Clear}
use Rattle.swept_move.specs.Clear.{IsClear}
use Rattle.depth_rule.specs.Along.{IsSound}
use Rattle.carve_plan.proofs.Sound.{FitsAt}
use Rattle.carve_plan.proofs.Staying.{clear_in_place, tenths_deep}
use Rattle.carve_plan.proofs.Visiting.{later_there}

node_depth : (z : ℕ) → depth_of (neg_ℤ (pos z)) ≡ z
node_depth zero = refl
node_depth (suc z) = refl

module _ (loops : List (List GridPoint)) (cone : Cone) (some : 1 ≤ cone.sn) where
  abbrev IsClearMove : GridPlace → GridPlace → Type 0
  IsClearMove p q = IsClear (edges_of loops) cone (record { from = p; to = q })

  -- the moves from a place through others are clear
  abbrev IsClearThrough : GridPlace → List GridPlace → Type 0
  IsClearThrough from [] = Unit {0}
  IsClearThrough from (to ∷ places) = IsClearMove from to × IsClearThrough to places

  verdict_through : (line : ℕ) (from : GridPlace) (places : List GridPlace) → IsClearThrough from places → IsVerdict (edges_of loops) cone (moves_through line from places) Clear
  verdict_through line from [] clear = refl
  verdict_through line from (to ∷ places) clear = inl (clear.0, verdict_through (line + 1) to places clear.1)

  verdict_along : (from : GridPlace) (places : List GridPlace) → IsClearThrough from places → IsVerdict (edges_of loops) cone (moves_along places) Clear
  verdict_along from [] clear = refl
  verdict_along from (start ∷ places) clear = verdict_through 7 start places clear.1

  -- over the surface
  travel : (safe : ℕ) (p q : GridPoint) → IsClearMove (place_over p (pos safe)) (place_over q (pos safe))
  travel safe p q = inl (λ deep. elim deep [
    | inl from ↦ absurd (let at = tenths_deep (pos safe) in omega arith)
    | inr to ↦ absurd (let at = tenths_deep (pos safe) in omega arith)
  ])

  module _ (limit : ℕ) where
    plunge : (safe : ℕ) (node : GridNode) → FitsAt (edges_of loops) cone limit node → IsClearMove (place_over node.at (pos safe)) (node_place node)
    plunge safe node fits =
        let deep = node_depth node.depth in
        clear_in_place loops cone limit node.at node.depth (pos safe) (neg_ℤ (pos node.depth)) (omega arith) (omega arith) some fits

    rise : (safe : ℕ) (node : GridNode) → FitsAt (edges_of loops) cone limit node → IsClearMove (node_place node) (place_over node.at (pos safe))
    rise safe node fits =
        let deep = node_depth node.depth in
        clear_in_place loops cone limit node.at node.depth (neg_ℤ (pos node.depth)) (pos safe) (omega arith) (omega arith) some fits

    module _ (job : Job) where
      -- from a node through the others of its chain, up, and on
      nodes_clear : (node : GridNode) (rest : List GridNode) (after : List GridPlace) → IsSound (edges_of loops) cone limit (node ∷ rest)
          → IsClearThrough (place_over (last_place (node ∷ rest)) (pos job.safe)) after
          → IsClearThrough (node_place node) ((map node_place rest ++ place_over (last_place (node ∷ rest)) (pos job.safe) ∷ []) ++ after)
      nodes_clear node [] after sound clear = (rise job.safe node (All-head (FitsAt (edges_of loops) cone limit) node [] sound.fits), clear)
      nodes_clear node (next ∷ rest) after sound clear = (
        sound.clear.0,
        nodes_clear next rest after (record { fits = All-tail (FitsAt (edges_of loops) cone limit) node (next ∷ rest) sound.fits; clear = sound.clear.1 }) clear,
      )

      chains_clear : (from : GridPoint) (plan : List (List GridNode)) → All (IsSound (edges_of loops) cone limit) plan
          → IsClearThrough (place_over from (pos job.safe)) (flat_map (chain_places job) plan)
      chains_clear from [] sound = tt
      chains_clear from ([] ∷ plan) sound = chains_clear from plan (All-tail (IsSound (edges_of loops) cone limit) [] plan sound)
      chains_clear from ((first ∷ rest) ∷ plan) sound =
          let here = All-head (IsSound (edges_of loops) cone limit) (first ∷ rest) plan sound in (
            travel job.safe from first.at,
            (
              plunge job.safe first (All-head (FitsAt (edges_of loops) cone limit) first rest here.fits),
              nodes_clear first rest (flat_map (chain_places job) plan) here
                  (chains_clear (last_place (first ∷ rest)) plan (All-tail (IsSound (edges_of loops) cone limit) (first ∷ rest) plan sound)),
            ),
          )

      pub plan_clear : (from : GridPoint) (plan : List (List GridNode)) → All (IsSound (edges_of loops) cone limit) plan
          → IsVerdict (edges_of loops) cone (chain_moves job plan) Clear
      unfolding chain_moves
      plan_clear from plan sound = verdict_along (place_over from (pos job.safe)) (flat_map (chain_places job) plan) (chains_clear from plan sound)

-- ---- where the moves end

abbrev EndsAt : GridPlace → LineMove → Type 0
EndsAt place move = move.mv.to ≡ place

ends_through : (line : ℕ) (from : GridPlace) (places : List GridPlace) (place : GridPlace) → Contains places place → Any (EndsAt place) (moves_through line from places)
ends_through line from [] place there = absurd (let below = there.1 in omega arith)
ends_through line from (to ∷ places) place (zero, below, is) = (0, record { line = line; mv = record { from = from; to = to } }, omega arith, refl, is)
ends_through line from (to ∷ places) place (suc k, below, is) =
    let later = ends_through (line + 1) to places place (k, omega arith, is) in
    (suc later.0, later.1, let there = later.2 in omega arith, later.3, later.4)

-- the places behind the first
abbrev behind : List GridPlace → List GridPlace
behind [] = []
behind (_ ∷ places) = places

ends_along : (places : List GridPlace) (place : GridPlace) → Contains (behind places) place → Any (EndsAt place) (moves_along places)
ends_along [] place there = absurd (let below = there.1 in omega arith)
ends_along (start ∷ places) place there = ends_through 7 start places place there

behind_there : (places : List GridPlace) (place : GridPlace) → Contains (behind places) place → Contains places place
behind_there [] place there = there
behind_there (start ∷ places) place there = later_there start places place there

mapped_there : (nodes : List GridNode) (node : GridNode) → Contains nodes node → Contains (map node_place nodes) (node_place node)
mapped_there [] node there = absurd (let below = there.1 in omega arith)
mapped_there (first ∷ nodes) node (zero, below, is) = (0, omega arith, ap node_place is)
mapped_there (first ∷ nodes) node (suc k, below, is) = later_there (node_place first) (map node_place nodes) (node_place node) (mapped_there nodes node (k, omega arith, is))

module _ (job : Job) where
  nodes_behind_first : (plan : List (List GridNode)) (node : GridNode) → Contains (joined plan) node → Contains (behind (flat_map (chain_places job) plan)) (node_place node)
  nodes_behind_first [] node there = absurd (let below = there.1 in omega arith)
  nodes_behind_first ([] ∷ plan) node there = nodes_behind_first plan node there
  nodes_behind_first ((first ∷ rest) ∷ plan) node there =
      let nodes = map node_place (first ∷ rest) in
      let up = place_over (last_place (first ∷ rest)) (pos job.safe) ∷ [] in
      let after = flat_map (chain_places job) plan in
      elim (Contains-append_cases (first ∷ rest) (joined plan) node there) [
        | inl here ↦ Contains-append_left (nodes ++ up) after (node_place node) (Contains-append_left nodes up (node_place node) (mapped_there (first ∷ rest) node here))
        | inr later ↦ Contains-append_right (nodes ++ up) after (node_place node) (behind_there after (node_place node) (nodes_behind_first plan node later))
      ]

  -- some move ends at each node of the plan
  pub node_reached : (plan : List (List GridNode)) (node : GridNode) → Contains (joined plan) node → Any (λ move. move.mv.to ≡ node_place node) (chain_moves job plan)
  unfolding chain_moves
  node_reached plan node there = ends_along (flat_map (chain_places job) plan) (node_place node) (nodes_behind_first plan node there)
