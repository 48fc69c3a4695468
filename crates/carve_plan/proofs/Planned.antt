-- What the program of a plan is worth: it is clear and safe, and it reaches each contact's node.
use Rattle.std.proofs.Common.{◌≡◌, ◌≤◌, ◌++◌, ◌∷◌, [], ℕ, zero, suc, List, All, None, Some, length, map, arith, refl, ap, inl, inr, subst, sym, ◌∙◌}
use Rattle.std.specs.List.{AllZip, Any, Contains, range_with_len}
use Rattle.std.specs.List.Sorted.{IsPermutation}
use Rattle.std.proofs.lemmas.List.FromFn.{fill_by_all}
use Rattle.std.proofs.lemmas.List.Elements.{All-append, All-cons, All-nil, Contains-append_cases, Contains-append_left, Contains-append_right}
use Rattle.std.proofs.lemmas.List.Sorted.{All-permutation, Contains-permutation, IsPermutation-map, length_permutation, sum_by-IsPermutation}
use Rattle.std.proofs.lemmas.List.Concat.{length-flat_map}
use Rattle.plane_exact.specs.Cone.{Cone}
use Rattle.plane_exact.specs.Nodes.{AreWithinLimits, GridNode, joined, node_place, origin}
use Rattle.plane_exact.specs.declared.node.TheConstants.{MOST_CHAINS, MOST_NODES}
use Rattle.plane_exact.specs.Plane.{GridPoint}
use Rattle.plane_exact.specs.declared.moves.LineMove.{LineMove}
use Rattle.engrave_model.specs.Drawing.{edges_of}
use Rattle.gcode_text.specs.Path.{chain_moves}
use Rattle.gouge_checker.proofs.Safety.{clear_code_is_safe}
use Rattle.depth_rule.specs.Along.{IsSound}
use Rattle.link_split.specs.Midway.{IsDeepest}
use Rattle.path_order.specs.Order.{IsOrder, chain_at}
use Rattle.tangent_disc.specs.declared.contact.Contact.{Contact}
use Rattle.carve_plan.specs.Law.{IsReached, PlanLaw}
use Rattle.carve_plan.specs.Made.{nodes_of}
use Rattle.cleanup_pocket.proofs.Sound.{pocket_sound}
use Rattle.carve_plan.specs.Plan.{ArePocketChains, AskedPocket, IsPlan}
use Rattle.carve_plan.specs.Stops.{AreRounds, IsStop}
use Rattle.carve_plan.specs.declared.stop.Stop.{Stop}
use Rattle.carve_plan.proofs.Paths.{node_reached, plan_clear}
use Rattle.carve_plan.proofs.Sound.{rounds_sound}
use Rattle.carve_plan.proofs.Visiting.{first_there, later_there, rounds_visited}

-- ---- the chains in their order

-- chains put in an order are the same ones
pub same_chains : (chains : List (List GridNode)) (order : List ℕ) → IsOrder chains order → IsPermutation chains (map (chain_at chains) order)
same_chains chains order ordered =
    let all = fill_by_all (chain_at chains) chains (length chains) [] refl (λ k below. refl) in
    subst (λ cs. IsPermutation cs (map (chain_at chains) order)) (sym all) (IsPermutation-map (chain_at chains) (range_with_len 0 (length chains)) order ordered.once)

-- the node is in one of the chains
record IsInSome (chains : List (List GridNode)) (node : GridNode) : Type 0 where
  pub chain : List GridNode
  pub there : Contains chains chain
  pub inside : Contains chain node

in_some : (chains : List (List GridNode)) (node : GridNode) → Contains (joined chains) node → IsInSome chains node
in_some [] node there = absurd (let below = there.1 in omega arith)
in_some (chain ∷ chains) node there = elim (Contains-append_cases chain (joined chains) node there) [
  | inl here ↦ record { chain = chain; there = first_there chain chains; inside = here }
  | inr later ↦
      (let some = in_some chains node later in
      record { chain = some.chain; there = later_there chain chains some.chain some.there; inside = some.inside })
]

in_joined : (chains : List (List GridNode)) (chain : List GridNode) (node : GridNode) → Contains chains chain → Contains chain node → Contains (joined chains) node
in_joined [] chain node there inside = absurd (let below = there.1 in omega arith)
in_joined (first ∷ chains) chain node (zero, below, is) inside = Contains-append_left first (joined chains) node (subst (λ c. Contains c node) (sym is) inside)
in_joined (first ∷ chains) chain node (suc k, below, is) inside = Contains-append_right first (joined chains) node (in_joined chains chain node (k, omega arith, is) inside)

-- ---- the nodes of the stops

nodes_append : (xs ys : List Stop) → nodes_of (xs ++ ys) ≡ nodes_of xs ++ nodes_of ys
nodes_append [] ys = refl
nodes_append (stop ∷ xs) ys = ap (λ nodes. stop.node ∷ nodes) (nodes_append xs ys)

-- the rounds have the nodes of all stops, in turn
rounds_joined : (rounds : List (List GridNode)) (stops : List Stop) → AreRounds stops rounds → nodes_of stops ≡ joined rounds
rounds_joined [] stops none = ap nodes_of none
rounds_joined (round ∷ rounds) stops are =
    let is = are.is in
    ap nodes_of is.parted ∙ nodes_append (is.first ∷ is.others) are.later ∙ ap (λ nodes. nodes ++ nodes_of are.later) (sym is.nodes)
    ∙ ap (λ nodes. round ++ nodes) (rounds_joined rounds are.later are.others)

-- in another order there are as many chains and nodes
pub same_within : (chains ordered : List (List GridNode)) → IsPermutation chains ordered → AreWithinLimits chains → AreWithinLimits ordered
same_within chains ordered same within =
    let nodes = length-flat_map (λ (part : List GridNode). part) in
    record {
      chains_le = subst (λ n. n ≤ MOST_CHAINS) (sym (length_permutation chains ordered same)) within.chains_le;
      nodes_le = subst (λ n. n ≤ MOST_NODES) (sym (nodes ordered ∙ sum_by-IsPermutation (λ chain. length chain) chains ordered same ∙ sym (nodes chains))) within.nodes_le;
    }

pub plan_within : (loops : List (List GridPoint)) (cone : Cone) (limit step : ℕ) (asked : AskedPocket) (plan : List (List GridNode))
    → IsPlan loops cone limit step asked plan → AreWithinLimits plan
plan_within loops cone limit step asked plan is =
    let chains = is.chains ++ is.pocket in
    same_within chains plan (subst (IsPermutation chains) (sym is.are) (same_chains chains is.order is.ordered)) is.within

module _ (loops : List (List GridPoint)) (cone : Cone) (limit : ℕ) where
  stops_deepest : (contacts : List Contact) (stops : List Stop) → AllZip (IsStop loops cone limit) contacts stops → All (IsDeepest (edges_of loops) cone limit) (nodes_of stops)
  stops_deepest [] [] each = All-nil (IsDeepest (edges_of loops) cone limit)
  stops_deepest [] (stop ∷ stops) each = absurd each
  stops_deepest (c ∷ contacts) [] each = absurd each
  stops_deepest (c ∷ contacts) (stop ∷ stops) each =
      All-cons (IsDeepest (edges_of loops) cone limit) stop.node (nodes_of stops) each.0.node.deepest (stops_deepest contacts stops each.1)

  contacts_reached : (moves : List LineMove) (contacts : List Contact) (stops : List Stop) → AllZip (IsStop loops cone limit) contacts stops
      → ((node : GridNode) → Contains (nodes_of stops) node → Any (λ move. move.mv.to ≡ node_place node) moves) → All (IsReached loops cone limit moves) contacts
  contacts_reached moves [] [] each reaches = All-nil (IsReached loops cone limit moves)
  contacts_reached moves [] (stop ∷ stops) each reaches = absurd each
  contacts_reached moves (c ∷ contacts) [] each reaches = absurd each
  contacts_reached moves (c ∷ contacts) (stop ∷ stops) each reaches =
      All-cons (IsReached loops cone limit moves) c contacts
      (record { node = stop.node; is = each.0.node; ends = reaches stop.node (first_there stop.node (nodes_of stops)) })
      (contacts_reached moves contacts stops each.1 (λ node there. reaches node (later_there stop.node (nodes_of stops) node there)))

-- the chains of a pocket that is asked for are sound, and so is none
asked_sound : (loops : List (List GridPoint)) (cone : Cone) (limit : ℕ) (asked : AskedPocket) (pocket : List (List GridNode)) → 1 ≤ cone.sn
    → ArePocketChains loops cone limit asked pocket → All (IsSound (edges_of loops) cone limit) pocket
asked_sound loops cone limit None pocket some none = subst (All (IsSound (edges_of loops) cone limit)) (sym none) (All-nil (IsSound (edges_of loops) cone limit))
asked_sound loops cone limit (Some (way, over)) pocket some is = pocket_sound loops cone limit over way pocket some is

pub plan_carves : PlanLaw
plan_carves loops cone limit step asked job plan some is =
    let around = is.around in
    let parts = is.linked.parts in
    let chains = is.chains ++ is.pocket in
    let moves = chain_moves job plan in
    let all = rounds_joined is.rounds around.stops around.parted in
    let deepest = subst (All (IsDeepest (edges_of loops) cone limit)) all (stops_deepest loops cone limit around.contacts around.stops around.each) in
    let same = subst (IsPermutation chains) (sym is.are) (same_chains chains is.order is.ordered) in
    let round = subst (All (IsSound (edges_of loops) cone limit)) (sym is.linked.are) (rounds_sound (edges_of loops) cone limit is.rounds parts deepest is.linked.each) in
    let sound = All-permutation (IsSound (edges_of loops) cone limit) chains plan same
    (All-append (IsSound (edges_of loops) cone limit) is.chains is.pocket round (asked_sound loops cone limit asked is.pocket some is.milled))
    in
    let clear = plan_clear loops cone some limit job origin plan sound in
    record {
      clear = clear;
      safe = clear_code_is_safe loops cone moves clear;
      reaches = record {
        contacts = around.contacts;
        listed = around.listed;
        each = contacts_reached loops cone limit moves around.contacts around.stops around.each (λ node there.
            let visited = rounds_visited (edges_of loops) cone limit is.rounds parts deepest is.linked.each node (subst (λ nodes. Contains nodes node) all there) in
            let held = in_some is.chains node (subst (λ cs. Contains (joined cs) node) (sym is.linked.are) visited) in
            let there = Contains-append_left is.chains is.pocket held.chain held.there in
            node_reached job plan node (in_joined plan held.chain node (Contains-permutation chains plan held.chain same there) held.inside));
      };
    }
