-- What a flat bit mills along the chains of a floor is in the target.
use Rattle.std.specs.List.{All, Any}
use Rattle.std.specs.Prelude.{flat_map, if◌then◌else◌, int_lt, map}
use Rattle.std.proofs.Common.{◌≡◌, ◌≢◌, ◌≤◌, ◌⊎◌, ◌+◌, zero, suc, ℕ, Bool, true, false, List, [], ◌∷◌, ◌++◌, ℤ, pos, neg_ℤ, ◌≤ℤ◌, ◌<ℤ◌, arith, ap, inl, inr, refl, subst, sym}
use Rattle.std.proofs.lemmas.Int.{ints}
use Rattle.std.proofs.lemmas.List.Elements.{All-cons, All-head, All-nil, All-tail}
use Rattle.std.proofs.lemmas.List.Sorted.{All-permutation}
use Rattle.plane_exact.specs.Cone.{Cone}
use Rattle.plane_exact.specs.Heights.{GridPlace}
use Rattle.plane_exact.specs.Nodes.{GridNode, last_place, node_place, place_over}
use Rattle.plane_exact.specs.Plane.{GridPoint, IsBetween, RationalPoint, rational}
use Rattle.plane_exact.specs.declared.moves.LineMove.{LineMove}
use Rattle.plane_exact.specs.declared.point.Seg.{Seg}
use Rattle.engrave_model.specs.Drawing.{edges_of}
use Rattle.gcode_text.specs.Path.{chain_moves, chain_places, moves_along, moves_through}
use Rattle.gcode_text.specs.declared.job.Job.{Job}
use Rattle.depth_rule.specs.Deepest.{deepest_of}
use Rattle.cleanup_pocket.specs.Floors.{IsJoinedBy, chain_along, node_on, point_on}
use Rattle.cleanup_pocket.specs.Runs.{IsLongest, Run}
use Rattle.cleanup_pocket.specs.declared.axis.Axis.{Axis}
use Rattle.flat_bit.specs.Flat.{IsFlatGood, IsFlatWay}
use Rattle.flat_bit.specs.Law.{FloorLaw, LevelLaw}
use Rattle.flat_bit.specs.Target.{Depth, IsInTarget, Mills}
use Rattle.flat_bit.proofs.FloorChains.{floor_all}
use Rattle.flat_bit.proofs.Steps.{on_step}
use Rattle.flat_bit.proofs.Milling.{milled_below, milled_from, milled_over, mills_nothing}
use Rattle.flat_bit.proofs.Rooms.{HasRoom, good_room, room_target, way_room}

-- ---- chains

-- a node at the deepest depth, over which the axis of the bit may be
record IsRoomy (edges : List Seg) (cone : Cone) (limit radius : ℕ) (node : GridNode) : Type 0 where
  level : node.depth ≡ deepest_of cone limit
  room : HasRoom edges cone limit radius (rational node.at)

module _ (loops : List (List GridPoint)) (cone : Cone) (limit radius : ℕ) (steep : 1 ≤ cone.sn) (over : 1 ≤ cone.sd) (some : 1 ≤ radius) where
  abbrev edges : List Seg
  edges = edges_of loops

  abbrev deepest : ℕ
  deepest = deepest_of cone limit

  abbrev Room : RationalPoint → Type 0
  Room = HasRoom edges cone limit radius

  -- the nodes of a chain, of which there is one, and the ways between them
  abbrev AreRoomy : List GridNode → Type 0
  AreRoomy [] = ⊥
  AreRoomy (node ∷ []) = IsRoomy edges cone limit radius node
  AreRoomy (node ∷ next ∷ rest) = IsRoomy edges cone limit radius node × (((u : RationalPoint) → IsBetween node.at next.at u → Room u) × AreRoomy (next ∷ rest))

  abbrev Good : Axis → (line place : ℤ) → Type 0
  Good = IsFlatGood edges cone limit radius

  abbrev Way : Axis → (line place : ℤ) → Type 0
  Way = IsFlatWay edges cone limit radius

  run_roomy : deepest ≢ 0 → (axis : Axis) (line : ℤ) (run : Run) → IsLongest (Good axis line) (IsJoinedBy Good Way axis line) run → AreRoomy (chain_along axis line deepest run)
  run_roomy deep axis line run longest = by_test (int_lt run.first run.last) refl
    where
      order : run.first ≤ℤ run.last
      order = longest.order

      roomy : (place : ℤ) → run.first ≤ℤ place → place ≤ℤ run.last → IsRoomy edges cone limit radius (node_on axis line deepest place)
      roomy place from to = record { level = refl; room = good_room loops cone limit radius steep over some axis line place (longest.good place (record { from = from; to = to })) }

      along : run.first <ℤ run.last → (u : RationalPoint) → IsBetween (point_on axis line run.first) (point_on axis line run.last) u → Room u
      along several u between =
          let step = on_step axis line run.first run.last u several between in
          let joined = longest.joined step.place step.from step.to in
          way_room loops cone limit radius steep over some (some_depth deepest deep) axis line step.place u joined.this joined.way step.on
        where
          some_depth : (n : ℕ) → n ≢ 0 → 1 ≤ n
          some_depth zero none = absurd (none refl)
          some_depth (suc n) none = omega arith

      by_test : (several : Bool) → int_lt run.first run.last ≡ several
          → AreRoomy (if several then node_on axis line deepest run.first ∷ node_on axis line deepest run.last ∷ [] else node_on axis line deepest run.first ∷ [])
      by_test true is = (roomy run.first (omega (arith, ints)) order, (along (omega (arith, ints)), roomy run.last order (omega (arith, ints))))
      by_test false is = roomy run.first (omega (arith, ints)) order

  -- ---- moves

  module _ (job : Job) (w : RationalPoint) (depth : Depth) where
    -- some move from a place through others mills it
    abbrev MilledThrough : GridPlace → List GridPlace → Type 0
    MilledThrough from [] = ⊥
    MilledThrough from (to ∷ places) = Mills radius w depth (record { from = from; to = to }) ⊎ MilledThrough to places

    through : (line : ℕ) (from : GridPlace) (places : List GridPlace) → Any (λ move. Mills radius w depth move.mv) (moves_through line from places) → MilledThrough from places
    through line from [] (k, move, below, is, mills) = absurd (omega arith)
    through line from (to ∷ places) (zero, move, below, is, mills) = inl (subst (λ (move : LineMove). Mills radius w depth move.mv) (sym is) mills)
    through line from (to ∷ places) (suc k, move, below, is, mills) = inr (through (line + 1) to places (k, move, omega arith, is, mills))

    abbrev safe : GridPoint → GridPlace
    safe p = place_over p (pos job.safe)

    abbrev Target : Type 0
    Target = IsInTarget edges cone limit w depth

    abbrev floor : ℤ
    floor = neg_ℤ (pos deepest)

    -- the tip is at the floor
    at_floor : (node : GridNode) → node.depth ≡ deepest → node_place node ≡ place_over node.at floor
    at_floor node is = ap (λ z. place_over node.at (neg_ℤ (pos z))) is

    plunge_target : (node : GridNode) → IsRoomy edges cone limit radius node → Mills radius w depth (record { from = safe node.at; to = node_place node }) → Target
    plunge_target node roomy mills =
        let level = subst (λ to. Mills radius w depth (record { from = safe node.at; to = to })) (at_floor node roomy.level) mills in
        room_target loops cone limit radius steep over some (rational node.at) w depth roomy.room
        (milled_over radius w depth node.at (pos job.safe) floor level) (milled_below radius w depth node.at node.at (pos job.safe) floor deepest (omega (arith, ints)) (omega (arith, ints)) level)

    rise_target : (node : GridNode) → IsRoomy edges cone limit radius node → Mills radius w depth (record { from = node_place node; to = safe node.at }) → Target
    rise_target node roomy mills =
        let level = subst (λ from. Mills radius w depth (record { from = from; to = safe node.at })) (at_floor node roomy.level) mills in
        room_target loops cone limit radius steep over some (rational node.at) w depth roomy.room
        (milled_over radius w depth node.at floor (pos job.safe) level) (milled_below radius w depth node.at node.at floor (pos job.safe) deepest (omega (arith, ints)) (omega (arith, ints)) level)

    straight_target : (p q : GridNode) → p.depth ≡ deepest → q.depth ≡ deepest → ((u : RationalPoint) → IsBetween p.at q.at u → Room u)
        → Mills radius w depth (record { from = node_place p; to = node_place q }) → Target
    straight_target p q is_p is_q room mills =
        let level = subst (λ to. Mills radius w depth (record { from = place_over p.at floor; to = to })) (at_floor q is_q)
        (subst (λ from. Mills radius w depth (record { from = from; to = node_place q })) (at_floor p is_p) mills) in
        let from = milled_from radius w depth p.at q.at floor floor level in
        room_target loops cone limit radius steep over some from.over w depth (room from.over from.on) from.near
        (milled_below radius w depth p.at q.at floor floor deepest (omega (arith, ints)) (omega (arith, ints)) level)

    travel_nothing : (p q : GridPoint) → ¬ Mills radius w depth (record { from = safe p; to = safe q })
    travel_nothing p q = mills_nothing radius w depth p q (pos job.safe) (pos job.safe) (omega (arith, ints)) (omega (arith, ints))

    first_roomy : (node : GridNode) (rest : List GridNode) → AreRoomy (node ∷ rest) → IsRoomy edges cone limit radius node
    first_roomy node [] roomy = roomy
    first_roomy node (next ∷ rest) roomy = roomy.0

    -- from a node through the others of its chain, up, and on
    nodes_target : (node : GridNode) (rest : List GridNode) (after : List GridPlace) → AreRoomy (node ∷ rest)
        → MilledThrough (node_place node) ((map node_place rest ++ safe (last_place (node ∷ rest)) ∷ []) ++ after) → Target ⊎ MilledThrough (safe (last_place (node ∷ rest))) after
    nodes_target node [] after roomy (inl rise) = inl (rise_target node roomy rise)
    nodes_target node [] after roomy (inr later) = inr later
    nodes_target node (next ∷ rest) after roomy (inl straight) = inl (straight_target node next roomy.0.level (first_roomy next rest roomy.1.1).level roomy.1.0 straight)
    nodes_target node (next ∷ rest) after roomy (inr later) = nodes_target next rest after roomy.1.1 later

    chains_target : (from : GridPoint) (chains : List (List GridNode)) → All AreRoomy chains → MilledThrough (safe from) (flat_map (chain_places job) chains) → Target
    chains_target from [] roomy milled = absurd milled
    chains_target from ([] ∷ chains) roomy milled = absurd (All-head AreRoomy [] chains roomy)
    chains_target from ((first ∷ rest) ∷ chains) roomy (inl travel) = absurd (travel_nothing from first.at travel)
    chains_target from ((first ∷ rest) ∷ chains) roomy (inr (inl plunge)) = plunge_target first (first_roomy first rest (All-head AreRoomy (first ∷ rest) chains roomy)) plunge
    chains_target from ((first ∷ rest) ∷ chains) roomy (inr (inr later)) =
        elim (nodes_target first rest (flat_map (chain_places job) chains) (All-head AreRoomy (first ∷ rest) chains roomy) later) [
          | inl here ↦ here
          | inr behind ↦ chains_target (last_place (first ∷ rest)) chains (All-tail AreRoomy (first ∷ rest) chains roomy) behind
        ]

    moves_target : (chains : List (List GridNode)) → All AreRoomy chains → Any (λ move. Mills radius w depth move.mv) (moves_along (flat_map (chain_places job) chains)) → Target
    moves_target [] roomy (k, move, below, is, mills) = absurd (omega arith)
    moves_target ([] ∷ chains) roomy milled = absurd (All-head AreRoomy [] chains roomy)
    moves_target ((first ∷ rest) ∷ chains) roomy milled =
        chains_target first.at ((first ∷ rest) ∷ chains) roomy
        (inr (through 7 (safe first.at) ((map node_place (first ∷ rest) ++ safe (last_place (first ∷ rest)) ∷ []) ++ flat_map (chain_places job) chains) milled))

-- ---- the laws

pub floored : FloorLaw
unfolding chain_moves
floored loops cone limit radius stride way all chains job w depth steep over some flat same mills =
    let Roomy : List GridNode → Type 0 = AreRoomy loops cone limit radius steep over some in
    let each = floor_all (IsFlatGood (edges_of loops) cone limit radius) (IsFlatWay (edges_of loops) cone limit radius) (deepest_of cone limit) Roomy loops stride way all
    (run_roomy loops cone limit radius steep over some) flat in
    moves_target loops cone limit radius steep over some job w depth chains (All-permutation Roomy all chains same each) mills

pub levelled : LevelLaw
levelled loops cone limit radius stride way all chains flat same =
    All-permutation IsLevel all chains same
    (floor_all (IsFlatGood (edges_of loops) cone limit radius) (IsFlatWay (edges_of loops) cone limit radius) (deepest_of cone limit) IsLevel loops stride way all
    (λ deep axis line run longest. along axis line run) flat)
  where
    IsAtFloor : GridNode → Type 0
    IsAtFloor node = node.depth ≡ deepest_of cone limit

    IsLevel : List GridNode → Type 0
    IsLevel nodes = All IsAtFloor nodes

    along : (axis : Axis) (line : ℤ) (run : Run) → IsLevel (chain_along axis line (deepest_of cone limit) run)
    along axis line run = by_test (int_lt run.first run.last)
      where
        node : ℤ → GridNode
        node place = node_on axis line (deepest_of cone limit) place

        by_test : (several : Bool) → IsLevel (if several then node run.first ∷ node run.last ∷ [] else node run.first ∷ [])
        by_test true = All-cons IsAtFloor (node run.first) (node run.last ∷ []) refl (All-cons IsAtFloor (node run.last) [] refl (All-nil IsAtFloor))
        by_test false = All-cons IsAtFloor (node run.first) [] refl (All-nil IsAtFloor)
