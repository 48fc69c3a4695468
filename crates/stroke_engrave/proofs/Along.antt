-- The chains of strokes lead along the strokes, each of them once and in order, at the one depth.
use Rattle.std.specs.Prelude.{flat_map, if◌then◌else◌}
use Rattle.std.specs.List.{All}
use Rattle.std.proofs.Common.{◌≡◌, ◌+◌, ◌*◌, ◌≤◌, ℕ, Bool, true, false, List, [], ◌∷◌, ◌++◌, length, refl, ap, ap₂, sym, arith, length-append}
use Rattle.std.proofs.lemmas.List.Elements.{All-cons, All-nil}
use Rattle.loop_join.proofs.Same.{same_point-true}
use Rattle.plane_exact.specs.Nodes.{AreWithinLimits, GridNode, joined}
use Rattle.plane_exact.specs.Plane.{GridPoint}
use Rattle.plane_exact.specs.Same.{same_point}
use Rattle.plane_exact.specs.declared.point.Seg.{Seg}
use Rattle.stroke_engrave.specs.Chains.{chains_of, going_on, node_at}

-- the strokes from each node to the next
abbrev pub edges_along : List GridNode → List Seg
edges_along [] = []
edges_along (node ∷ []) = []
edges_along (node ∷ next ∷ nodes) = record { a = node.at; b = next.at } ∷ edges_along (next ∷ nodes)

-- a chain at the depth, of two nodes or more
pub record IsEngraved (depth : ℕ) (nodes : List GridNode) : Type 0 where
  pub some : 2 ≤ length nodes
  pub level : All (λ node. node.depth ≡ depth) nodes

-- ---- they lead along the strokes

abbrev all_along : GridNode → List GridNode × List (List GridNode) → List Seg
all_along node rest = edges_along (node ∷ rest.0) ++ flat_map edges_along rest.1

going_along : (depth : ℕ) (end : GridPoint) (strokes : List Seg) → all_along (node_at depth end) (going_on depth end strokes) ≡ strokes
going_along depth end [] = refl
going_along depth end (stroke ∷ strokes) = by (going_on depth stroke.b strokes) (going_along depth stroke.b strokes) (same_point stroke.a end) refl
  where
    by : (rest : List GridNode × List (List GridNode)) → all_along (node_at depth stroke.b) rest ≡ strokes → (test : Bool) → same_point stroke.a end ≡ test
        → all_along (node_at depth end) (if test then (node_at depth stroke.b ∷ rest.0, rest.1) else ([], (node_at depth stroke.a ∷ node_at depth stroke.b ∷ rest.0) ∷ rest.1)) ≡ stroke ∷ strokes
    by rest later true same = ap₂ (λ a strokes. record { a = a; b = stroke.b } ∷ strokes) (sym (same_point-true stroke.a end same)) later
    by rest later false other = ap (λ strokes. stroke ∷ strokes) later

pub along_strokes : (depth : ℕ) (strokes : List Seg) → flat_map edges_along (chains_of depth strokes) ≡ strokes
along_strokes depth [] = refl
along_strokes depth (stroke ∷ strokes) = ap (λ strokes. stroke ∷ strokes) (going_along depth stroke.b strokes)

-- ---- at the depth

record IsGoingOn (depth : ℕ) (rest : List GridNode × List (List GridNode)) : Type 0 where
  nodes : All (λ node. node.depth ≡ depth) rest.0
  chains : All (IsEngraved depth) rest.1

engraved : (depth : ℕ) (a b : GridPoint) (nodes : List GridNode) → All (λ node. node.depth ≡ depth) nodes → IsEngraved depth (node_at depth a ∷ node_at depth b ∷ nodes)
engraved depth a b nodes level = record {
  some = omega arith;
  level = All-cons (λ node. node.depth ≡ depth) (node_at depth a) (node_at depth b ∷ nodes) refl (All-cons (λ node. node.depth ≡ depth) (node_at depth b) nodes refl level);
}

going_level : (depth : ℕ) (end : GridPoint) (strokes : List Seg) → IsGoingOn depth (going_on depth end strokes)
going_level depth end [] = record { nodes = All-nil (λ node. node.depth ≡ depth); chains = All-nil (IsEngraved depth) }
going_level depth end (stroke ∷ strokes) = by (going_on depth stroke.b strokes) (going_level depth stroke.b strokes) (same_point stroke.a end)
  where
    by : (rest : List GridNode × List (List GridNode)) → IsGoingOn depth rest → (test : Bool)
        → IsGoingOn depth (if test then (node_at depth stroke.b ∷ rest.0, rest.1) else ([], (node_at depth stroke.a ∷ node_at depth stroke.b ∷ rest.0) ∷ rest.1))
    by rest later true = record { nodes = All-cons (λ node. node.depth ≡ depth) (node_at depth stroke.b) rest.0 refl later.nodes; chains = later.chains }
    by rest later false = record {
      nodes = All-nil (λ node. node.depth ≡ depth);
      chains = All-cons (IsEngraved depth) (node_at depth stroke.a ∷ node_at depth stroke.b ∷ rest.0) rest.1 (engraved depth stroke.a stroke.b rest.0 later.nodes) later.chains;
    }

pub chains_engraved : (depth : ℕ) (strokes : List Seg) → All (IsEngraved depth) (chains_of depth strokes)
chains_engraved depth [] = All-nil (IsEngraved depth)
chains_engraved depth (stroke ∷ strokes) =
    let rest = going_on depth stroke.b strokes in
    let later = going_level depth stroke.b strokes in
    All-cons (IsEngraved depth) (node_at depth stroke.a ∷ node_at depth stroke.b ∷ rest.0) rest.1 (engraved depth stroke.a stroke.b rest.0 later.nodes) later.chains

-- ---- they are no more than the strokes, and their nodes no more than twice as many

record AreFew (rest : List GridNode × List (List GridNode)) (strokes : ℕ) : Type 0 where
  chains : length rest.1 ≤ strokes
  nodes : length rest.0 + length (joined rest.1) ≤ 2 * strokes

going_few : (depth : ℕ) (end : GridPoint) (strokes : List Seg) → AreFew (going_on depth end strokes) (length strokes)
going_few depth end [] = record { chains = omega arith; nodes = omega arith }
going_few depth end (stroke ∷ strokes) = by (going_on depth stroke.b strokes) (going_few depth stroke.b strokes) (same_point stroke.a end)
  where
    by : (rest : List GridNode × List (List GridNode)) → AreFew rest (length strokes) → (test : Bool)
        → AreFew (if test then (node_at depth stroke.b ∷ rest.0, rest.1) else ([], (node_at depth stroke.a ∷ node_at depth stroke.b ∷ rest.0) ∷ rest.1)) (length (stroke ∷ strokes))
    by rest later true = let chains = later.chains in let nodes = later.nodes in record { chains = omega arith; nodes = omega arith }
    by rest later false =
        let chains = later.chains in
        let nodes = later.nodes in
        let sum = length-append rest.0 (joined rest.1) in
        record { chains = omega arith; nodes = omega arith }

pub chains_few : (depth : ℕ) (strokes : List Seg) → length strokes ≤ 131072 → AreWithinLimits (chains_of depth strokes)
chains_few depth [] few = record { chains_le = omega arith; nodes_le = omega arith }
chains_few depth (stroke ∷ strokes) few =
    let rest = going_on depth stroke.b strokes in
    let later = going_few depth stroke.b strokes in
    let chains = later.chains in
    let nodes = later.nodes in
    let sum = length-append rest.0 (joined rest.1) in
    record { chains_le = omega arith; nodes_le = omega arith }
