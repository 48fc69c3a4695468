-- The moves along a chain as they are made, one after the other.
use Rattle.std.proofs.Common.{◌≡◌, ℕ, ◌+◌, ◌<◌, List, [], ◌∷◌, ◌++◌, length, drop, get_or, ap, ap₂, refl, sym, ◌∙◌}
use Rattle.std.proofs.lemmas.List.{append_assoc, drop_more}
use Rattle.plane_exact.specs.Nodes.{GridNode, node_place}
use Rattle.plane_exact.specs.declared.moves.LineMove.{LineMove}
use Rattle.plane_exact.specs.declared.moves.Move.{Move}
use Rattle.flat_bit.specs.Discs.{at_radius, moves_from}

module _ (radius : ℕ) where
  -- the depth of the node that the moves begin at doesn't matter
  begun_at : (node : GridNode) (nodes : List GridNode) → moves_from radius (at_radius radius node) nodes ≡ moves_from radius node nodes
  begun_at node [] = refl
  begun_at node (next ∷ nodes) = refl

  module _ (nodes : List GridNode) (k : ℕ) (below : k < length nodes) (from node to : GridNode) (mv : Move) (deep : from.depth ≡ radius)
      (is : node ≡ get_or nodes k node) (lowered : to ≡ at_radius radius node) (goes : mv ≡ record { from = node_place from; to = node_place to }) where
    abbrev made : LineMove
    made = record { line = 1; mv = mv }

    next_made : moves_from radius from (drop k nodes) ≡ made ∷ moves_from radius to (drop (k + 1) nodes)
    next_made =
        let rest = drop (k + 1) nodes in
        let start : from ≡ at_radius radius from = ap (λ d. record { at = from.at; depth = d }) deep in
        let same : mv ≡ record { from = node_place (at_radius radius from); to = node_place (at_radius radius node) } =
        goes ∙ ap₂ (λ (p q : GridNode). record { from = node_place p; to = node_place q }) start lowered
        in
        ap (moves_from radius from) (drop_more nodes k node below ∙ ap (λ n. n ∷ rest) (sym is))
        ∙ ap₂ (λ (mv : Move) (moves : List LineMove). record { line = 1; mv = mv } ∷ moves) (sym same) (sym (begun_at node rest) ∙ ap (λ n. moves_from radius n rest) (sym lowered))

    pub one_pushed : (items new all : List LineMove) → new ≡ items ++ made ∷ [] → items ++ moves_from radius from (drop k nodes) ≡ all
        → new ++ moves_from radius to (drop (k + 1) nodes) ≡ all
    one_pushed items new all pushed were =
        let rest = moves_from radius to (drop (k + 1) nodes) in
        ap (λ moves. moves ++ rest) pushed ∙ append_assoc items (made ∷ []) rest ∙ ap (λ moves. items ++ moves) (sym next_made) ∙ were
