-- Chains as they are made, stroke by stroke.
use Rattle.std.specs.Prelude.{if◌then◌else◌}
use Rattle.std.proofs.Common.{◌≡◌, ℕ, Bool, true, false, List, [], ◌∷◌, ◌++◌, ap, sym, ◌∙◌, append_assoc}
use Rattle.std.proofs.lemmas.List.{append-nil}
use Rattle.plane_exact.specs.Nodes.{GridNode}
use Rattle.plane_exact.specs.Plane.{GridPoint}
use Rattle.plane_exact.specs.Same.{same_point}
use Rattle.plane_exact.specs.declared.point.Seg.{Seg}
use Rattle.stroke_engrave.specs.Chains.{going_on, node_at}

-- the finished chains, the one that ends at `end` with what the other strokes add to it, and the chains behind it
abbrev pub made_with : (depth : ℕ) → List (List GridNode) → List GridNode → (end : GridPoint) → List Seg → List (List GridNode)
made_with depth chains going end others =
    let rest = going_on depth end others in
    chains ++ (going ++ rest.0) ∷ rest.1

module _ (depth : ℕ) (chains : List (List GridNode)) (going : List GridNode) (end : GridPoint) where
  -- no stroke is left
  pub made_all : chains ++ going ∷ [] ≡ made_with depth chains going end []
  made_all = ap (λ nodes. chains ++ nodes ∷ []) (sym (append-nil going))

  module _ (stroke : Seg) (others : List Seg) where
    abbrev by_test : Bool → List (List GridNode)
    by_test test =
        let rest = going_on depth stroke.b others in
        let both : List GridNode × List (List GridNode) = if test then (node_at depth stroke.b ∷ rest.0, rest.1) else ([], (node_at depth stroke.a ∷ node_at depth stroke.b ∷ rest.0) ∷ rest.1) in
        chains ++ (going ++ both.0) ∷ both.1

    -- one more that goes on
    pub made_on : same_point stroke.a end ≡ true → made_with depth chains (going ++ node_at depth stroke.b ∷ []) stroke.b others ≡ made_with depth chains going end (stroke ∷ others)
    made_on same =
        let rest = going_on depth stroke.b others in
        ap (λ nodes. chains ++ nodes ∷ rest.1) (append_assoc going (node_at depth stroke.b ∷ []) rest.0) ∙ ap by_test (sym same)

    -- one that begins anew
    pub made_anew : same_point stroke.a end ≡ false
        → made_with depth (chains ++ going ∷ []) (node_at depth stroke.a ∷ node_at depth stroke.b ∷ []) stroke.b others ≡ made_with depth chains going end (stroke ∷ others)
    made_anew other =
        let rest = going_on depth stroke.b others in
        append_assoc chains (going ∷ []) ((node_at depth stroke.a ∷ node_at depth stroke.b ∷ rest.0) ∷ rest.1)
        ∙ ap (λ nodes. chains ++ nodes ∷ (node_at depth stroke.a ∷ node_at depth stroke.b ∷ rest.0) ∷ rest.1) (sym (append-nil going))
        ∙ ap by_test (sym other)
