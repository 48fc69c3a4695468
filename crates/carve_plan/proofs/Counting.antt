-- How many nodes chains have: each step adds one.
use Rattle.std.proofs.Common.{◌≡◌, ◌+◌, List, [], ◌∷◌, ◌++◌, length, arith, length-append, ap, ◌∙◌}
use Rattle.std.proofs.lemmas.List.Concat.{flat_map-append}
use Rattle.plane_exact.specs.Nodes.{GridNode, joined}
use Rattle.link_split.specs.declared.step.Step.{Step}
use Rattle.link_split.specs.declared.step.Step.TheVariants.{Lift, To}
use Rattle.carve_plan.specs.Chains.{chains_along}

pub joined_append : {A : Type 0} (xs ys : List (List A)) → joined (xs ++ ys) ≡ joined xs ++ joined ys
joined_append xs ys = flat_map-append (λ part. part) xs ys

pub nodes_append : (xs ys : List (List GridNode)) → length (joined (xs ++ ys)) ≡ length (joined xs) + length (joined ys)
nodes_append xs ys = ap length (joined_append xs ys) ∙ length-append (joined xs) (joined ys)

pub nodes_along : (chain : List GridNode) (steps : List Step) → length (joined (chains_along chain steps)) ≡ length chain + length steps
nodes_along chain [] = omega (arith, length-append chain [])
nodes_along chain (To node ∷ steps) = omega (arith, nodes_along (chain ++ node ∷ []) steps, length-append chain (node ∷ []))
nodes_along chain (Lift node ∷ steps) =
    omega (arith, length-append chain (joined (chains_along (node ∷ []) steps)), nodes_along (node ∷ []) steps)

-- behind other chains
pub nodes_behind : (old : List (List GridNode)) (chain : List GridNode) (steps : List Step)
    → length (joined (old ++ chains_along chain steps)) ≡ length (joined old) + length chain + length steps
nodes_behind old chain steps = omega (arith, nodes_append old (chains_along chain steps), nodes_along chain steps)
