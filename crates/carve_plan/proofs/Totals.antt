-- Chains counted one after another, and the refusals of all chains of a plan.
use Rattle.std.specs.Prelude.{◌≡◌, ◌<◌, ◌≤◌, ◌+◌, ◌-◌, ℕ, List, get_or, length, sum_by, take}
use Rattle.std.proofs.Common.{arith, ap, sym, ◌∙◌}
use Rattle.std.proofs.lemmas.List.{take_all}
use Rattle.std.proofs.lemmas.List.Concat.{length-flat_map}
use Rattle.std.proofs.lemmas.List.Sums.{sum_by-drop_more, sum_by-take-drop, sum_by-take-le}
use Rattle.plane_exact.specs.Nodes.{GridNode, joined}
use Rattle.plane_exact.specs.declared.node.TheConstants.{MOST_NODES}
use Rattle.carve_plan.specs.Made.{IsCounted}

-- the nodes of so many chains, from the first on
abbrev pub nodes_before : ℕ → List (List GridNode) → ℕ
nodes_before i chains = sum_by (λ chain. length chain) (take i chains)

pub nodes_in_all : (chains : List (List GridNode)) → length (joined chains) ≡ sum_by (λ chain. length chain) chains
nodes_in_all chains = length-flat_map (λ (chain : List GridNode). chain) chains

-- one chain more
pub nodes_more : (chains : List (List GridNode)) (i : ℕ) (d : List GridNode) → i < length chains → nodes_before (i + 1) chains ≡ nodes_before i chains + length (get_or chains i d)
nodes_more chains i d inside =
    omega (
      arith,
      sum_by-take-drop (λ (chain : List GridNode). length chain) chains i,
      sum_by-take-drop (λ (chain : List GridNode). length chain) chains (i + 1),
      sum_by-drop_more (λ (chain : List GridNode). length chain) chains i d inside,
    )

-- where one chain more is too much, they are too many in all
pub too_many : (chains : List (List GridNode)) (i : ℕ) (d : List GridNode) (count : ℕ) → i < length chains → count ≡ nodes_before i chains
    → MOST_NODES - count < length (get_or chains i d) → MOST_NODES < length (joined chains)
too_many chains i d count inside is more =
    omega (arith, is, more, nodes_more chains i d inside, nodes_in_all chains, sum_by-take-le (λ (chain : List GridNode). length chain) chains (i + 1))

-- all are counted
pub all_counted : (chains : List (List GridNode)) (i count : ℕ) → length chains ≤ i → count ≡ nodes_before i chains → count ≤ MOST_NODES → IsCounted count chains
all_counted chains i count past is few = record {
  count = is ∙ ap (sum_by (λ (chain : List GridNode). length chain)) (take_all i chains past) ∙ sym (nodes_in_all chains);
  few = few;
}
