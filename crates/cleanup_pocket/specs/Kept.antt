-- Chains as they come, of which no more are kept than a path may have.
use Rattle.std.specs.Prelude.{◌≡◌, ◌⊎◌, ◌<◌, ◌≤◌, Bool, true, false, List, ◌++◌, length}
use Rattle.plane_exact.specs.Nodes.{GridNode}
use Rattle.plane_exact.specs.declared.node.TheConstants.{MOST_CHAINS}

-- all of the chains are kept, since they aren't too many
pub record AreAllKept (all kept : List (List GridNode)) (has_more : Bool) : Type 0 where
  pub none : has_more ≡ false
  pub same : kept ≡ all
  pub few : length all ≤ MOST_CHAINS

-- there are more chains than may be kept
pub record AreTooMany (all : List (List GridNode)) (has_more : Bool) : Type 0 where
  pub more : has_more ≡ true
  pub many : MOST_CHAINS < length all

-- what is kept of all chains that have come, and whether there are more than may be kept
abbrev pub IsKept : (all kept : List (List GridNode)) → Bool → Type 0
IsKept all kept has_more = AreAllKept all kept has_more ⊎ AreTooMany all has_more

-- some chains more have come, of which this is so
pub record IsGrown (Part : List (List GridNode) → Type 0) (kept : List (List GridNode)) (has_more : Bool) (kept' : List (List GridNode)) (has_more' : Bool) : Type 0 where
  pub part : List (List GridNode)
  pub is : Part part
  pub grown : (all : List (List GridNode)) → IsKept all kept has_more → IsKept (all ++ part) kept' has_more'
