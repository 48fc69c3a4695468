-- A plan whose chains are too many, and the plan of all chains.
use Rattle.std.specs.Prelude.{◌≡◌, ◌≤◌, ◌<◌, ◌+◌, ℕ, true, nat_le, if◌then◌else◌, List, ◌++◌, length, map, Result, Ok, Err, MatchResult}
use Rattle.std.specs.Result.{IsErr, IsErrAnd}
use Rattle.std.specs.List.{AllZip}
use Rattle.std.proofs.Common.{ap, inr, subst, sym, ◌∙◌}
use Rattle.std.proofs.lemmas.Bool.{le-leb}
use Rattle.plane_exact.specs.Cone.{Cone}
use Rattle.plane_exact.specs.Nodes.{AreWithinLimits, GridNode, joined}
use Rattle.plane_exact.specs.Plane.{GridPoint}
use Rattle.plane_exact.specs.declared.node.TheConstants.{MOST_CHAINS, MOST_NODES}
use Rattle.path_order.specs.Order.{IsOrder, chain_at}
use Rattle.tangent_disc.specs.Contacts.{AreContacts}
use Rattle.tangent_disc.specs.declared.contact.Contact.{Contact}
use Rattle.carve_plan.specs.Fault.{HasChains, IsPlanFault, counted_nodes}
use Rattle.carve_plan.specs.Made.{AreStopChains}
use Rattle.carve_plan.specs.Plan.{ArePocketChains, AskedPocket, IsPlan}
use Rattle.carve_plan.specs.Pockets.{IsLimitFault}
use Rattle.carve_plan.specs.Stops.{IsStop}
use Rattle.carve_plan.specs.declared.fault.PlanFault.{PlanFault}
use Rattle.carve_plan.specs.declared.fault.PlanFault.TheVariants.{Contact as ContactOf, Memory, TooManyChains, TooManyNodes}
use Rattle.carve_plan.specs.declared.stop.Stop.{Stop}
use Rattle.carve_plan.proofs.Counting.{nodes_append}

-- a result that is an error has this fault
pub handed_on : {A E : Type 0} (Is : A → Type 0) (Fault : E → Type 0) (r : Result A E) (fault : E) → IsErr r → IsErrAnd r (λ given. given ≡ fault) → Fault fault → MatchResult r Is Fault
handed_on Is Fault (Ok x) fault fails is of = cc
handed_on Is Fault (Err given) fault fails is of = subst Fault (sym is) of

-- the pocket's nodes are counted where its chains are no more than a path may have
all_nodes : (chains pocket : List (List GridNode)) → length pocket ≤ MOST_CHAINS → counted_nodes chains pocket ≡ length (joined (chains ++ pocket))
all_nodes chains pocket few =
    let test : nat_le (length pocket) MOST_CHAINS ≡ true = le-leb (length pocket) MOST_CHAINS few in
    ap (λ t. length (joined chains) + (if t then length (joined pocket) else 0)) test ∙ sym (nodes_append chains pocket)

module _ (loops : List (List GridPoint)) (cone : Cone) (limit step : ℕ) (asked : AskedPocket) (contacts : List Contact) (stops : List Stop) (chains pocket all : List (List GridNode))
    (listed : AreContacts loops step contacts) (each : AllZip (IsStop loops cone limit) contacts stops) (made : AreStopChains loops cone limit stops chains)
    (milled : ArePocketChains loops cone limit asked pocket) (few : length pocket ≤ MOST_CHAINS) (are : all ≡ chains ++ pocket) where
  has_chains : (Counts : (nodes chains : ℕ) → Type 0) → Counts (counted_nodes chains pocket) (length (chains ++ pocket)) → HasChains loops cone limit step asked Counts
  has_chains Counts counts = record {
    rounds = made.rounds;
    around = record { contacts = contacts; listed = listed; stops = stops; each = each; parted = made.parted };
    chains = chains;
    linked = made.linked;
    pocket = pocket;
    milled = milled;
    counts = counts;
  }

  -- the limits that all chains pass are the plan's fault
  pub limits_refused : (fault : PlanFault) → IsLimitFault all fault → IsPlanFault loops cone limit step asked fault
  limits_refused (ContactOf fault) is = absurd is
  limits_refused TooManyNodes is =
      inr (has_chains (λ nodes chains. MOST_NODES < nodes)
      (subst (λ nodes. MOST_NODES < nodes) (ap (λ cs. length (joined cs)) are ∙ sym (all_nodes chains pocket few)) is))
  limits_refused TooManyChains is =
      has_chains (λ nodes chains. (nodes ≤ MOST_NODES) × (MOST_CHAINS < chains)) (
        subst (λ nodes. nodes ≤ MOST_NODES) (ap (λ cs. length (joined cs)) are ∙ sym (all_nodes chains pocket few)) is.0,
        subst (λ cs. MOST_CHAINS < length cs) are is.1,
      )
  limits_refused Memory is = absurd is

  -- all chains in their order are the plan
  pub planned : (given : List (List GridNode)) (order : List ℕ) (plan : List (List GridNode)) → given ≡ all → AreWithinLimits given → IsOrder given order → plan ≡ map (chain_at all) order
      → IsPlan loops cone limit step asked plan
  planned given order plan given_is within ordered is = record {
    rounds = made.rounds;
    around = record { contacts = contacts; listed = listed; stops = stops; each = each; parted = made.parted };
    chains = chains;
    linked = made.linked;
    pocket = pocket;
    milled = milled;
    within = subst AreWithinLimits (given_is ∙ are) within;
    order = order;
    ordered = subst (λ cs. IsOrder cs order) (given_is ∙ are) ordered;
    are = is ∙ ap (λ cs. map (chain_at cs) order) are;
  }
