-- The way round a loop, as far as it is gone: one link more, its end, and when there are too many nodes.
use Rattle.std.proofs.Common.{◌≡◌, ◌+◌, ◌<◌, ℕ, List, [], ◌∷◌, ◌++◌, length, arith, append_assoc, length-append, refl, ap, ap₂, sym, subst, ◌∙◌}
use Rattle.plane_exact.specs.Cone.{Cone}
use Rattle.plane_exact.specs.Nodes.{GridNode, joined}
use Rattle.plane_exact.specs.declared.point.Seg.{Seg}
use Rattle.engrave_model.specs.Lists.{AreJoined}
use Rattle.link_split.specs.Link.{IsLink}
use Rattle.link_split.specs.declared.step.Step.{Step}
use Rattle.link_split.proofs.Single.{link_single}
use Rattle.carve_plan.specs.Chains.{AreChainsAround, AreLinked, AreRoundChains, chains_along}
use Rattle.carve_plan.specs.Made.{IsRoundMade, IsWayMade, made_after}
use Rattle.carve_plan.specs.declared.made.Made.{Made}
use Rattle.carve_plan.specs.declared.round.TheConstants.{MOST_HALVED}
use Rattle.carve_plan.proofs.Counting.{nodes_behind}

module _ (edges : List Seg) (cone : Cone) (limit : ℕ) where
  -- whatever the link, there are too many steps
  pub no_room_for_steps : (from to : GridNode) (nodes : ℕ) (steps : List Step) (count : ℕ) {most : ℕ} → IsLink edges cone limit MOST_HALVED from to steps → count ≡ length steps
      → most < nodes + count → (way : List Step) → IsLink edges cone limit MOST_HALVED from to way → most < nodes + length way
  no_room_for_steps from to nodes steps count is counted many way other =
      let same : length way ≡ length steps = ap length (link_single edges cone limit MOST_HALVED from to way steps other is) in
      omega arith

  -- there isn't room for the first node
  pub no_room : (first : GridNode) (others : List GridNode) (old : List (List GridNode)) (nodes most : ℕ) → nodes ≡ length (joined old) → most < nodes + 1
      → (chains : List (List GridNode)) → AreChainsAround edges cone limit first others chains → most < length (joined (old ++ chains))
  no_room first others old nodes most count many chains around =
      subst (λ cs. most < length (joined (old ++ cs))) (sym around.are) (omega (arith, nodes_behind old (first ∷ []) around.steps))

  -- From the first node through some targets, of which some are left: these steps are made, and any way through all of them begins so.
  pub record IsPartly (first : GridNode) (targets left : List GridNode) (at : GridNode) (old : List (List GridNode)) (made : Made) (chain : List GridNode) : Type 0 where
    pub steps : List Step
    pub linked : (later : List Step) → AreLinked edges cone limit at left later → AreLinked edges cone limit first targets (steps ++ later)
    pub only : (all : List Step) → AreLinked edges cone limit first targets all → AreJoined (λ front. front ≡ steps) (AreLinked edges cone limit at left) all
    pub along : (rest : List Step) → old ++ chains_along (first ∷ []) (steps ++ rest) ≡ made_after made chain rest
    pub counted : made.nodes ≡ length (joined old) + 1 + length steps

  pub begun : (first : GridNode) (targets : List GridNode) (old : List (List GridNode)) (made : Made) (chain : List GridNode) → made.chains.items ≡ old
      → chain ≡ first ∷ [] → made.nodes ≡ length (joined old) + 1 → IsPartly first targets targets first old made chain
  begun first targets old made chain same is count = record {
    steps = [];
    linked = λ later is. is;
    only = λ all is. record { first = []; second = all; joined = refl; is_first = refl; is_second = is };
    along = λ rest. ap₂ (λ chains chain. chains ++ chains_along chain rest) (sym same) (sym is);
    counted = omega arith;
  }

  -- one link more
  pub gone_on : (first : GridNode) (targets left : List GridNode) (at to : GridNode) (old : List (List GridNode)) (made new : Made) (chain after : List GridNode)
      → IsPartly first targets (to ∷ left) at old made chain → IsWayMade (IsLink edges cone limit MOST_HALVED at to) made chain new after
      → IsPartly first targets left to old new after
  gone_on first targets left at to old made new chain after partly way =
      let so_far = partly.steps in
      let steps = way.steps in
      record {
        steps = so_far ++ steps;
        linked = λ later is.
            subst (AreLinked edges cone limit first targets) (sym (append_assoc so_far steps later))
            (partly.linked (steps ++ later) (record { first = steps; second = later; joined = refl; is_first = way.way; is_second = is }));
        only = λ all is.
            let front = partly.only all is in
            let next = front.is_second in
            let same : next.first ≡ steps = link_single edges cone limit MOST_HALVED at to next.first steps next.is_first way.way in
            record {
              first = so_far ++ steps;
              second = next.second;
              joined = front.joined ∙ ap₂ (λ xs ys. xs ++ ys) front.is_first (next.joined ∙ ap (λ xs. xs ++ next.second) same) ∙ sym (append_assoc so_far steps next.second);
              is_first = refl;
              is_second = next.is_second;
            };
        along = λ rest. ap (λ xs. old ++ chains_along (first ∷ []) xs) (append_assoc so_far steps rest) ∙ partly.along (steps ++ rest) ∙ way.made rest;
        counted = let before = partly.counted in let more = way.counted in omega (arith, length-append so_far steps);
      }

  -- whatever the next link, there are too many nodes
  pub too_many_around : (first : GridNode) (targets others left : List GridNode) (at to : GridNode) (old : List (List GridNode)) (made : Made) (chain : List GridNode) (most : ℕ)
      → targets ≡ others ++ first ∷ [] → IsPartly first targets (to ∷ left) at old made chain
      → ((steps : List Step) → IsLink edges cone limit MOST_HALVED at to steps → most < made.nodes + length steps)
      → (chains : List (List GridNode)) → AreChainsAround edges cone limit first others chains → most < length (joined (old ++ chains))
  too_many_around first targets others left at to old made chain most is partly many chains around =
      let front = partly.only around.steps (subst (λ nodes. AreLinked edges cone limit first nodes around.steps) (sym is) around.linked) in
      let next = front.is_second in
      let before = partly.counted in
      let count : length around.steps ≡ length partly.steps + length next.first + length next.second =
      ap length front.joined ∙ length-append front.first front.second
      ∙ ap₂ (λ m n. m + n) (ap length front.is_first) (ap length next.joined ∙ length-append next.first next.second) ∙ omega arith in
      subst (λ cs. most < length (joined (old ++ cs))) (sym around.are)
      (omega (arith, nodes_behind old (first ∷ []) around.steps, many next.first next.is_first))

  -- the way is gone
  pub came_round : (first : GridNode) (targets others : List GridNode) (at : GridNode) (old new : List (List GridNode)) (made : Made) (chain : List GridNode)
      → targets ≡ others ++ first ∷ [] → IsPartly first targets [] at old made chain → new ≡ made.chains.items ++ chain ∷ []
      → IsRoundMade edges cone limit first others old new
  came_round first targets others at old new made chain is partly pushed = record {
    chains = chains_along (first ∷ []) (partly.steps ++ []);
    around = record {
      steps = partly.steps ++ [];
      linked = subst (λ nodes. AreLinked edges cone limit first nodes (partly.steps ++ [])) is (partly.linked [] refl);
      are = refl;
    };
    made = pushed ∙ sym (partly.along []);
  }

  pub counted_round : (first : GridNode) (targets : List GridNode) (at : GridNode) (old new : List (List GridNode)) (made : Made) (chain : List GridNode)
      → IsPartly first targets [] at old made chain → new ≡ made.chains.items ++ chain ∷ [] → made.nodes ≡ length (joined new)
  counted_round first targets at old new made chain partly pushed =
      let count = partly.counted in
      let same : length (joined new) ≡ length (joined (old ++ chains_along (first ∷ []) (partly.steps ++ []))) =
      ap (λ cs. length (joined cs)) (pushed ∙ sym (partly.along [])) in
      omega (arith, nodes_behind old (first ∷ []) (partly.steps ++ []), length-append partly.steps [])

  -- ---- there is one way

  linked_single : (from : GridNode) (nodes : List GridNode) (steps others : List Step) → AreLinked edges cone limit from nodes steps → AreLinked edges cone limit from nodes others → steps ≡ others
  linked_single from [] steps others one other = one ∙ sym other
  linked_single from (to ∷ nodes) steps others one other =
      one.joined
      ∙ ap₂ (λ xs ys. xs ++ ys) (link_single edges cone limit MOST_HALVED from to one.first other.first one.is_first other.is_first)
      (linked_single to nodes one.second other.second one.is_second other.is_second)
      ∙ sym other.joined

  -- the nodes of a loop have one list of chains
  pub round_single : (round : List GridNode) (chains others : List (List GridNode)) → AreRoundChains edges cone limit round chains → AreRoundChains edges cone limit round others
      → chains ≡ others
  round_single [] chains others one other = one ∙ sym other
  round_single (first ∷ nodes) chains others one other =
      one.are
      ∙ ap (chains_along (first ∷ [])) (linked_single first (nodes ++ first ∷ []) one.steps other.steps one.linked other.linked)
      ∙ sym other.are
