-- Stops parted into rounds, and the chains of the rounds so far.
use Rattle.std.proofs.Common.{◌≡◌, ◌<◌, ◌≤◌, ℕ, List, [], ◌∷◌, ◌++◌, length, All, inl, inr, arith, append_assoc, append-nil, refl, ap, sym, subst, ◌∙◌}
use Rattle.std.specs.List.{AllZip}
use Rattle.std.proofs.lemmas.Bool.{cases_eq}
use Rattle.std.proofs.lemmas.List.Elements.{All-cons, All-head, All-nil}
use Rattle.plane_exact.specs.Cone.{Cone}
use Rattle.plane_exact.specs.Nodes.{GridNode, joined}
use Rattle.plane_exact.specs.Plane.{GridPoint}
use Rattle.engrave_model.specs.Drawing.{edges_of}
use Rattle.carve_plan.specs.Chains.{AreChainsAround, AreRoundChains}
use Rattle.carve_plan.specs.Made.{AreStopChains, HasManyNodes, IsRoundMade, nodes_of}
use Rattle.carve_plan.specs.Stops.{AreRounds, IsOfAnother, IsRound}
use Rattle.carve_plan.specs.declared.stop.Stop.{Stop}
use Rattle.carve_plan.proofs.Counting.{joined_append, nodes_append}
use Rattle.carve_plan.proofs.Going.{round_single}
use Rattle.carve_plan.proofs.Lists.{zip_append, zip_apart, zip_single}

-- ---- all stops can be parted

abbrev IsOf : ℕ → Stop → Type 0
IsOf loop stop = stop.loop_no ≡ loop

-- rounds that the stops can be parted into
record HaveRounds (stops : List Stop) : Type 0 where
  pub rounds : List (List GridNode)
  pub parted : AreRounds stops rounds

alone : (stop : Stop) (stops : List Stop) (rounds : List (List GridNode)) → IsOfAnother stop.loop_no stops → AreRounds stops rounds → HaveRounds (stop ∷ stops)
alone stop stops rounds other parted = record {
  rounds = (stop.node ∷ []) ∷ rounds;
  parted = record {
    later = stops;
    is = record {
      loop = stop.loop_no;
      first = stop;
      others = [];
      parted = refl;
      same = All-cons (IsOf stop.loop_no) stop [] refl (All-nil (IsOf stop.loop_no));
      whole = other;
      nodes = refl;
    };
    others = parted;
  };
}

one_more : (stop : Stop) (stops : List Stop) (rounds : List (List GridNode)) → AreRounds stops rounds → HaveRounds (stop ∷ stops)
one_more stop stops [] none = alone stop stops [] (subst (IsOfAnother stop.loop_no) (sym none) tt) none
one_more stop stops (round ∷ rounds) parted =
    let first = parted.is in
    elim (cases_eq stop.loop_no first.loop) [
      | inl same ↦ record {
        rounds = (stop.node ∷ round) ∷ rounds;
        parted = record {
          later = parted.later;
          is = record {
            loop = first.loop;
            first = stop;
            others = first.first ∷ first.others;
            parted = ap (λ stops. stop ∷ stops) first.parted;
            same = All-cons (IsOf first.loop) stop (first.first ∷ first.others) same first.same;
            whole = first.whole;
            nodes = ap (λ nodes. stop.node ∷ nodes) first.nodes;
          };
          others = parted.others;
        };
      }
      | inr differ ↦ alone stop stops (round ∷ rounds)
          (subst (IsOfAnother stop.loop_no) (sym first.parted)
          (λ same. differ (sym same ∙ All-head (IsOf first.loop) first.first first.others first.same))) parted
    ]

rounds_of : (stops : List Stop) → HaveRounds stops
rounds_of [] = record { rounds = []; parted = refl }
rounds_of (stop ∷ stops) = let later = rounds_of stops in one_more stop stops later.rounds later.parted

-- the next round
pub round_is : (first : Stop) (left others round later : List Stop) → left ≡ first ∷ others → others ≡ round ++ later
    → All (IsOf first.loop_no) round → IsOfAnother first.loop_no later → IsRound (first.node ∷ nodes_of round) left later
round_is first left others round later is apart same whole = record {
  loop = first.loop_no;
  first = first;
  others = round;
  parted = is ∙ ap (λ stops. first ∷ stops) apart;
  same = All-cons (IsOf first.loop_no) first round refl same;
  whole = whole;
  nodes = refl;
}

module _ (loops : List (List GridPoint)) (cone : Cone) (limit : ℕ) where
  abbrev AreChainsOf : List GridNode → List (List GridNode) → Type 0
  AreChainsOf = AreRoundChains (edges_of loops) cone limit

  -- the chains of the rounds so far, with the stops that are left
  pub record AreMade (stops left : List Stop) (chains : List (List GridNode)) : Type 0 where
    pub rounds : List (List GridNode)
    pub parts : List (List (List GridNode))
    pub each : AllZip AreChainsOf rounds parts
    pub are : chains ≡ joined parts
    pub parted : (later : List (List GridNode)) → AreRounds left later → AreRounds stops (rounds ++ later)

  pub none_made : (stops : List Stop) (chains : List (List GridNode)) → chains ≡ [] → AreMade stops stops chains
  none_made stops chains none = record { rounds = []; parts = []; each = tt; are = none; parted = λ later is. is }

  -- one round more
  pub round_made : (stops left later : List Stop) (first_nodes : List GridNode) (first : GridNode) (old new : List (List GridNode)) → AreMade stops left old
      → IsRound (first ∷ first_nodes) left later → IsRoundMade (edges_of loops) cone limit first first_nodes old new → AreMade stops later new
  round_made stops left later first_nodes first old new made is more = record {
    rounds = made.rounds ++ (first ∷ first_nodes) ∷ [];
    parts = made.parts ++ more.chains ∷ [];
    each = zip_append AreChainsOf made.rounds ((first ∷ first_nodes) ∷ []) made.parts (more.chains ∷ []) made.each (more.around, tt);
    are = more.made ∙ ap (λ cs. cs ++ more.chains) made.are ∙ ap (λ cs. joined made.parts ++ cs) (sym (append-nil more.chains)) ∙ sym (joined_append made.parts (more.chains ∷ []));
    parted = λ rest others.
        subst (AreRounds stops) (sym (append_assoc made.rounds ((first ∷ first_nodes) ∷ []) rest))
        (made.parted ((first ∷ first_nodes) ∷ rest) (record { later = later; is = is; others = others }));
  }

  pub all_made : (stops left : List Stop) (chains : List (List GridNode)) → left ≡ [] → AreMade stops left chains → length (joined chains) ≤ 4194304
      → AreStopChains loops cone limit stops chains
  all_made stops left chains none made few = record {
    rounds = made.rounds;
    parted = subst (AreRounds stops) (append-nil made.rounds) (made.parted [] none);
    linked = record { parts = made.parts; each = made.each; are = made.are };
    few = few;
  }

  -- whatever the chains of the next round, there are too many nodes
  pub too_many_made : (stops left later : List Stop) (first_nodes : List GridNode) (first : GridNode) (old : List (List GridNode)) → AreMade stops left old
      → IsRound (first ∷ first_nodes) left later
      → ((chains : List (List GridNode)) → AreChainsAround (edges_of loops) cone limit first first_nodes chains → 4194304 < length (joined (old ++ chains)))
      → HasManyNodes loops cone limit stops
  too_many_made stops left later first_nodes first old made is many =
      let rest = rounds_of later in
      record {
        rounds = made.rounds ++ (first ∷ first_nodes) ∷ rest.rounds;
        parted = made.parted ((first ∷ first_nodes) ∷ rest.rounds) (record { later = later; is = is; others = rest.parted });
        many = λ chains linked.
            let apart = zip_apart AreChainsOf made.rounds (first ∷ first_nodes) rest.rounds linked.parts linked.each in
            let same : apart.front ≡ made.parts = zip_single AreChainsOf (round_single (edges_of loops) cone limit) made.rounds apart.front made.parts apart.is_front made.each in
            let front : joined apart.front ≡ old = ap joined same ∙ sym made.are in
            let all : chains ≡ old ++ (apart.here ++ joined apart.back) =
            linked.are ∙ ap joined apart.joined ∙ joined_append apart.front (apart.here ∷ apart.back) ∙ ap (λ cs. cs ++ (apart.here ++ joined apart.back)) front in
            let count : length (joined chains) ≡ length (joined (old ++ (apart.here ++ joined apart.back))) = ap (λ cs. length (joined cs)) all in
            omega (
              arith,
              nodes_append old (apart.here ++ joined apart.back),
              nodes_append apart.here (joined apart.back),
              nodes_append old apart.here,
              many apart.here apart.is_here,
            );
      }
