-- Walks of the bit: what one more place adds, and how many places there are.
use Rattle.std.proofs.Common.{◌≡◌, ℕ, zero, suc, ◌+◌, ◌*◌, ◌<◌, ◌≤◌, Option, Some, None, List, [], ◌∷◌, ◌++◌, length, get_or, take, flat_map, map, pos, sym, ap, ◌∙◌, refl, arith, append_assoc, length-append}
use Rattle.std.proofs.lemmas.List.{length-map}
use Rattle.plane_exact.specs.Heights.{GridPlace}
use Rattle.plane_exact.specs.Nodes.{GridNode, first_place, joined, last_place, node_place, place_over}
use Rattle.plane_exact.specs.declared.moves.LineMove.{LineMove}
use Rattle.gcode_text.specs.Path.{chain_places, moves_along, moves_through}
use Rattle.gcode_text.specs.Walk.{places_of}
use Rattle.gcode_text.specs.declared.job.Job.{Job}
use Rattle.gcode_text.proofs.Chains.{chain_places-le}

-- ---- one more place

abbrev step : ℕ → GridPlace → GridPlace → LineMove
step line from to = record { line = line; mv = record { from = from; to = to } }

through_more : (line : ℕ) (start : GridPlace) (places : List GridPlace) (from to : GridPlace) → moves_through line start ((places ++ from ∷ []) ++ to ∷ []) ≡ moves_through line start (places ++ from ∷ []) ++ step (line + 1 + length places) from to ∷ []
through_more line start [] from to =
    ap (λ number. step line start from ∷ (step number from to ∷ [])) (omega arith)
through_more line start (next ∷ places) from to =
    ap (λ moves. step line start next ∷ moves)
    (through_more (line + 1) next places from to
    ∙ ap (λ number. moves_through (line + 1) next (places ++ from ∷ []) ++ step number from to ∷ []) (omega arith))

along_more : (places : List GridPlace) (from to : GridPlace) → moves_along ((places ++ from ∷ []) ++ to ∷ []) ≡ moves_along (places ++ from ∷ []) ++ step (7 + length places) from to ∷ []
along_more [] from to = refl
along_more (start ∷ places) from to =
    through_more 7 start places from to
    ∙ ap (λ number. moves_through 7 start (places ++ from ∷ []) ++ step number from to ∷ []) (omega arith)

map-push : (f : LineMove → GridPlace) (moves : List LineMove) (last : LineMove) → map f (moves ++ last ∷ []) ≡ map f moves ++ f last ∷ []
map-push f [] last = refl
map-push f (mv ∷ moves) last = ap (λ places. f mv ∷ places) (map-push f moves last)

-- the places of a walk that makes one more move
pub places_more : (moves : List LineMove) (line : ℕ) (from to : GridPlace) → places_of (moves ++ step line from to ∷ []) (Some to) ≡ places_of moves (Some from) ++ to ∷ []
places_more moves line from to = ap (λ places. places ++ to ∷ []) (map-push (λ made. made.mv.from) moves (step line from to))

-- ---- its moves

along_walk : (moves : List LineMove) (line : ℕ) (from to : GridPlace) → moves ≡ moves_along (places_of moves (Some from)) → line ≡ 7 + length moves → moves ++ step line from to ∷ [] ≡ moves_along (places_of (moves ++ step line from to ∷ []) (Some to))
along_walk moves line from to are is =
    let begun = map (λ made. made.mv.from) moves in
    ap (λ made. made ++ step line from to ∷ []) are
    ∙ ap (λ number. moves_along (begun ++ from ∷ []) ++ step number from to ∷ []) (is ∙ omega (arith, length-map moves (λ made. made.mv.from)))
    ∙ sym (along_more begun from to)
    ∙ ap moves_along (sym (places_more moves line from to))

-- of a walk that goes on from a place
pub goes_on : (moves new : List LineMove) (at : Option GridPlace) (line : ℕ) (from to : GridPlace) → at ≡ Some from → moves ≡ moves_along (places_of moves at) → line ≡ 7 + length moves → new ≡ moves ++ step line from to ∷ [] → new ≡ moves_along (places_of new (Some to))
goes_on moves new at line from to is_at are is more =
    more
    ∙ along_walk moves line from to (are ∙ ap (λ at. moves_along (places_of moves at)) is_at) is
    ∙ ap (λ made. moves_along (places_of made (Some to))) (sym more)

-- of a walk that begins
pub begins : (moves : List LineMove) (at : Option GridPlace) (to : GridPlace) → at ≡ None → moves ≡ moves_along (places_of moves at) → moves ≡ moves_along (places_of moves (Some to))
begins moves at to is_at are =
    let none : moves ≡ [] = are ∙ ap (λ at. moves_along (places_of moves at)) is_at in
    none ∙ ap (λ made. moves_along (places_of made (Some to))) (sym none)

-- ---- the places of chains

pub first_is : (nodes : List GridNode) (d : GridNode) → 1 ≤ length nodes → (get_or nodes 0 d).at ≡ first_place nodes
first_is [] d some = absurd (omega arith)
first_is (node ∷ nodes) d some = refl

pub last_is : (nodes : List GridNode) (i : ℕ) (d : GridNode) → i + 1 ≡ length nodes → (get_or nodes i d).at ≡ last_place nodes
last_is [] i d last = absurd (omega arith)
last_is (node ∷ []) zero d last = refl
last_is (node ∷ []) (suc i) d last = absurd (omega arith)
last_is (node ∷ next ∷ nodes) zero d last = absurd (omega arith)
last_is (node ∷ next ∷ nodes) (suc i) d last = last_is (next ∷ nodes) i d (omega arith)

places_are : (job : Job) (nodes : List GridNode) → 1 ≤ length nodes → chain_places job nodes ≡ place_over (first_place nodes) (pos job.safe) ∷ (map node_place nodes ++ place_over (last_place nodes) (pos job.safe) ∷ [])
places_are job [] some = absurd (omega arith)
places_are job (node ∷ rest) some = refl

-- over the first node, through the nodes, and up from the last
pub goes_along : (job : Job) (nodes : List GridNode) (old begun through : List GridPlace) (over up : GridPlace) → 1 ≤ length nodes → over ≡ place_over (first_place nodes) (pos job.safe) → up ≡ place_over (last_place nodes) (pos job.safe)
    → begun ≡ old ++ over ∷ [] → through ≡ begun ++ map node_place nodes → through ++ up ∷ [] ≡ old ++ chain_places job nodes
goes_along job nodes old begun through over up some is_over is_up is_begun is_through =
    let behind = map node_place nodes ++ up ∷ [] in
    ap (λ places. places ++ up ∷ []) (is_through ∙ ap (λ places. places ++ map node_place nodes) is_begun)
    ∙ append_assoc (old ++ over ∷ []) (map node_place nodes) (up ∷ [])
    ∙ append_assoc old (over ∷ []) behind
    ∙ ap (λ place. old ++ (place ∷ behind)) is_over
    ∙ ap (λ place. old ++ (place_over (first_place nodes) (pos job.safe) ∷ (map node_place nodes ++ place ∷ []))) is_up
    ∙ ap (λ places. old ++ places) (sym (places_are job nodes some))

-- so many that there is room for those of the next chain
pub places_before : (job : Job) (chains : List (List GridNode)) (i : ℕ) (d : List GridNode) → i < length chains → length (flat_map (chain_places job) (take i chains)) + (2 + length (get_or chains i d)) ≤ 2 * length chains + length (joined chains)
places_before job [] i d inside = absurd (omega arith)
places_before job (nodes ∷ chains) zero d inside = omega (arith, length-append nodes (joined chains))
places_before job (nodes ∷ chains) (suc i) d inside =
    omega (arith, length-append (chain_places job nodes) (flat_map (chain_places job) (take i chains)), length-append nodes (joined chains), chain_places-le job nodes, places_before job chains i d (omega arith))
