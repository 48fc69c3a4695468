-- The program of a path: its chains lead through their places, and the whole is read back as the moves through them.
use Rattle.std.specs.Prelude.{flat_map, map, neg_ℤ}
use Rattle.std.proofs.Common.{◌≡◌, ℕ, ◌+◌, ◌*◌, ◌≤◌, List, [], ◌∷◌, ◌++◌, length, drop, pos, Ok, sym, ap, ◌∙◌, arith, append_assoc, length-append}
use Rattle.std.specs.List.{All, AllByRecursion}
use Rattle.std.proofs.lemmas.List.{length-map}
use Rattle.std.proofs.lemmas.List.Elements.{All-append, All-cons, All-head, All-map, All-nil, All-push, All-tail, All-weaker, recursion_from_All}
use Rattle.integer_algebra.specs.Ranges.{IsUpTo}
use Rattle.plane_exact.specs.Heights.{GridPlace}
use Rattle.plane_exact.specs.Nodes.{AreWithinLimits, GridNode, IsChain, IsNode, joined, last_place, node_place, place_over}
use Rattle.plane_exact.specs.Plane.{GridPoint}
use Rattle.gcode_text.specs.Moves.{moves_of}
use Rattle.gcode_text.specs.Path.{IsJob, ReadBackLaw, TitledLaw, chain_lines, chain_moves, chain_places, closing_lines, closing_text, height_line, job_note, moves_along, motion_word, node_line, path_lines, path_text, rapid, setup_lines, titled_text, travel_line}
use Rattle.gcode_text.specs.Report.{report_lines}
use Rattle.gcode_text.specs.Written.{WrittenLine, Note, IsNote, IsWritten, code_text}
use Rattle.gcode_text.specs.declared.job.Job.{Job}
use Rattle.gcode_text.specs.declared.report.Subject.TheVariants.{Uncut}
use Rattle.gcode_text.specs.declared.written.Motion.TheVariants.{Rapid, Straight}
use Rattle.gcode_text.proofs.Closing.{report_noted}
use Rattle.gcode_text.proofs.Growing.{code_text-append}
use Rattle.gcode_text.proofs.Frames.{led_read_back, nothing_read_back, framed_text}
use Rattle.gcode_text.proofs.Leading.{LeadThrough}
use Rattle.gcode_text.proofs.Placing.{depth_on, height_leads, height_on, node_leads, travel_leads}
use Rattle.gcode_text.proofs.Readable.{height_written, job_note_is, node_written, travel_written}

-- a chain has its nodes' places and two more
pub chain_places-le : (job : Job) (nodes : List GridNode) → length (chain_places job nodes) ≤ 2 + length nodes
chain_places-le job [] = omega arith
chain_places-le job (first ∷ rest) =
    omega (arith, length-append (map node_place rest) (place_over (last_place (first ∷ rest)) (pos job.safe) ∷ []), length-map rest node_place)

module _ (job : Job) (is_job : IsJob job) where
  -- at the safe height
  abbrev over : GridPoint → GridPlace
  over p = place_over p (pos job.safe)

  safe : IsUpTo (pos 32767) (pos job.safe)
  safe = height_on job.safe is_job.safe.high

  -- ---- the way

  nodes_lead : (node : GridNode) (rest : List GridNode) (lines : List WrittenLine) (places : List GridPlace) → AllByRecursion IsNode rest → ((p : GridPoint) → LeadThrough job.units (over p) lines places) → LeadThrough job.units (node_place node) ((map (node_line job.units) rest ++ height_line job.units rapid (pos job.safe) ∷ []) ++ lines) ((map node_place rest ++ over (last_place (node ∷ rest)) ∷ []) ++ places)
  nodes_lead node [] lines places are_nodes more = (height_leads job.units Rapid node.at (neg_ℤ (pos node.depth)) (pos job.safe) safe, more node.at)
  nodes_lead node (next ∷ rest) lines places are_nodes more = (node_leads job.units (node_place node) next are_nodes.0, nodes_lead next rest lines places are_nodes.1 more)

  chain_leads : (from : GridPoint) (nodes : List GridNode) (lines : List WrittenLine) (places : List GridPlace) → AllByRecursion IsNode nodes → ((p : GridPoint) → LeadThrough job.units (over p) lines places) → LeadThrough job.units (over from) (chain_lines job nodes ++ lines) (chain_places job nodes ++ places)
  chain_leads from [] lines places are_nodes more = more from
  chain_leads from (first ∷ rest) lines places are_nodes more =
      let node = are_nodes.0 in (
        travel_leads job.units from first.at (pos job.safe) node.at,
        (height_leads job.units Straight first.at (pos job.safe) (neg_ℤ (pos first.depth)) (depth_on first.depth node.depth), nodes_lead first rest lines places are_nodes.1 more),
      )

  chains_lead : (chains : List (List GridNode)) → All IsChain chains → (from : GridPoint) → LeadThrough job.units (over from) (flat_map (chain_lines job) chains) (flat_map (chain_places job) chains)
  chains_lead [] are_chains from = tt
  chains_lead (nodes ∷ chains) are_chains from =
      chain_leads from nodes (flat_map (chain_lines job) chains) (flat_map (chain_places job) chains) (recursion_from_All IsNode nodes (All-head IsChain nodes chains are_chains).each)
      (chains_lead chains (All-tail IsChain nodes chains are_chains))

  -- ---- its length

  places-le : (chains : List (List GridNode)) → length (flat_map (chain_places job) chains) ≤ 2 * length chains + length (joined chains)
  places-le [] = omega arith
  places-le (nodes ∷ chains) =
      omega (arith, length-append (chain_places job nodes) (flat_map (chain_places job) chains), length-append nodes (joined chains), chain_places-le job nodes, places-le chains)

  -- ---- its lines

  chain_written : (nodes : List GridNode) → All IsNode nodes → All IsWritten (chain_lines job nodes)
  chain_written [] are_nodes = All-nil IsWritten
  chain_written (first ∷ rest) are_nodes =
      let node = All-head IsNode first rest are_nodes in
      let units = job.units in
      let down = height_line units (motion_word Straight) (neg_ℤ (pos first.depth)) in
      let up = height_line units rapid (pos job.safe) in
      let nodes = map (node_line units) rest in
      All-cons IsWritten (travel_line units first.at) (down ∷ (nodes ++ up ∷ [])) (travel_written units first.at node.at)
      (All-cons IsWritten down (nodes ++ up ∷ []) (height_written units Straight (neg_ℤ (pos first.depth)) (depth_on first.depth node.depth))
      (All-push IsWritten nodes up
      (All-map IsWritten (node_line units) rest (All-weaker IsNode (λ node. IsWritten (node_line units node)) (node_written units) rest (All-tail IsNode first rest are_nodes)))
      (height_written units Rapid (pos job.safe) safe)))

  chains_written : (chains : List (List GridNode)) → All IsChain chains → All IsWritten (flat_map (chain_lines job) chains)
  chains_written [] are_chains = All-nil IsWritten
  chains_written (nodes ∷ chains) are_chains =
      All-append IsWritten (chain_lines job nodes) (flat_map (chain_lines job) chains) (chain_written nodes (All-head IsChain nodes chains are_chains).each)
      (chains_written chains (All-tail IsChain nodes chains are_chains))

-- a program of chains within the limits is read as exactly the moves through their nodes
pub chains_read_back : (title : List ℕ) (job : Job) (chains : List (List GridNode)) (notes : List (List ℕ)) → IsJob job → IsNote title → All IsNote notes → All IsChain chains → AreWithinLimits chains → moves_of job.units (framed_text title job (flat_map (chain_lines job) chains) notes) ≡ Ok (chain_moves job chains)
unfolding chain_moves
chains_read_back title job chains notes is_job is_title are_notes are_chains within = by chains are_chains within (chains_written job is_job chains are_chains)
  where
    by : (chains : List (List GridNode)) → All IsChain chains → AreWithinLimits chains → All IsWritten (flat_map (chain_lines job) chains) → moves_of job.units (framed_text title job (flat_map (chain_lines job) chains) notes) ≡ Ok (moves_along (flat_map (chain_places job) chains))
    by [] are_chains within written =
        nothing_read_back title job notes (record { titled = is_title; of_job = is_job; written = written; noted = are_notes })
    by ([] ∷ chains) are_chains within written = let some = (All-head IsChain [] chains are_chains).some in absurd (omega arith)
    by ((first ∷ rest) ∷ chains) are_chains within written =
        let all = (first ∷ rest) ∷ chains in
        let few = within.chains_le in
        let short = within.nodes_le in
        led_read_back title job first.at (drop 1 (flat_map (chain_lines job) all)) (drop 1 (flat_map (chain_places job) all)) notes
        (record { titled = is_title; of_job = is_job; written = written; noted = are_notes })
        (All-head IsNode first rest (All-head IsChain (first ∷ rest) chains are_chains).each).at (chains_lead job is_job all are_chains first.at).1 (omega (arith, places-le job is_job all))

titled_text_is : (title : List ℕ) (job : Job) (chains : List (List GridNode)) (notes : List (List ℕ)) → titled_text title job chains notes ≡ framed_text title job (flat_map (chain_lines job) chains) notes
unfolding path_text closing_text
titled_text_is title job chains notes =
    sym (code_text-append (path_lines title job chains) (closing_lines notes))
    ∙ ap (λ lines. code_text (Note title ∷ lines)) (append_assoc (setup_lines job) (flat_map (chain_lines job) chains) (closing_lines notes))

-- the program of a path, whatever its title and its notes
pub titled_read_back : TitledLaw
titled_read_back title job chains notes is_title is_job are_chains within are_notes =
    ap (moves_of job.units) (titled_text_is title job chains notes) ∙ chains_read_back title job chains notes is_job is_title are_notes are_chains within

-- that of a job, with its report
pub read_back : ReadBackLaw
read_back job chains uncut is_job are_chains within is_report =
    titled_read_back (job_note job) job chains (report_lines Uncut uncut) (job_note_is job) is_job are_chains within (report_noted Uncut uncut is_report)
