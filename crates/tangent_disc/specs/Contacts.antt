-- The contacts of a drawing: the points that divide each of its edges into even pieces, no longer than a step.
use Rattle.std.specs.Prelude.{◌≡◌, ℕ, ◌+◌, ◌*◌, ◌<◌, ◌≤◌, List, length, map, flat_map, slice_index_or, All, ℤ, pos, ◌≤ℤ◌}
use Rattle.std.specs.List.{AllZip, enumerate_from, range_with_len}
use Rattle.plane_exact.specs.Cone.{IsFromOneTo}
use Rattle.plane_exact.specs.Distance.{square}
use Rattle.plane_exact.specs.Plane.{GridPoint}
use Rattle.plane_exact.specs.Product.{dot_of}
use Rattle.plane_exact.specs.declared.point.Seg.{Seg}
use Rattle.engrave_model.specs.Drawing.{edges_of}
use Rattle.loops_text.specs.Edges.{loop_number}
use Rattle.tangent_disc.specs.declared.contact.Contact.{Contact}
use Rattle.tangent_disc.specs.declared.contact.ContactFault.{ContactFault}
use Rattle.tangent_disc.specs.declared.contact.ContactFault.TheVariants.{StepTooFine, TooMany, Memory}
use Rattle.tangent_disc.specs.declared.contact.TheConstants.{MOST_CONTACTS, MOST_PIECES}

-- the edge is no longer than this
abbrev pub IsAtMostLong : Seg → ℤ → Type 0
IsAtMostLong e length = dot_of e.a e.b e.b ≤ℤ square length

-- the length of the edge, rounded up: the least whole number that the edge is no longer than
pub record IsLengthUp (e : Seg) (rounded : ℤ) : Type 0 where
  pub positive : pos 0 ≤ℤ rounded
  pub enough : IsAtMostLong e rounded
  pub least : (m : ℤ) → pos 0 ≤ℤ m → IsAtMostLong e m → rounded ≤ℤ m

-- the number of pieces that the step divides the edge into: the least, at least 1, such that they are no longer than the step
pub record IsPieces (step : ℕ) (e : Seg) (n : ℕ) : Type 0 where
  pub some : 1 ≤ n
  pub enough : IsAtMostLong e (pos (n * step))
  pub least : (m : ℕ) → 1 ≤ m → IsAtMostLong e (pos (m * step)) → n ≤ m

-- the contact at k / n of an edge
abbrev pub contact_on : (loop_no edge n k : ℕ) → Contact
contact_on loop_no edge n k = record { loop_no = loop_no; edge = edge; k = k; n = n }

-- the contacts of one edge: its points at 0 / n, 1 / n and so on to n / n
abbrev pub contacts_along : (loop_no edge n : ℕ) → List Contact
contacts_along loop_no edge n = map (contact_on loop_no edge n) (range_with_len 0 (n + 1))

-- the contacts of all edges, edge by edge, for the number of pieces of each
abbrev pub contacts_of : List (List GridPoint) → List ℕ → List Contact
contacts_of loops pieces = flat_map (λ edge. contacts_along (loop_number loops edge.0) edge.0 edge.1) (enumerate_from 0 pieces)

-- the contacts of a drawing, where no edge is divided into too many pieces, and there aren't too many contacts
pub record AreContacts (loops : List (List GridPoint)) (step : ℕ) (contacts : List Contact) : Type 0 where
  pub pieces : List ℕ
  pub divided : AllZip (IsPieces step) (edges_of loops) pieces
  pub coarse : All (λ n. n ≤ MOST_PIECES) pieces
  pub listed : contacts ≡ contacts_of loops pieces
  pub few : length contacts ≤ MOST_CONTACTS

-- the step divides the edge into too many pieces
pub record IsTooFine (step : ℕ) (e : Seg) : Type 0 where
  pub pieces : ℕ
  pub divided : IsPieces step e pieces
  pub many : MOST_PIECES < pieces

-- the edge of this number is the first that the step divides into too many pieces
pub record IsFirstTooFine (edges : List Seg) (step e : ℕ) : Type 0 where
  pub there : e < length edges
  pub fine : (d : Seg) → IsTooFine step (slice_index_or edges e d)
  pub before : (k : ℕ) (d : Seg) → k < e → ¬ IsTooFine step (slice_index_or edges k d)

-- no edge is divided into too many pieces, but there are too many contacts
pub record HasTooMany (loops : List (List GridPoint)) (step : ℕ) : Type 0 where
  pub pieces : List ℕ
  pub divided : AllZip (IsPieces step) (edges_of loops) pieces
  pub coarse : All (λ n. n ≤ MOST_PIECES) pieces
  pub many : MOST_CONTACTS < length (contacts_of loops pieces)

-- when each fault is answered; out of memory at any time
abbrev pub IsContactFault : List (List GridPoint) → ℕ → ContactFault → Type 0
IsContactFault loops step (StepTooFine e) = IsFirstTooFine (edges_of loops) step e
IsContactFault loops step TooMany = HasTooMany loops step
IsContactFault loops step Memory = Unit {0}

-- a contact on an edge of the drawing, whatever the number of pieces
pub record IsContactOf (loops : List (List GridPoint)) (c : Contact) : Type 0 where
  pub there : c.edge < length (edges_of loops)
  pub in_loop : c.loop_no ≡ loop_number loops c.edge
  pub pieces : IsFromOneTo MOST_PIECES c.n
  pub along : c.k ≤ c.n
