-- The contacts of a drawing, edge by edge: one edge more, their number, and that they are contacts of it.
use Rattle.std.proofs.Common.{◌≡◌, ℕ, zero, suc, ◌+◌, ◌<◌, ◌≤◌, List, [], ◌∷◌, ◌++◌, length, map, take, get_or, All, flat_map, sum_by, arith, ap, refl, sym, ◌∙◌, subst, append_assoc, length-append, Result, Ok, Err}
use Rattle.std.specs.List.{AllZip, enumerate_from, range_with_len}
use Rattle.std.specs.Prelude.{IfErr, IfOk, MatchResult}
use Rattle.std.proofs.lemmas.List.{flat_map_more, take_all, take_more}
use Rattle.std.proofs.lemmas.List.Elements.{All-append, All-cons, All-head, All-map, All-nil, All-tail}
use Rattle.std.proofs.lemmas.List.FromFn.{get_or-enumerate_from, length-enumerate_from, length-map-range_with_len, map-range_with_len_more}
use Rattle.std.proofs.lemmas.List.Sums.{sum_by-cons}
use Rattle.plane_exact.specs.Cone.{IsFromOneTo}
use Rattle.plane_exact.specs.Plane.{GridPoint}
use Rattle.plane_exact.specs.declared.point.Seg.{Seg}
use Rattle.engrave_model.specs.Drawing.{IsDrawing, edges_of}
use Rattle.loops_text.specs.Edges.{loop_number}
use Rattle.loops_text.proofs.Drawings.{length-edges_of}
use Rattle.tangent_disc.specs.Contacts.{IsContactOf, IsPieces, IsTooFine, contact_on, contacts_along, contacts_of}
use Rattle.tangent_disc.specs.declared.contact.Contact.{Contact}

pub few_edges : (loops : List (List GridPoint)) → IsDrawing loops → length (edges_of loops) ≤ 131072
few_edges loops drawing = let few = drawing.few in omega (arith, length-edges_of loops)

-- an edge of few pieces isn't too fine
pub not_too_fine : (step : ℕ) (e : Seg) (n : ℕ) → IsPieces step e n → n ≤ 8192 → ¬ IsTooFine step e
not_too_fine step e n pieces few fine =
    let below = fine.divided.least n pieces.some pieces.enough in
    let many = fine.many in
    absurd (omega arith)

-- one contact more of an edge
pub one_more : (loop_no edge n k : ℕ) (old so_far all : List Contact) → so_far ≡ old ++ map (contact_on loop_no edge n) (range_with_len 0 k) → all ≡ so_far ++ contact_on loop_no edge n k ∷ []
    → all ≡ old ++ map (contact_on loop_no edge n) (range_with_len 0 (k + 1))
one_more loop_no edge n k old so_far all before pushed =
    let f = contact_on loop_no edge n in
    pushed ∙ ap (λ xs. xs ++ f k ∷ []) before ∙ append_assoc old (map f (range_with_len 0 k)) (f k ∷ [])
    ∙ ap (λ xs. old ++ xs) (sym (map-range_with_len_more f 0 k k (omega arith)))

module _ (loops : List (List GridPoint)) where
  -- the contacts of an edge, by its number and that of its pieces
  abbrev pub of_edge : ℕ × ℕ → List Contact
  of_edge edge = contacts_along (loop_number loops edge.0) edge.0 edge.1

  -- one edge more
  pub edge_more : (pieces : List ℕ) (e loop_no n : ℕ) (old all : List Contact) → e < length pieces → loop_no ≡ loop_number loops e → n ≡ get_or pieces e 0
      → old ≡ flat_map of_edge (take e (enumerate_from 0 pieces)) → all ≡ old ++ contacts_along loop_no e n → all ≡ flat_map of_edge (take (e + 1) (enumerate_from 0 pieces))
  edge_more pieces e loop_no n old all there in_loop read before appended =
      let entries = enumerate_from 0 pieces in
      let many : e < length entries = omega (arith, length-enumerate_from 0 pieces) in
      let entry : get_or entries e (0, 0) ≡ (e, n) = get_or-enumerate_from 0 pieces e (0, 0) there ∙ same (0 + e) e (get_or pieces e 0) n (omega arith) (sym read) in
      let last : of_edge (get_or entries e (0, 0)) ≡ contacts_along loop_no e n = ap of_edge entry ∙ ap (λ m. contacts_along m e n) (sym in_loop) in
      appended ∙ ap (λ xs. xs ++ contacts_along loop_no e n) before ∙ ap (λ xs. flat_map of_edge (take e entries) ++ xs) (sym last)
      ∙ flat_map_more of_edge [] (take e entries) (get_or entries e (0, 0)) ∙ ap (flat_map of_edge) (sym (take_more entries e (0, 0) many))
    where
      same : (a b c d : ℕ) → a ≡ b → c ≡ d → let r : ℕ × ℕ = (a, c) in let s : ℕ × ℕ = (b, d) in r ≡ s
      same a b c d p q = cc

  -- all edges
  pub edges_all : (pieces : List ℕ) (e : ℕ) (all : List Contact) → length pieces ≤ e → all ≡ flat_map of_edge (take e (enumerate_from 0 pieces)) → all ≡ contacts_of loops pieces
  edges_all pieces e all past is = is ∙ ap (flat_map of_edge) (take_all e (enumerate_from 0 pieces) (omega (arith, length-enumerate_from 0 pieces)))

  -- how many there are
  counted_from : (i : ℕ) (pieces : List ℕ) → length (flat_map of_edge (enumerate_from i pieces)) ≡ sum_by (λ n. n + 1) pieces
  counted_from i [] = refl
  counted_from i (n ∷ pieces) =
      omega (
        arith,
        length-append (of_edge (i, n)) (flat_map of_edge (enumerate_from (i + 1) pieces)),
        length-map-range_with_len (contact_on (loop_number loops i) i n) 0 (n + 1),
        counted_from (i + 1) pieces,
        sum_by-cons (λ n. n + 1) n pieces,
      )

  pub contacts_counted : (pieces : List ℕ) → length (contacts_of loops pieces) ≡ sum_by (λ n. n + 1) pieces
  contacts_counted pieces = counted_from 0 pieces

  -- each is a contact of the drawing
  up_to : (a count m : ℕ) → a + count ≤ m + 1 → All (λ k. k ≤ m) (range_with_len a count)
  up_to a zero m h = All-nil (λ k. k ≤ m)
  up_to a (suc count) m h = All-cons (λ k. k ≤ m) a (range_with_len (a + 1) count) (omega arith) (up_to (a + 1) count m (omega arith))

  contacts_from : (i : ℕ) (pieces : List ℕ) → i + length pieces ≤ length (edges_of loops) → All (IsFromOneTo 8192) pieces → All (IsContactOf loops) (flat_map of_edge (enumerate_from i pieces))
  contacts_from i [] h coarse = All-nil (IsContactOf loops)
  contacts_from i (n ∷ pieces) h coarse =
      let here = All-head (IsFromOneTo 8192) n pieces coarse in
      let on : (k : ℕ) → k ≤ n → IsContactOf loops (contact_on (loop_number loops i) i n k) = λ k along. record { there = omega arith; in_loop = refl; pieces = here; along = along } in
      All-append (IsContactOf loops) (of_edge (i, n)) (flat_map of_edge (enumerate_from (i + 1) pieces))
      (All-map (IsContactOf loops) (contact_on (loop_number loops i) i n) (range_with_len 0 (n + 1)) (λ k d below. on (get_or (range_with_len 0 (n + 1)) k d) (up_to 0 (n + 1) n (omega arith) k d below)))
      (contacts_from (i + 1) pieces (omega arith) (All-tail (IsFromOneTo 8192) n pieces coarse))

  pub contacts_are : (pieces : List ℕ) → length pieces ≡ length (edges_of loops) → All (IsFromOneTo 8192) pieces → All (IsContactOf loops) (contacts_of loops pieces)
  contacts_are pieces all coarse = contacts_from 0 pieces (omega arith) coarse

-- ---- pieces, edge by edge

module _ (step : ℕ) where
  pub pieces_length : (edges : List Seg) (pieces : List ℕ) → AllZip (IsPieces step) edges pieces → length edges ≡ length pieces
  pieces_length [] [] zip = refl
  pieces_length [] (n ∷ pieces) zip = absurd zip
  pieces_length (e ∷ edges) [] zip = absurd zip
  pieces_length (e ∷ edges) (n ∷ pieces) zip = ap suc (pieces_length edges pieces zip.1)

  pieces_push : (edges : List Seg) (pieces : List ℕ) (e : Seg) (n : ℕ) → AllZip (IsPieces step) edges pieces → IsPieces step e n → AllZip (IsPieces step) (edges ++ e ∷ []) (pieces ++ n ∷ [])
  pieces_push [] [] e n zip is = (is, tt)
  pieces_push [] (m ∷ pieces) e n zip is = absurd zip
  pieces_push (d ∷ edges) [] e n zip is = absurd zip
  pieces_push (d ∷ edges) (m ∷ pieces) e n zip is = (zip.0, pieces_push edges pieces e n zip.1 is)

  pub pieces_more : (edges : List Seg) (i : ℕ) (e : Seg) (n : ℕ) (pieces all : List ℕ) → i < length edges → e ≡ get_or edges i e → AllZip (IsPieces step) (take i edges) pieces → IsPieces step e n
      → all ≡ pieces ++ n ∷ [] → AllZip (IsPieces step) (take (i + 1) edges) all
  pieces_more edges i e n pieces all there read zip is pushed =
      let more : take (i + 1) edges ≡ take i edges ++ e ∷ [] = take_more edges i e there ∙ ap (λ x. take i edges ++ x ∷ []) (sym read) in
      subst (λ ns. AllZip (IsPieces step) (take (i + 1) edges) ns) (sym pushed)
      (subst (λ es. AllZip (IsPieces step) es (pieces ++ n ∷ [])) (sym more) (pieces_push (take i edges) pieces e n zip is))

-- the answer of a call that is handed on
pub match_result : {T E : Type 0} (r : Result T E) (P : T → Type 0) (Q : E → Type 0) → IfOk r P → IfErr r Q → MatchResult r P Q
match_result (Ok x) P Q p q = p
match_result (Err e) P Q p q = q

pub if_ok : {T E : Type 0} (r : Result T E) (P Q : T → Type 0) → ((x : T) → P x → Q x) → IfOk r P → IfOk r Q
if_ok (Ok x) P Q weaker p = weaker x p
if_ok (Err e) P Q weaker p = p

pub if_err : {T E : Type 0} (r : Result T E) (P Q : E → Type 0) → ((e : E) → P e → Q e) → IfErr r P → IfErr r Q
if_err (Ok x) P Q weaker p = p
if_err (Err e) P Q weaker p = weaker e p
