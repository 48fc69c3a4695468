-- Answers the goals of `contacts`.
use Rattle.std.proofs.Common.{◌≡◌, ◌≤◌, ◌<◌, ◌∙◌, ℕ, List, All, ap, arith, length, refl, subst, sum_by, ◌+◌, sym}
use Rattle.std.specs.List.{AllZip}
use Rattle.std.proofs.lemmas.List.Elements.{All-weaker}
use Rattle.plane_exact.specs.Cone.{IsFromOneTo}
use Rattle.plane_exact.specs.Plane.{GridPoint}
use Rattle.plane_exact.specs.declared.point.Seg.{Seg}
use Rattle.engrave_model.specs.Drawing.{IsDrawing, edges_of}
use Rattle.tangent_disc.specs.Contacts.{AreContacts, IsContactFault, IsContactOf, IsPieces, contacts_of}
use Rattle.tangent_disc.specs.declared.contact.ContactFault.TheVariants.{Memory}
use Rattle.tangent_disc.proofs.Listing.{contacts_are, contacts_counted, few_edges, if_err, if_ok, match_result, pieces_length}
use Rattle.tangent_disc.proofs.listed.contacts.Goals as goal

-- as many numbers of pieces as edges
as_many : (loops : List (List GridPoint)) (step : ℕ) (edges : List Seg) (pieces shown : List ℕ) → edges ≡ edges_of loops → AllZip (IsPieces step) edges pieces → shown ≡ pieces
    → length shown ≡ length (edges_of loops)
as_many loops step edges pieces shown is divided same =
    ap length same ∙ sym (pieces_length step edges pieces divided) ∙ ap length is

few_pieces : (loops : List (List GridPoint)) (pieces : List ℕ) → IsDrawing loops → length pieces ≡ length (edges_of loops) → length pieces ≤ 131072
few_pieces loops pieces drawing same = let few = few_edges loops drawing in omega arith

divided_edges : (step : ℕ) (edges es : List Seg) (pieces : List ℕ) → edges ≡ es → AllZip (IsPieces step) edges pieces → AllZip (IsPieces step) es pieces
divided_edges step edges es pieces is divided = subst (λ xs. AllZip (IsPieces step) xs pieces) is divided

are_coarse : (pieces : List ℕ) → All (IsFromOneTo 8192) pieces → All (λ n. n ≤ 8192) pieces
are_coarse pieces coarse = All-weaker (IsFromOneTo 8192) (λ n. n ≤ 8192) (λ n is. is.high) pieces coarse

counted : (loops : List (List GridPoint)) (count : ℕ) (pieces shown : List ℕ) → shown ≡ pieces → count ≡ sum_by (λ n. n + 1) shown → count ≡ length (contacts_of loops pieces)
counted loops count pieces shown same is = is ∙ ap (λ ns. sum_by (λ n. n + 1) ns) same ∙ sym (contacts_counted loops pieces)

pub all_pieces-requires-clause-few : goal.all_pieces-requires-clause-few
all_pieces-requires-clause-few c = subst (λ (es : List Seg). length es ≤ 131072) (sym c.all_edges.ensures.edges) (few_edges c.args.d.now c.all_edges.ensures.drawing)

pub contacts_count-count-requires-clause-few : goal.contacts_count-count-requires-clause-few
contacts_count-count-requires-clause-few c =
    few_pieces c.args.d.now c.deref.result.now c.all_edges.ensures.drawing
    (as_many c.args.d.now c.args.step c.all_edges.result.now c.in_ok-pieces.pieces.items c.deref.result.now c.all_edges.ensures.edges c.in_ok-pieces.ensures.divided c.deref.ensures.value)

pub returns-then-count-gt-MOST_CONTACTS-clause-value : goal.returns-then-count-gt-MOST_CONTACTS-clause-value
returns-then-count-gt-MOST_CONTACTS-clause-value c = record {
  pieces = c.in_ok-pieces.pieces.items;
  divided = divided_edges c.args.step c.all_edges.result.now (edges_of c.args.d.now) c.in_ok-pieces.pieces.items c.all_edges.ensures.edges c.in_ok-pieces.ensures.divided;
  coarse = are_coarse c.in_ok-pieces.pieces.items c.in_ok-pieces.ensures.coarse;
  many = subst (λ n. 1048576 < n) (counted c.args.d.now c.contacts_count-count.result c.in_ok-pieces.pieces.items c.deref.result.now c.deref.ensures.value c.contacts_count-count.ensures) c.if-count-gt-MOST_CONTACTS.true;
}

pub listed-requires-clause-all : goal.listed-requires-clause-all
listed-requires-clause-all c =
    as_many c.args.d.now c.args.step c.all_edges.result.now c.in_ok-pieces.pieces.items c.deref-2.result.now c.all_edges.ensures.edges c.in_ok-pieces.ensures.divided c.deref-2.ensures.value

pub listed-requires-clause-few : goal.listed-requires-clause-few
listed-requires-clause-few c =
    few_pieces c.args.d.now c.deref-2.result.now c.all_edges.ensures.drawing
    (as_many c.args.d.now c.args.step c.all_edges.result.now c.in_ok-pieces.pieces.items c.deref-2.result.now c.all_edges.ensures.edges c.in_ok-pieces.ensures.divided c.deref-2.ensures.value)

pub returns-clause-value : goal.returns-clause-value
returns-clause-value c =
    let loops = c.args.d.now in
    let pieces = c.in_ok-pieces.pieces.items in
    let count = counted loops c.contacts_count-count.result pieces c.deref.result.now c.deref.ensures.value c.contacts_count-count.ensures in
    match_result c.listed.result (λ cs. AreContacts loops c.args.step cs.items) (IsContactFault loops c.args.step)
    (if_ok c.listed.result (λ cs. cs.items ≡ contacts_of loops c.deref-2.result.now) (λ cs. AreContacts loops c.args.step cs.items)
    (λ cs is.
    let listed = is ∙ ap (contacts_of loops) c.deref-2.ensures.value in
    record {
      pieces = pieces;
      divided = divided_edges c.args.step c.all_edges.result.now (edges_of loops) pieces c.all_edges.ensures.edges c.in_ok-pieces.ensures.divided;
      coarse = are_coarse pieces c.in_ok-pieces.ensures.coarse;
      listed = listed;
      few = subst (λ n. n ≤ 1048576) (count ∙ sym (ap length listed)) c.if-count-gt-MOST_CONTACTS.false;
    }) c.listed.ensures.value)
    (if_err c.listed.result (λ fault. fault ≡ Memory) (IsContactFault loops c.args.step) (λ fault is. subst (IsContactFault loops c.args.step) (sym is) tt) c.listed.ensures.fault)

pub returns-clause-each : goal.returns-clause-each
returns-clause-each c =
    let loops = c.args.d.now in
    let pieces = c.in_ok-pieces.pieces.items in
    if_ok c.listed.result (λ cs. cs.items ≡ contacts_of loops c.deref-2.result.now) (λ cs. All (IsContactOf loops) cs.items)
    (λ cs is. subst (All (IsContactOf loops)) (sym (is ∙ ap (contacts_of loops) c.deref-2.ensures.value))
    (contacts_are loops pieces (as_many loops c.args.step c.all_edges.result.now pieces pieces c.all_edges.ensures.edges c.in_ok-pieces.ensures.divided refl) c.in_ok-pieces.ensures.coarse)) c.listed.ensures.value
