-- The lines of contacts, one more at the end.
use Rattle.std.proofs.Common.{ℕ, List, [], ◌∷◌, ◌++◌, refl, ap, append_assoc, append-nil, sym, ◌∙◌}
use Rattle.plane_exact.specs.Plane.{GridPoint}
use Rattle.tangent_disc.specs.declared.contact.Contact.{Contact}
use Rattle.engrave_core.specs.Commands.Contacts.{AreContactLines, IsContactLine}

pub line_more : (loops : List (List GridPoint)) (rmax : ℕ) (contacts : List Contact) (text : List ℕ) (c : Contact) (line : List ℕ)
    → AreContactLines loops rmax contacts text → IsContactLine loops rmax c line → AreContactLines loops rmax (contacts ++ c ∷ []) (text ++ line)
line_more loops rmax [] text c line none here = record { first = line; second = []; joined = ap (λ t. t ++ line) none ∙ sym (append-nil line); is_first = here; is_second = refl }
line_more loops rmax (contact ∷ contacts) text c line lines here = record {
  first = lines.first;
  second = lines.second ++ line;
  joined = ap (λ t. t ++ line) lines.joined ∙ append_assoc lines.first lines.second line;
  is_first = lines.is_first;
  is_second = line_more loops rmax contacts lines.second c line lines.is_second here;
}
