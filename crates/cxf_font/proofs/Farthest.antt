-- The farthest of points, list after list.
use Rattle.std.proofs.Common.{◌≡◌, ℕ, ◌++◌, ◌&&◌, Bool, true, false, max, List, [], ◌∷◌, pos, ◌+ℤ◌, flat_map, refl, ap, sym, ◌∙◌}
use Rattle.std.specs.List.{list_all}
use Rattle.arc_flatten.specs.Points.{FinePoint}
use Rattle.cxf_font.specs.Placing.{above_zero, across, farthest, points_of}
use Rattle.cxf_font.specs.Elements.{is_element}
use Rattle.cxf_font.specs.declared.element.Element.{Element}
use Rattle.cxf_font.specs.declared.layout.Layout.{Layout}

pub farthest-append : (layout : Layout) (pen most : ℕ) (points later : List FinePoint) → farthest layout pen most (points ++ later) ≡ farthest layout pen (farthest layout pen most points) later
unfolding farthest
farthest-append layout pen most [] later = refl
farthest-append layout pen most (p ∷ points) later = farthest-append layout pen (max most (above_zero (pos pen +ℤ across layout p))) points later

-- of an element's points, and then of those of the elements behind it
pub farthest-element : (layout : Layout) (pen most next chord : ℕ) (elements behind : List Element) (element : Element) (points : List FinePoint) → elements ≡ element ∷ behind → points ≡ points_of chord element → next ≡ farthest layout pen most points
    → farthest layout pen next (flat_map (points_of chord) behind) ≡ farthest layout pen most (flat_map (points_of chord) elements)
farthest-element layout pen most next chord elements behind element points parted points_are next_is =
    ap (λ n. farthest layout pen n (flat_map (points_of chord) behind)) (next_is ∙ ap (farthest layout pen most) points_are)
    ∙ sym (farthest-append layout pen most (points_of chord element) (flat_map (points_of chord) behind))
    ∙ ap (λ elements. farthest layout pen most (flat_map (points_of chord) elements)) (sym parted)

-- the elements behind the first are in their ranges, as all are
pub sound_behind : (elements behind : List Element) (element : Element) → elements ≡ element ∷ behind → list_all is_element elements ≡ true → list_all is_element behind ≡ true
sound_behind elements behind element parted sound =
    right (is_element element) (list_all is_element behind) (sym (ap (list_all is_element) parted) ∙ sound)
  where
    right : (a b : Bool) → (a && b) ≡ true → b ≡ true
    right true b is = is
    right false true is = refl
    right false false is = is
