-- An outline never has more than 131,072 segments.
use Rattle.std.specs.Prelude.{◌≡◌, ◌≤◌, ◌+◌, ℕ, Bool, true, false, ◌||◌, if◌then◌else◌, Option, None, Some, List, [], length, nat_lt, Result, Ok, Err, IfOk}
use Rattle.std.proofs.Common.{arith, length-append, refl, subst}
use Rattle.std.proofs.lemmas.Bool.{ltb-false}
use Rattle.grid_num.specs.Judging.{and_then}
use Rattle.plane_exact.specs.declared.point.Seg.{Seg}
use Rattle.dxf_outline.specs.Outline.{State, Place, Outside, Inside, Along, begun, drawn_as, drawn_from, entered, finished, followed, headed, inside, left_outside, name_of, slots_in}
use Rattle.dxf_outline.specs.Pairs.{Pair, Stream, Over, Broken, Next, has_code}
use Rattle.dxf_outline.specs.Polyline.{Trail, one_skipped, trail_drawn, trail_segs}
use Rattle.dxf_outline.specs.Shapes.{Drawn, and_segs, shape_segs, unless, with_segs}
use Rattle.dxf_outline.specs.Values.{has_flag}
use Rattle.dxf_outline.specs.declared.fault.DxfFault.{DxfFault}
use Rattle.dxf_outline.specs.declared.fault.DxfKind.TheVariants.{TooMany}
use Rattle.dxf_outline.specs.declared.names.Name.{Name}
use Rattle.dxf_outline.specs.declared.names.Name.TheVariants.{Section, Endsec, Line, Circle, Arc, Polyline, Vertex, Seqend, Other}
use Rattle.dxf_outline.specs.declared.shapes.TheConstants.{MOST_SEGMENTS}
use Rattle.dxf_outline.specs.declared.slots.Shape.{Shape}
use Rattle.dxf_outline.specs.declared.slots.Shape.TheVariants as shape

abbrev IsFew : Drawn → Type 0
IsFew drawn = length drawn.segs ≤ MOST_SEGMENTS

abbrev IsFewIn : State → Type 0
IsFewIn state = IsFew state.drawn

then_ok : {A B : Type 0} (P : B → Type 0) (r : Result A DxfFault) (next : A → Result B DxfFault) → ((x : A) → r ≡ Ok x → IfOk (next x) P) → IfOk (and_then r next) P
then_ok P (Ok x) next later = later x refl
then_ok P (Err fault) next later = tt

of_ok : {A : Type 0} (P : A → Type 0) (r : Result A DxfFault) (x : A) → IfOk r P → r ≡ Ok x → P x
of_ok P r x good is = subst (λ s. IfOk s P) is good

unless_ok : {A B : Type 0} (P : B → Type 0) (o : Option A) (fault : A → DxfFault) (next : Result B DxfFault) → IfOk next P → IfOk (unless o fault next) P
unless_ok P None fault next good = good
unless_ok P (Some x) fault next good = tt

and_segs_few : (at : ℕ) (drawn : Drawn) (segs : List Seg) → IfOk (and_segs at drawn segs) IsFew
unfolding and_segs
and_segs_few at drawn segs = go (nat_lt MOST_SEGMENTS (length drawn.segs + length segs)) refl
  where
    go : (many : Bool) → nat_lt MOST_SEGMENTS (length drawn.segs + length segs) ≡ many
        → IfOk {E = DxfFault} (if many then Err (record { pair = at; kind = TooMany }) else Ok (with_segs drawn segs)) IsFew
    go true is = tt
    go false is = omega (arith, ltb-false _ _ is, length-append drawn.segs segs)

inside_few : (r : Result Drawn DxfFault) → IfOk r IsFew → IfOk (inside r) IsFewIn
inside_few (Ok drawn) good = good
inside_few (Err fault) good = tt

drawn_as_few : (shape : Shape) (per_unit chord : ℕ) (drawn : Drawn) (at : ℕ) (rest : Stream) → IfOk (drawn_as shape per_unit chord drawn at rest) IsFewIn
unfolding drawn_as
drawn_as_few shape per_unit chord drawn at rest =
    let found = and_then (slots_in shape per_unit rest) (shape_segs shape chord at) in
    inside_few (and_then found (and_segs at drawn)) (then_ok IsFew found (and_segs at drawn) (λ segs is. and_segs_few at drawn segs))

entered_few : (per_unit chord : ℕ) (drawn : Drawn) (at : ℕ) (name : Name) (rest : Stream) → IsFew drawn → IfOk (entered per_unit chord drawn at name rest) IsFewIn
unfolding entered
entered_few per_unit chord drawn at Section rest few = few
entered_few per_unit chord drawn at Endsec rest few = few
entered_few per_unit chord drawn at Line rest few = drawn_as_few shape.Line per_unit chord drawn at rest
entered_few per_unit chord drawn at Circle rest few = drawn_as_few shape.Circle per_unit chord drawn at rest
entered_few per_unit chord drawn at Arc rest few = drawn_as_few shape.Arc per_unit chord drawn at rest
entered_few per_unit chord drawn at Polyline rest few = then_ok IsFewIn (slots_in shape.Polyline per_unit rest) _ (λ slots is. few)
entered_few per_unit chord drawn at Vertex rest few = few
entered_few per_unit chord drawn at Seqend rest few = few
entered_few per_unit chord drawn at Other rest few = few

trail_few : (chord : ℕ) (trail : Trail) (drawn : Drawn) → IsFew drawn → IfOk (trail_drawn chord trail drawn) IsFew
unfolding trail_drawn
trail_few chord trail drawn few = unless_ok IsFew trail.unreadable _ _ (go (has_flag 16 trail.flags || has_flag 64 trail.flags))
  where
    go : (mesh : Bool) → IfOk {E = DxfFault} (if mesh then Ok (one_skipped drawn) else and_then (trail_segs chord trail) (and_segs trail.at drawn)) IsFew
    go true = few
    go false = then_ok IsFew (trail_segs chord trail) (and_segs trail.at drawn) (λ segs is. and_segs_few trail.at drawn segs)

followed_few : (per_unit chord : ℕ) (trail : Trail) (drawn : Drawn) (at : ℕ) (name : Name) (rest : Stream) → IsFew drawn → IfOk (followed per_unit chord trail drawn at name rest) IsFewIn
unfolding followed
followed_few per_unit chord trail drawn at Vertex rest few = then_ok IsFewIn (slots_in shape.Vertex per_unit rest) _ (λ slots is. few)
followed_few per_unit chord trail drawn at Seqend rest few = inside_few (trail_drawn chord trail drawn) (trail_few chord trail drawn few)
followed_few per_unit chord trail drawn at Section rest few = tt
followed_few per_unit chord trail drawn at Endsec rest few = tt
followed_few per_unit chord trail drawn at Line rest few = tt
followed_few per_unit chord trail drawn at Circle rest few = tt
followed_few per_unit chord trail drawn at Arc rest few = tt
followed_few per_unit chord trail drawn at Polyline rest few = tt
followed_few per_unit chord trail drawn at Other rest few = tt

headed_few : (per_unit chord : ℕ) (place : Place) (drawn : Drawn) (at : ℕ) (name : Name) (rest : Stream) → IsFew drawn
    → IfOk (headed per_unit chord (record { place = place; drawn = drawn }) at name rest) IsFewIn
unfolding headed
headed_few per_unit chord Outside drawn at name rest few = few
headed_few per_unit chord Inside drawn at name rest few = entered_few per_unit chord drawn at name rest few
headed_few per_unit chord (Along trail) drawn at name rest few = followed_few per_unit chord trail drawn at name rest few

finished_few : (place : Place) (drawn : Drawn) → IsFew drawn → IfOk (finished (record { place = place; drawn = drawn })) IsFew
unfolding finished
finished_few Outside drawn few = few
finished_few Inside drawn few = few
finished_few (Along trail) drawn few = tt

drawn_from_few : (per_unit chord : ℕ) (state : State) (rest : Stream) → IsFewIn state → IfOk (drawn_from per_unit chord state rest) IsFew
unfolding drawn_from
drawn_from_few per_unit chord state Over few = finished_few state.place state.drawn few
drawn_from_few per_unit chord state (Broken fault) few = tt
drawn_from_few per_unit chord state (Next pair rest) few =
    go (has_code 0 pair) (λ next is. drawn_from_few per_unit chord next rest (of_ok IsFewIn _ next (headed_few per_unit chord state.place state.drawn pair.at (name_of pair.value) rest few) is))
    (drawn_from_few per_unit chord state rest few)
  where
    go : (heads : Bool) → ((next : State) → headed per_unit chord state pair.at (name_of pair.value) rest ≡ Ok next → IfOk (drawn_from per_unit chord next rest) IsFew)
        → IfOk (drawn_from per_unit chord state rest) IsFew
        → IfOk {E = DxfFault} (if heads then and_then (headed per_unit chord state pair.at (name_of pair.value) rest) (λ next. drawn_from per_unit chord next rest) else drawn_from per_unit chord state rest) IsFew
    go true later same = then_ok IsFew (headed per_unit chord state pair.at (name_of pair.value) rest) _ later
    go false later same = same

-- what is drawn from the start is never too much, seen as it is kept
pub drawn_few : {O : Type 0} (seen : O → Drawn) (r : Result O DxfFault) (per_unit chord : ℕ) (pairs : Stream)
    → IfOk r (λ outline. drawn_from per_unit chord begun pairs ≡ Ok (seen outline)) → IfOk r (λ outline. IsFew (seen outline))
drawn_few seen (Ok outline) per_unit chord pairs is = of_ok IsFew _ (seen outline) (drawn_from_few per_unit chord begun pairs (omega arith)) is
drawn_few seen (Err fault) per_unit chord pairs is = tt
