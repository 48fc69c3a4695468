-- The segments along corners, taken span by span while there is room.
use Rattle.std.proofs.Common.{◌≡◌, ◌<◌, ℕ, ◌+◌, Bool, true, false, ◌||◌, if◌then◌else◌, Some, None, Option, Ok, Err, List, [], ◌∷◌, ◌++◌, length, nat_lt, option_map, refl, sym, ap, ◌∙◌, arith, append_assoc}
use Rattle.std.proofs.lemmas.List.{append-nil, length-append}
use Rattle.std.proofs.lemmas.Bool.{lt-ltb, ltb-true}
use Rattle.grid_num.specs.Whole.{both}
use Rattle.grid_num.specs.Judging.{and_then}
use Rattle.plane_exact.specs.declared.point.Seg.{Seg}
use Rattle.dxf_outline.specs.Corners.{CornerPoint}
use Rattle.dxf_outline.specs.Polyline.{segs_through, span_segs}
use Rattle.dxf_outline.specs.Shapes.{Drawn, and_segs, in_range, with_segs}
use Rattle.dxf_outline.specs.declared.fault.DxfKind.TheVariants.{OutOfRange, TooMany}
use Rattle.dxf_outline.specs.declared.shapes.TheConstants.{MOST_SEGMENTS}

-- segments before others
abbrev pub before_segs : List Seg → Option (List Seg) → Option (List Seg)
before_segs segs others = option_map (λ others. segs ++ others) others

-- Of all corners those up to one of them are gone through: the segments so far are kept behind the drawing, unless they are too many.
pub record IsThrough (chord : ℕ) (drawn kept : Drawn) (is_full : Bool) (before : CornerPoint) (rest corners : List CornerPoint) : Type 0 where
  pub so_far : List Seg
  pub same : segs_through chord corners ≡ before_segs so_far (segs_through chord (before ∷ rest))
  pub keeps : is_full ≡ false → kept ≡ with_segs drawn so_far
  pub full : is_full ≡ true → MOST_SEGMENTS < length drawn.segs + length so_far

before_segs-none : (others : Option (List Seg)) → others ≡ before_segs [] others
before_segs-none None = refl
before_segs-none (Some others) = refl

pub through_none : (chord : ℕ) (drawn : Drawn) (first : CornerPoint) (others : List CornerPoint) → IsThrough chord drawn drawn false first others (first ∷ others)
through_none chord drawn first others = record {
  so_far = [];
  same = before_segs-none (segs_through chord (first ∷ others));
  keeps = λ _. ap (λ segs. record drawn { segs = segs }) (sym (append-nil drawn.segs));
  full = λ is. absurd (cc);
}

joined : (segs : List Seg) (later : Option (List Seg)) → option_map (λ pair. pair.0 ++ pair.1) (both (Some segs) later) ≡ before_segs segs later
joined segs None = refl
joined segs (Some later) = refl

joined_twice : (so_far segs : List Seg) (later : Option (List Seg)) → before_segs so_far (before_segs segs later) ≡ before_segs (so_far ++ segs) later
joined_twice so_far segs None = refl
joined_twice so_far segs (Some later) = ap Some (sym (append_assoc so_far segs later))

span_first : (chord : ℕ) (before corner : CornerPoint) (others : List CornerPoint) (segs : List Seg) → Some segs ≡ span_segs chord before corner → segs_through chord (before ∷ corner ∷ others) ≡ before_segs segs (segs_through chord (corner ∷ others))
unfolding segs_through
span_first chord before corner others segs is = rw (← is) (joined segs (segs_through chord (corner ∷ others)))

-- ---- whether there are too many
more_full : (is_full : Bool) (drawn kept : Drawn) (so_far segs : List Seg) → (is_full ≡ false → kept ≡ with_segs drawn so_far) → (is_full ≡ true → MOST_SEGMENTS < length drawn.segs + length so_far) → (is_full || nat_lt MOST_SEGMENTS (length kept.segs + length segs)) ≡ true → MOST_SEGMENTS < length drawn.segs + length (so_far ++ segs)
more_full true drawn kept so_far segs keeps full is = omega (arith, full refl, length-append so_far segs)
more_full false drawn kept so_far segs keeps full is =
    let counted = ap (λ (d : Drawn). length d.segs) (keeps refl) in
    omega (arith, ltb-true _ _ is, counted, length-append drawn.segs so_far, length-append so_far segs)

not_full : (is_full many : Bool) → (is_full || many) ≡ false → is_full ≡ false
not_full true many is = is
not_full false many is = refl

not_many : (is_full many : Bool) → (is_full || many) ≡ false → many ≡ false
not_many true many is = absurd (cc)
not_many false many is = is

-- one more corner
pub through_more : {chord : ℕ} {drawn kept : Drawn} {is_full : Bool} {before : CornerPoint} {rest corners : List CornerPoint} → IsThrough chord drawn kept is_full before rest corners → (corner : CornerPoint) (others : List CornerPoint) (segs : List Seg) (now : Drawn) (full : Bool) → rest ≡ corner ∷ others → Some segs ≡ span_segs chord before corner → full ≡ (is_full || nat_lt MOST_SEGMENTS (length kept.segs + length segs)) → now ≡ (if full then kept else with_segs kept segs) → IsThrough chord drawn now full corner others corners
through_more {chord} {drawn} {kept} {is_full} {before} through corner others segs now full is span fills takes = record {
  so_far = through.so_far ++ segs;
  same = through.same ∙ ap (λ rest. before_segs through.so_far (segs_through chord (before ∷ rest))) is ∙ ap (before_segs through.so_far) (span_first chord before corner others segs span) ∙ joined_twice through.so_far segs (segs_through chord (corner ∷ others));
  keeps = λ has_room.
      let kept_is = through.keeps (not_full is_full _ (sym fills ∙ has_room)) in
      takes ∙ rw has_room (ap (λ (d : Drawn). with_segs d segs) kept_is ∙ ap (λ segs. record drawn { segs = segs }) (append_assoc drawn.segs through.so_far segs));
  full = λ filled. more_full is_full drawn kept through.so_far segs through.keeps through.full (sym fills ∙ filled);
}

-- ---- no corner left
last_corner : (chord : ℕ) (before : CornerPoint) → segs_through chord (before ∷ []) ≡ Some []
unfolding segs_through
last_corner chord before = refl

all_segs : {chord : ℕ} {drawn kept : Drawn} {is_full : Bool} {before : CornerPoint} {rest corners : List CornerPoint} → (through : IsThrough chord drawn kept is_full before rest corners) → rest ≡ [] → segs_through chord corners ≡ Some through.so_far
all_segs {chord} {before} through is =
    through.same ∙ ap (λ rest. before_segs through.so_far (segs_through chord (before ∷ rest))) is ∙ ap (before_segs through.so_far) (last_corner chord before) ∙ ap Some (append-nil through.so_far)

and_segs-Ok : (at : ℕ) (drawn : Drawn) (segs : List Seg) → nat_lt MOST_SEGMENTS (length drawn.segs + length segs) ≡ false → and_segs at drawn segs ≡ Ok (with_segs drawn segs)
unfolding and_segs
and_segs-Ok at drawn segs few = rw few refl

and_segs-Err : (at : ℕ) (drawn : Drawn) (segs : List Seg) → nat_lt MOST_SEGMENTS (length drawn.segs + length segs) ≡ true → and_segs at drawn segs ≡ Err (record { pair = at; kind = TooMany })
unfolding and_segs
and_segs-Err at drawn segs many = rw many refl

pub through_Err : {chord : ℕ} {drawn kept : Drawn} {is_full : Bool} {before : CornerPoint} {rest corners : List CornerPoint} → IsThrough chord drawn kept is_full before rest corners → (at : ℕ) → rest ≡ [] → (is_full || nat_lt MOST_SEGMENTS (length kept.segs)) ≡ true → and_then (in_range at (segs_through chord corners)) (and_segs at drawn) ≡ Err (record { pair = at; kind = TooMany })
through_Err {drawn} {kept} {is_full} through at is over =
    let none : length kept.segs ≡ length kept.segs + length {A = Seg} [] = omega arith in
    let many = more_full is_full drawn kept through.so_far [] through.keeps through.full (rw none at over) in
    let counted = length-append through.so_far [] in
    rw (all_segs through is) (and_segs-Err at drawn through.so_far (lt-ltb _ _ (omega (arith, many, counted))))

pub through_Ok : {chord : ℕ} {drawn kept : Drawn} {is_full : Bool} {before : CornerPoint} {rest corners : List CornerPoint} → IsThrough chord drawn kept is_full before rest corners → (at : ℕ) → rest ≡ [] → (is_full || nat_lt MOST_SEGMENTS (length kept.segs)) ≡ false → and_then (in_range at (segs_through chord corners)) (and_segs at drawn) ≡ Ok kept
through_Ok {drawn} {kept} {is_full} through at is over =
    let kept_is = through.keeps (not_full is_full _ over) in
    let counted : length kept.segs ≡ length drawn.segs + length through.so_far = ap (λ (d : Drawn). length d.segs) kept_is ∙ length-append drawn.segs through.so_far in
    rw (all_segs through is) (and_segs-Ok at drawn through.so_far (rw counted at (not_many is_full _ over)) ∙ ap Ok (sym kept_is))

-- a span off the grid
off_first : (chord : ℕ) (before corner : CornerPoint) (others : List CornerPoint) → None ≡ span_segs chord before corner → segs_through chord (before ∷ corner ∷ others) ≡ None
unfolding segs_through
off_first chord before corner others off = rw (← off) refl

pub through_off : {chord : ℕ} {drawn kept : Drawn} {is_full : Bool} {before : CornerPoint} {rest corners : List CornerPoint} → IsThrough chord drawn kept is_full before rest corners → (at : ℕ) (corner : CornerPoint) (others : List CornerPoint) → rest ≡ corner ∷ others → None ≡ span_segs chord before corner → and_then (in_range at (segs_through chord corners)) (and_segs at drawn) ≡ Err (record { pair = at; kind = OutOfRange })
through_off {chord} {before} through at corner others is off =
    let none = through.same ∙ ap (λ rest. before_segs through.so_far (segs_through chord (before ∷ rest))) is ∙ ap (before_segs through.so_far) (off_first chord before corner others off) in
    rw none refl
