-- An entity's pairs, taken one after another.
use Rattle.std.proofs.Common.{◌≡◌, ◌≤◌, ℕ, true, false, Ok, Err, Result, List, [], ◌∷◌, ◌++◌, refl, sym, ap, ◌∙◌, arith, append_assoc}
use Rattle.std.proofs.lemmas.List.{append-nil}
use Rattle.grid_num.specs.Judging.{and_then}
use Rattle.dxf_outline.specs.Outline.{State, drawn_from, slots_in}
use Rattle.dxf_outline.specs.Pairs.{Pair, Stream, Over, Broken, Next, count_of, fields_of, has_code}
use Rattle.dxf_outline.specs.Values.{slots_of}
use Rattle.dxf_outline.specs.declared.fault.DxfFault.{DxfFault}
use Rattle.dxf_outline.specs.declared.slots.Shape.{Shape}
use Rattle.dxf_outline.specs.declared.slots.Slots.{Slots}
use Rattle.dxf_outline.proofs.Walking.{drawn_from-other}

-- the fields taken before others
abbrev pub with_fields : List Pair → Result (List Pair) DxfFault → Result (List Pair) DxfFault
with_fields fields others = and_then others (λ others. Ok (fields ++ others))

-- some pairs are taken of the whole, what is left are others, and the slots say what is taken
pub record IsTaking (shape : Shape) (per_unit : ℕ) (slots : Slots) (left whole : Stream) : Type 0 where
  pub fields : List Pair
  pub so_far : slots ≡ slots_of shape per_unit fields
  pub same : fields_of whole ≡ with_fields fields (fields_of left)
  pub fewer : count_of left ≤ count_of whole
  pub skips : (per_unit chord : ℕ) (state : State) → drawn_from per_unit chord state whole ≡ drawn_from per_unit chord state left

with_fields-none : (others : Result (List Pair) DxfFault) → others ≡ with_fields [] others
with_fields-none (Ok others) = refl
with_fields-none (Err fault) = refl

with_fields-more : (fields : List Pair) (pair : Pair) (others : Result (List Pair) DxfFault) → with_fields fields (and_then others (λ others. Ok (pair ∷ others))) ≡ with_fields (fields ++ pair ∷ []) others
with_fields-more fields pair (Ok others) = ap Ok (sym (append_assoc fields (pair ∷ []) others))
with_fields-more fields pair (Err fault) = refl

fields_of-more : (pair : Pair) (rest : Stream) → has_code 0 pair ≡ false → fields_of (Next pair rest) ≡ and_then (fields_of rest) (λ fields. Ok (pair ∷ fields))
unfolding fields_of
fields_of-more pair rest other = rw other refl

-- what ends an entity's pairs
pub fields_of-Over : fields_of Over ≡ Ok []
unfolding fields_of
fields_of-Over = refl

pub fields_of-Broken : (fault : DxfFault) → fields_of (Broken fault) ≡ Err fault
unfolding fields_of
fields_of-Broken fault = refl

pub fields_of-head : (pair : Pair) (rest : Stream) → has_code 0 pair ≡ true → fields_of (Next pair rest) ≡ Ok []
unfolding fields_of
fields_of-head pair rest head = rw head refl

-- nothing taken
pub taking_none : (shape : Shape) (per_unit : ℕ) (slots : Slots) (whole : Stream) → slots ≡ slots_of shape per_unit [] → IsTaking shape per_unit slots whole whole
taking_none shape per_unit slots whole none = record { fields = []; so_far = none; same = with_fields-none (fields_of whole); fewer = omega arith; skips = λ per_unit chord state. refl }

-- one more pair
pub taking_more : {shape : Shape} {per_unit : ℕ} {slots : Slots} {left whole : Stream} → IsTaking shape per_unit slots left whole → (pair : Pair) (rest : Stream) (next : Slots) → left ≡ Next pair rest → has_code 0 pair ≡ false → ((fields : List Pair) → slots ≡ slots_of shape per_unit fields → next ≡ slots_of shape per_unit (fields ++ pair ∷ [])) → IsTaking shape per_unit next rest whole
taking_more {left} taking pair rest next is other put =
    let counted = ap count_of is in
    record {
      fields = taking.fields ++ pair ∷ [];
      so_far = put taking.fields taking.so_far;
      same = taking.same ∙ ap (with_fields taking.fields) (ap fields_of is ∙ fields_of-more pair rest other) ∙ with_fields-more taking.fields pair (fields_of rest);
      fewer = omega (arith, counted, taking.fewer);
      skips = λ per_unit chord state. taking.skips per_unit chord state ∙ ap (drawn_from per_unit chord state) is ∙ drawn_from-other per_unit chord state pair rest other;
    }

-- all are taken
pub taking_all : {shape : Shape} {per_unit : ℕ} {slots : Slots} {left whole : Stream} → IsTaking shape per_unit slots left whole → fields_of left ≡ Ok [] → slots_in shape per_unit whole ≡ Ok slots
unfolding slots_in
taking_all {shape} {per_unit} taking ended =
    let all = taking.same ∙ ap (with_fields taking.fields) ended ∙ ap Ok (append-nil taking.fields) in
    rw all (ap Ok (sym taking.so_far))

-- the file breaks off
pub taking_broken : {shape : Shape} {per_unit : ℕ} {slots : Slots} {left whole : Stream} → IsTaking shape per_unit slots left whole → (fault : DxfFault) → fields_of left ≡ Err fault → slots_in shape per_unit whole ≡ Err fault
unfolding slots_in
taking_broken taking fault broken = rw (taking.same ∙ ap (with_fields taking.fields) broken) refl
