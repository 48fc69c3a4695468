-- The outline of a DXF file: its section of entities, what each of them draws, and what is skipped.
use Rattle.std.specs.Prelude.{ℕ, Bool, false, if◌then◌else◌, List, [], bytes_eq, codes, Result, Ok, Err}
use Rattle.grid_num.specs.Judging.{and_then}
use Rattle.dxf_outline.specs.Pairs.{Stream, Over, Broken, Next, fields_of, has_code, is_pair, pairs_of}
use Rattle.dxf_outline.specs.Polyline.{Trail, one_skipped, trail_drawn, trail_of, vertex_of, with_vertex}
use Rattle.dxf_outline.specs.Shapes.{Drawn, and_segs, shape_segs}
use Rattle.dxf_outline.specs.Values.{slots_of}
use Rattle.dxf_outline.specs.declared.fault.DxfFault.{DxfFault}
use Rattle.dxf_outline.specs.declared.fault.DxfKind.TheVariants.{Unended}
use Rattle.dxf_outline.specs.declared.names.Name.{Name}
use Rattle.dxf_outline.specs.declared.names.Name.TheVariants.{Section, Endsec, Line, Circle, Arc, Polyline, Vertex, Seqend, Other}
use Rattle.dxf_outline.specs.declared.slots.Shape.{Shape}
use Rattle.dxf_outline.specs.declared.slots.Shape.TheVariants as shape
use Rattle.dxf_outline.specs.declared.slots.Slots.{Slots}

-- the name in the value of a pair of code 0
unfoldable pub name_of : List ℕ → Name
name_of value =
    if bytes_eq value (codes "SECTION") then Section
    else if bytes_eq value (codes "ENDSEC") then Endsec
    else if bytes_eq value (codes "LINE") then Line
    else if bytes_eq value (codes "CIRCLE") then Circle
    else if bytes_eq value (codes "ARC") then Arc
    else if bytes_eq value (codes "POLYLINE") then Polyline
    else if bytes_eq value (codes "VERTEX") then Vertex
    else if bytes_eq value (codes "SEQEND") then Seqend
    else Other

-- outside the section of entities, inside it, or along a POLYLINE in it
pub data Place : Type 0 where
  Outside : Place
  Inside : Place
  Along : Trail → Place

-- where the reading stands, and what is drawn so far
pub record State : Type 0 where
  pub place : Place
  pub drawn : Drawn

-- what the pairs of an entity of this kind say, or the fault where the file breaks off among them
unfoldable pub slots_in : Shape → (per_unit : ℕ) → Stream → Result Slots DxfFault
slots_in shape per_unit rest = and_then (fields_of rest) (λ fields. Ok (slots_of shape per_unit fields))

-- what follows is the pair 2 ENTITIES
unfoldable pub begins_entities : Stream → Bool
begins_entities Over = false
begins_entities (Broken fault) = false
begins_entities (Next pair rest) = is_pair 2 (codes "ENTITIES") pair

-- a drawing inside the section of entities
abbrev pub inside : Result Drawn DxfFault → Result State DxfFault
inside drawn = and_then drawn (λ drawn. Ok (record { place = Inside; drawn = drawn }))

-- an entity of this kind drawn by the segments that its pairs give
unfoldable pub drawn_as : Shape → (per_unit chord : ℕ) → Drawn → (at : ℕ) → Stream → Result State DxfFault
drawn_as shape per_unit chord drawn at rest = inside (and_then (and_then (slots_in shape per_unit rest) (shape_segs shape chord at)) (and_segs at drawn))

-- the section of entities begins with the pairs 0 SECTION, 2 ENTITIES
abbrev pub left_outside : Name → Stream → Place
left_outside Section rest = if begins_entities rest then Inside else Outside
left_outside _ rest = Outside

-- a pair of code 0 inside the section: a LINE, a CIRCLE and an ARC are drawn, a POLYLINE begins, and other entities are skipped
unfoldable pub entered : (per_unit chord : ℕ) → Drawn → (at : ℕ) → Name → Stream → Result State DxfFault
entered per_unit chord drawn at Section rest = Ok (record { place = Inside; drawn = drawn })
entered per_unit chord drawn at Endsec rest = Ok (record { place = Outside; drawn = drawn })
entered per_unit chord drawn at Line rest = drawn_as shape.Line per_unit chord drawn at rest
entered per_unit chord drawn at Circle rest = drawn_as shape.Circle per_unit chord drawn at rest
entered per_unit chord drawn at Arc rest = drawn_as shape.Arc per_unit chord drawn at rest
entered per_unit chord drawn at Polyline rest =
    and_then (slots_in shape.Polyline per_unit rest) (λ slots. Ok (record { place = Along (trail_of at slots); drawn = drawn }))
entered per_unit chord drawn at _ rest = Ok (record { place = Inside; drawn = one_skipped drawn })

-- a POLYLINE without its SEQEND
abbrev pub unended : {A : Type 0} → Trail → Result A DxfFault
unended trail = Err (record { pair = trail.at; kind = Unended })

-- a pair of code 0 along a POLYLINE: one more VERTEX, or its SEQEND
unfoldable pub followed : (per_unit chord : ℕ) → Trail → Drawn → (at : ℕ) → Name → Stream → Result State DxfFault
followed per_unit chord trail drawn at Vertex rest =
    and_then (slots_in shape.Vertex per_unit rest) (λ slots. Ok (record { place = Along (with_vertex trail (vertex_of at slots)); drawn = drawn }))
followed per_unit chord trail drawn at Seqend rest = inside (trail_drawn chord trail drawn)
followed per_unit chord trail drawn at _ rest = unended trail

-- the state behind a pair of code 0 with its number and its name, before these pairs
unfoldable pub headed : (per_unit chord : ℕ) → State → (at : ℕ) → Name → Stream → Result State DxfFault
headed per_unit chord state at name rest = headed_at state.place
  where
    headed_at : Place → Result State DxfFault
    headed_at Outside = Ok (record state { place = left_outside name rest })
    headed_at Inside = entered per_unit chord state.drawn at name rest
    headed_at (Along trail) = followed per_unit chord trail state.drawn at name rest

-- the drawing at the pair 0 EOF, which may not stand within a POLYLINE
unfoldable pub finished : State → Result Drawn DxfFault
finished state = finished_at state.place
  where
    finished_at : Place → Result Drawn DxfFault
    finished_at (Along trail) = unended trail
    finished_at _ = Ok state.drawn

-- the drawing of the pairs, from a state on: pairs of other codes than 0 belong to an entity, or to what is skipped
unfoldable pub drawn_from : (per_unit chord : ℕ) → State → Stream → Result Drawn DxfFault
drawn_from per_unit chord state Over = finished state
drawn_from per_unit chord state (Broken fault) = Err fault
drawn_from per_unit chord state (Next pair rest) =
    if has_code 0 pair
    then and_then (headed per_unit chord state pair.at (name_of pair.value) rest) (λ next. drawn_from per_unit chord next rest)
    else drawn_from per_unit chord state rest

-- nothing read yet
abbrev pub begun : State
begun = record { place = Outside; drawn = record { segs = []; skipped = 0 } }

-- the outline of a DXF file, or its first fault
unfoldable pub dxf_of : (per_unit chord : ℕ) → List ℕ → Result Drawn DxfFault
dxf_of per_unit chord bytes = drawn_from per_unit chord begun (pairs_of bytes)
