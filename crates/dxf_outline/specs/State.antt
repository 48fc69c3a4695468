-- Where the reader stands, as the definitions see it.
use Rattle.std.specs.Prelude.{◌≡◌, ℕ}
use Rattle.dxf_outline.specs.Outline.{Place, Outside, Inside, Along, State, drawn_from}
use Rattle.dxf_outline.specs.Pairs.{Pair, Stream, pairs_from}
use Rattle.dxf_outline.specs.Pairs as pairs
use Rattle.dxf_outline.specs.Polyline.{Trail}
use Rattle.dxf_outline.specs.Shapes.{Drawn}
use Rattle.dxf_outline.specs.declared.ahead.Pairs.{Pairs}
use Rattle.dxf_outline.specs.declared.corners.Polyline.{Polyline}
use Rattle.dxf_outline.specs.declared.fault.DxfKind.TheVariants as kind
use Rattle.dxf_outline.specs.declared.outline.Outline.{Outline}
use Rattle.dxf_outline.specs.declared.pairs.Entry.{Entry}
use Rattle.dxf_outline.specs.declared.pairs.Head.{Head}
use Rattle.dxf_outline.specs.declared.pairs.Head.TheVariants.{Over, BadCode, Unended, Next}
use Rattle.dxf_outline.specs.declared.place.Place.{Place as Spot}
use Rattle.dxf_outline.specs.declared.place.Place.TheVariants as spot

-- an entry of the file as a pair
abbrev pub pair_of : Entry → Pair
pair_of entry = record { at = entry.at; code = entry.code; value = entry.value.now }

-- what stands first, before the pairs behind it
abbrev pub headed_by : Head → Stream → Stream
headed_by Over rest = pairs.Over
headed_by (BadCode pair) rest = pairs.Broken (record { pair = pair; kind = kind.BadCode })
headed_by (Unended pair) rest = pairs.Broken (record { pair = pair; kind = kind.Unended })
headed_by (Next entry) rest = pairs.Next (pair_of entry) rest

-- what holds where a pair stands first
abbrev pub IfNext : Head → Type 0 → Type 0
IfNext (Next entry) P = P
IfNext _ P = Unit {0}

-- the pairs that are still to come
abbrev pub pairs_left : Pairs → Stream
pairs_left left = headed_by left.head (pairs_from left.at left.texts)

-- the outline as what is drawn so far
abbrev pub drawn_of : Outline → Drawn
drawn_of outline = record { segs = outline.segs.items; skipped = outline.skipped }

-- a POLYLINE that has begun
abbrev pub trail_at : Polyline → Trail
trail_at polyline = record { at = polyline.at; unreadable = polyline.unreadable; flags = polyline.flags; vertices = polyline.vertices.items }

-- where the reading stands, as definitions see it
abbrev pub place_of : Spot → Place
place_of spot.Outside = Outside
place_of spot.Inside = Inside
place_of (spot.Along polyline) = Along (trail_at polyline)

-- where the reading stands, and what is drawn so far
abbrev pub state_of : Spot → Outline → State
state_of place outline = record { place = place_of place; drawn = drawn_of outline }

-- what is left leads from every state to the same drawing as the pairs before it
abbrev pub LeadsOn : (before left : Stream) → Type 0
LeadsOn before left = (per_unit chord : ℕ) (state : State) → drawn_from per_unit chord state before ≡ drawn_from per_unit chord state left
