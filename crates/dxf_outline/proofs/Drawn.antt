-- Entities drawn by their slots.
use Rattle.std.proofs.Common.{◌≡◌, ℕ, Ok, Err, refl}
use Rattle.grid_num.specs.Judging.{and_then}
use Rattle.dxf_outline.specs.Outline.{Inside, drawn_as, slots_in}
use Rattle.dxf_outline.specs.Pairs.{Stream}
use Rattle.dxf_outline.specs.Shapes.{Drawn, and_segs, shape_segs}
use Rattle.dxf_outline.specs.declared.fault.DxfFault.{DxfFault}
use Rattle.dxf_outline.specs.declared.slots.Shape.{Shape}
use Rattle.dxf_outline.specs.declared.slots.Slots.{Slots}

module _ (shape : Shape) (per_unit chord : ℕ) (drawn : Drawn) (at : ℕ) (rest : Stream) where
  pub drawn_as-Ok : (slots : Slots) (next : Drawn) → slots_in shape per_unit rest ≡ Ok slots → and_then (shape_segs shape chord at slots) (and_segs at drawn) ≡ Ok next → drawn_as shape per_unit chord drawn at rest ≡ Ok (record { place = Inside; drawn = next })
  unfolding drawn_as
  drawn_as-Ok slots next is right = rw (is, right) refl

  pub drawn_as-Err : (slots : Slots) (fault : DxfFault) → slots_in shape per_unit rest ≡ Ok slots → and_then (shape_segs shape chord at slots) (and_segs at drawn) ≡ Err fault → drawn_as shape per_unit chord drawn at rest ≡ Err fault
  unfolding drawn_as
  drawn_as-Err slots fault is wrong = rw (is, wrong) refl

  pub drawn_as-broken : (fault : DxfFault) → slots_in shape per_unit rest ≡ Err fault → drawn_as shape per_unit chord drawn at rest ≡ Err fault
  unfolding drawn_as
  drawn_as-broken fault is = rw is refl
