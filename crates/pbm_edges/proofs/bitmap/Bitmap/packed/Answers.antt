-- Answers the goals of `Bitmap::packed`.
use Rattle.std.proofs.Common.{List, ℕ, subst, sym}
use Rattle.pbm_edges.specs.Pixels.{Pixels}
use Rattle.pbm_edges.specs.Same.{IsPackedOf}
use Rattle.pbm_edges.proofs.Steady.{packed_of}
use Rattle.pbm_edges.proofs.bitmap.Bitmap.packed.Goals as goal

pub returns-in-Packed : goal.returns-in-Packed
returns-in-Packed c =
    let inside = c.self.inside in
    let packed = packed_of inside.width inside.height inside.cells c.in-Packed.rows c.in-Packed.is c.self.invariant in
    subst (λ (bytes : List ℕ). IsPackedOf c.args.self.now bytes) (sym c.deref.ensures.value) (subst (λ (image : Pixels). IsPackedOf image c.in-Packed.rows.items) c.self.view_is packed)
