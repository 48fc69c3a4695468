-- A move that spares the edges is safe: two uses of the parity law.
--
-- The first path leads from the move's first end below the surface to the place of the moment, the second from there to the
-- point removed, both in grid units. Each point of both is removed at some moment, so neither path meets an edge.
use Rattle.std.specs.Prelude.{All}
use Rattle.std.proofs.Common.{List, pos, ◌-ℤ◌, ◌*ℤ◌, ◌≤ℤ◌, ◌<ℤ◌, arith, subst, inl, inr}
use Rattle.std.proofs.lemmas.Int.{ints}
use Rattle.integer_algebra.proofs.Order.{mix_nonneg, times_pos}
use Rattle.plane_exact.specs.Cone.{Cone}
use Rattle.plane_exact.specs.Plane.{RationalPoint}
use Rattle.plane_exact.specs.declared.moves.Move.{Move}
use Rattle.plane_exact.specs.declared.point.Seg.{Seg}
use Rattle.engrave_model.specs.Drawing.{edges_of}
use Rattle.engrave_model.specs.Inside.{IsInside}
use Rattle.engrave_model.specs.Removal.{Moment, place_at, depth_at, tenfold, IsRemoved, Removes, RemovesNone}
use Rattle.plane_exact.specs.Plane.{IsOnPath}
use Rattle.evenodd_region.specs.Parity.{IsPathFree}
use Rattle.evenodd_region.specs.SafeMoves.{SparingMoveLaw, SurfaceMoveLaw}
use Rattle.evenodd_region.proofs.Discs.{centre_closer, way_closer, slope_some}
use Rattle.evenodd_region.proofs.Rounds.{parity}
use Rattle.evenodd_region.proofs.Tenths.{tenth, path_of_tenths, path_from_tenths}
use Rattle.evenodd_region.proofs.Ways.{IsDeepPlace, way_deep, deep_end, not_below_surface}

module _ (cone : Cone) (mv : Move) where
  -- a path of removed points meets no edge of which none is removed
  path_free : (edges : List Seg) (v w : RationalPoint) → All (RemovesNone cone mv) edges
      → ((u : RationalPoint) → IsOnPath v w u → Removes cone mv u) → IsPathFree edges v w
  path_free edges v w spared removed u on outline =
      let r = removed u on in
      let spares : RemovesNone cone mv outline.1 = subst (RemovesNone cone mv) outline.3 (spared outline.0 outline.1 outline.2) in
      spares r.moment u outline.4 r.removed

  -- below the surface the tip removes its own place
  pub place_removed : pos 0 <ℤ pos cone.sn → (u : RationalPoint) → IsDeepPlace mv (tenfold u) → Removes cone mv u
  place_removed slope u p =
      let s = p.moment in
      record {
        moment = s;
        removed = record {
          deep = p.deep;
          close = centre_closer (pos cone.sn *ℤ depth_at mv s) (pos cone.sd *ℤ s.n) (place_at mv s) (tenfold u) (times_pos _ _ slope p.deep) p.same;
        };
      }

  -- with a point each point of the way to it from the tip is removed
  way_removed : (s : Moment) (w u : RationalPoint) → IsRemoved cone mv s w → IsOnPath (tenth (place_at mv s)) w u → Removes cone mv u
  way_removed s w u removed on = record {
    moment = s;
    removed = record { deep = removed.deep; close = way_closer _ _ (place_at mv s) (tenfold w) (tenfold u) (path_from_tenths (place_at mv s) w u on) removed.close };
  }

pub sparing_is_safe : SparingMoveLaw
sparing_is_safe loops cone mv deep spared inside s w removed =
    let edges = edges_of loops in
    let first = deep_end mv deep in
    let v = place_at mv first.moment in
    let tip = place_at mv s in
    let slope = slope_some (pos cone.sn) (depth_at mv s) (pos cone.sd *ℤ s.n) tip (tenfold w) (omega (arith, ints)) removed.close in
    let at_first : IsInside edges (tenth v) = subst (IsInside edges) first.same inside in
    let along = path_free cone mv edges (tenth v) (tenth tip) spared
    (λ u on. place_removed cone mv slope u (way_deep mv first.moment s (tenfold u) first.deep removed.deep (path_of_tenths v tip u on))) in
    let aside = path_free cone mv edges (tenth tip) w spared (λ u on. way_removed cone mv s w u removed on) in
    (parity loops (tenth tip) w aside).0 ((parity loops (tenth v) (tenth tip) along).0 at_first)

-- a height between two at or above the surface is not below it
never_deep : (mv : Move) (s : Moment) → pos 0 ≤ℤ mv.from.h → pos 0 ≤ℤ mv.to.h → depth_at mv s ≤ℤ pos 0
never_deep mv s from to =
    let start = s.start in
    let finish = s.finish in
    let level = mix_nonneg (s.n -ℤ s.k) s.k mv.from.h mv.to.h (omega (arith, ints)) start from to in
    omega (arith, ints)

pub surface_is_safe : SurfaceMoveLaw
surface_is_safe edges cone mv shallow s w removed =
    let from = not_below_surface mv.from.h (λ d. shallow (inl d)) in
    let to = not_below_surface mv.to.h (λ d. shallow (inr d)) in
    let flat = never_deep mv s from to in
    let deep = removed.deep in
    absurd (omega (arith, ints))
