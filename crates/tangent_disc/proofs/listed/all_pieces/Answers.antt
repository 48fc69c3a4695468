-- Answers the goals of `all_pieces`.
use Rattle.std.proofs.Common.{All, subst, sym}
use Rattle.std.proofs.lemmas.List.Elements.{All-push, AllWithin-more, at_read}
use Rattle.plane_exact.specs.Cone.{IsFromOneTo}
use Rattle.plane_exact.specs.declared.point.Seg.{Seg}
use Rattle.tangent_disc.specs.Contacts.{IsTooFine}
use Rattle.tangent_disc.proofs.Listing.{not_too_fine, pieces_more}
use Rattle.tangent_disc.proofs.listed.all_pieces.Goals as goal

pub loop-e-preserved : goal.loop-e-preserved
loop-e-preserved c =
    let edge = c.index-edges-e.result in
    let n = c.pieces_of-n.result in
    let old = c.loop-e.pieces.items in
    let pushed = c.in_ok-push.ensures.items in
    record {
      divided = pieces_more c.args.step c.args.edges.now c.loop-e.e edge n old _ c.loop-e-test.true c.index-edges-e.is c.loop-e.invariant.divided c.pieces_of-n.ensures pushed;
      coarse = subst (All (IsFromOneTo 8192)) (sym pushed)
          (All-push (IsFromOneTo 8192) old n c.loop-e.invariant.coarse (record { low = c.pieces_of-n.ensures.some; high = c.if-n-gt-MOST_PIECES.false }));
      before = AllWithin-more (λ (e : Seg). ¬ IsTooFine c.args.step e) c.args.edges.now 0 c.loop-e.e c.loop-e.invariant.before
          (at_read c.args.edges.now (λ (e : Seg). ¬ IsTooFine c.args.step e) c.loop-e.e edge c.loop-e-test.true c.index-edges-e.is
          (not_too_fine c.args.step edge n c.pieces_of-n.ensures c.if-n-gt-MOST_PIECES.false));
    }
