-- Answers the goals of `engrave`.
use Rattle.std.specs.Prelude.{map, string_bytes}
use Rattle.std.proofs.Common.{inr}
use Rattle.job_words.specs.Request.{request_of}
use Rattle.engrave_core.proofs.Safety.{done_is, good_repair, good_text, safe_run, true_engraving, true_milling, true_report, written_is, written_is_true}
use Rattle.engrave_core.proofs.Writing.{IfSome-map, caused_after, part_of_due, completes}
use Rattle.engrave_core.proofs.top.engrave.Goals as goal

pub returns-in-Ok-clause-caused : goal.returns-in-Ok-clause-caused
returns-in-Ok-clause-caused g c = caused_after _ _ _ _ c.in-Ok.reply.outcome c.write.result c.write.ensures.either c.in-Ok.ensures.caused

pub returns-in-Ok-clause-cut_short : goal.returns-in-Ok-clause-cut_short
returns-in-Ok-clause-cut_short g c =
    IfSome-map (g.D.Depot.held c.args.depot.now)
    (λ files due cut. part_of_due (map string_bytes c.args.words.now) files c.in-Ok.reply.text.items _ _ _ _ _ _
    c.in-Ok.reply.outcome c.in-Ok.ensures.writes due c.in-Ok.ensures.refused c.in-Ok.ensures.caused (c.write.ensures.cut_short cut))
    c.in-Ok.ensures.due

pub returns-in-Ok-clause-complete : goal.returns-in-Ok-clause-complete
returns-in-Ok-clause-complete g c =
    IfSome-map (g.D.Depot.held c.args.depot.now)
    (λ files due calm steady. inr (completes (map string_bytes c.args.words.now) files c.in-Ok.reply.text.items _ _ _ _ _ _
    c.in-Ok.reply.outcome c.write.result _ _ c.in-Ok.ensures.writes due c.in-Ok.ensures.caused c.write.ensures.either
    c.write.ensures.written c.write.ensures.write_fault calm steady))
    c.in-Ok.ensures.due

pub returns-in-Ok-clause-safe : goal.returns-in-Ok-clause-safe
returns-in-Ok-clause-safe g c =
    done_is (request_of (map string_bytes c.args.words.now)) c.in-Ok.reply.text.items c.in-Ok.reply.outcome c.write.result c.write.ensures.either
    (g.D.Depot.held c.args.depot.now) c.in-Ok.ensures.due _ (safe_run _ _)

pub returns-in-Ok-clause-exact : goal.returns-in-Ok-clause-exact
returns-in-Ok-clause-exact g c =
    IfSome-map (g.D.Depot.held c.args.depot.now)
    (written_is_true (request_of (map string_bytes c.args.words.now)) c.in-Ok.reply.text.items c.in-Ok.reply.outcome c.write.result c.write.ensures.either)
    c.in-Ok.ensures.due

pub returns-in-Ok-clause-carved : goal.returns-in-Ok-clause-carved
returns-in-Ok-clause-carved g c =
    written_is (request_of (map string_bytes c.args.words.now)) c.in-Ok.reply.text.items c.in-Ok.reply.outcome c.write.result c.write.ensures.either
    (g.D.Depot.held c.args.depot.now) c.in-Ok.ensures.due _ _ _ (good_text _ _) c.write.ensures.written

pub returns-in-Ok-clause-engraved : goal.returns-in-Ok-clause-engraved
returns-in-Ok-clause-engraved g c =
    written_is (request_of (map string_bytes c.args.words.now)) c.in-Ok.reply.text.items c.in-Ok.reply.outcome c.write.result c.write.ensures.either
    (g.D.Depot.held c.args.depot.now) c.in-Ok.ensures.due _ _ _ (true_engraving _ _) c.write.ensures.written

pub returns-in-Ok-clause-milled : goal.returns-in-Ok-clause-milled
returns-in-Ok-clause-milled g c =
    written_is (request_of (map string_bytes c.args.words.now)) c.in-Ok.reply.text.items c.in-Ok.reply.outcome c.write.result c.write.ensures.either
    (g.D.Depot.held c.args.depot.now) c.in-Ok.ensures.due _ _ _ (true_milling _ _) c.write.ensures.written

pub returns-in-Ok-clause-covered : goal.returns-in-Ok-clause-covered
returns-in-Ok-clause-covered g c =
    written_is (request_of (map string_bytes c.args.words.now)) c.in-Ok.reply.text.items c.in-Ok.reply.outcome c.write.result c.write.ensures.either
    (g.D.Depot.held c.args.depot.now) c.in-Ok.ensures.due _ _ _ (true_report _ _) c.write.ensures.written

pub returns-in-Ok-clause-repaired : goal.returns-in-Ok-clause-repaired
returns-in-Ok-clause-repaired g c =
    written_is (request_of (map string_bytes c.args.words.now)) c.in-Ok.reply.text.items c.in-Ok.reply.outcome c.write.result c.write.ensures.either
    (g.D.Depot.held c.args.depot.now) c.in-Ok.ensures.due _ _ _ (good_repair _ _) c.write.ensures.written
