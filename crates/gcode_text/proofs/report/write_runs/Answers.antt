-- Answers the goals of `write_runs`.
use Rattle.std.proofs.Common.{◌≡◌, ◌++◌, ap, append_assoc, flat_map, pos, rules, subst, ◌∙◌}
use Rattle.std.proofs.lemmas.List.{get_or_read, take_all}
use Rattle.std.proofs.lemmas.List.Elements.{All-more}
use Rattle.plane_exact.specs.Uncut.{GridRun, IsRun}
use Rattle.gcode_text.specs.Report.{run_line}
use Rattle.gcode_text.proofs.Closing.{runs_text}
use Rattle.gcode_text.proofs.Growing.{grown_by}
use Rattle.gcode_text.proofs.report.write_runs.Goals as goal

pub loop-run-preserved : goal.loop-run-preserved
loop-run-preserved c =
    let subject = c.args.subject in
    let runs = c.args.runs.now in
    let i = c.loop-run.run-index in
    let before = c.args.before.now in
    let behind = c.args.behind.now in
    let any : GridRun = record { y = pos 0; x0 = pos 0; x1 = pos 0 } in
    let read = get_or_read runs i _ c.loop-run-test.true c.run-item.is any in
    let text : c.extend_from_slice-in-loop-run.new.self.items ≡ c.loop-run.out.items ++ (before ++ (run_line subject c.run-item.result ++ behind)) = search (rules, append_assoc) in (
      grown_by (λ run. before ++ (run_line subject run ++ behind)) runs i any c.args.out.now.items c.loop-run.out.items _ c.loop-run-test.true c.loop-run.invariant.0
          (text ∙ ap (λ run. c.loop-run.out.items ++ (before ++ (run_line subject run ++ behind))) read),
      All-more (λ run. IsRun run.y run.x0 run.x1) runs i any c.loop-run-test.true c.loop-run.invariant.1 (subst (λ run. IsRun run.y run.x0 run.x1) read c.in_ok-write_run.ensures.range),
    )

pub returns-clause-text : goal.returns-clause-text
returns-clause-text c =
    let subject = c.args.subject in
    let before = c.args.before.now in
    let behind = c.args.behind.now in
    c.loop-run.invariant.0 ∙ ap (λ runs. c.args.out.now.items ++ flat_map (λ run. before ++ (run_line subject run ++ behind)) runs)
    (take_all c.loop-run.run-index c.args.runs.now c.loop-run-test.false)
    ∙ ap (λ text. c.args.out.now.items ++ text) (runs_text subject before behind c.args.runs.now)
