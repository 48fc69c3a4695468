-- Answers the goals of `push_runs`.
use Rattle.std.proofs.Common.{◌≡◌, ◌<◌, true, false, sym, subst, ◌∙◌, ap, arith}
use Rattle.coverage_report.specs.Rows.{IsPointRow, PointRow, is_set_in}
use Rattle.coverage_report.specs.RowRuns.{run_at}
use Rattle.coverage_report.proofs.RunsFrom.{all_came, begun, ended, last_came, passed, pushed, went_on}
use Rattle.coverage_report.proofs.runs.push_runs.Goals as goal
use Rattle.coverage_report.proofs.runs.push_runs.Goals.{in-None+then-is_set, in-None+else-is_set, in-Some+then-ends+in_ok-push-in-Some, in-Some+else-ends}

pub loop-i-preserved : goal.loop-i-preserved
loop-i-preserved c =
    let row = c.args.row.now in
    let words = c.args.bits.now in
    let old = c.args.runs.now.items in
    let runs = c.loop-i.runs.items in
    let others = c.match-going.runs.items in
    let going = c.loop-i.going in
    let other = c.match-going.going in
    let i = c.loop-i.i in
    let count : c.row.inside.count ≡ row.count = ap (λ (row : PointRow). row.count) c.row.view_is in
    let within : i < row.count = omega arith in
    elim c.match-going.branch [
      | in-None+then-is_set w ↦
          begun row words old runs i within others going other (sym w.is_set.ensures ∙ w.if-is_set.true) (cc) w.in-None.is w.going-is c.loop-i.invariant
      | in-None+else-is_set w ↦
          passed row words old runs i within others going other (sym w.is_set.ensures ∙ w.if-is_set.false) (cc) w.in-None.is (cc) c.loop-i.invariant
      | in-Some+then-ends+in_ok-push-in-Some w ↦
          let clear : is_set_in words i ≡ false = cc in
          let run : w.run_of.result ≡ run_at row w.in-Some.first i = w.run_of.ensures in
          ended row words old runs i within others going other w.in-Some.first clear (cc w.in_ok-push-in-Some.ensures.items) w.in-Some.is w.going-is c.loop-i.invariant
      | in-Some+else-ends w ↦
          let set : is_set_in words i ≡ true = cc in
          went_on row words old runs i within others going other w.in-Some.first set (cc) w.in-Some.is w.going-is c.loop-i.invariant
    ]

pub returns-in_ok-push : goal.returns-in_ok-push
returns-in_ok-push c =
    let row = c.args.row.now in
    let count : c.row.inside.count ≡ row.count = ap (λ (row : PointRow). row.count) c.row.view_is in
    let last : c.loop-i.i ≡ row.count = omega arith in
    let run : c.run_of-in-Some-going.result ≡ run_at row c.in-Some-going.first row.count = cc in
    pushed row c.args.bits.now c.args.runs.now.items _ (subst IsPointRow c.row.view_is c.row.invariant)
    (c.in_ok-push.ensures.items
    ∙ last_came row c.args.bits.now c.args.runs.now.items c.loop-i.runs.items c.loop-i.going c.loop-i.i last c.loop-i.invariant c.in-Some-going.first _ c.in-Some-going.is run)

pub returns-in_default : goal.returns-in_default
returns-in_default c =
    let row = c.args.row.now in
    let count : c.row.inside.count ≡ row.count = ap (λ (row : PointRow). row.count) c.row.view_is in
    let last : c.loop-i.i ≡ row.count = omega arith in
    pushed row c.args.bits.now c.args.runs.now.items c.loop-i.runs.items (subst IsPointRow c.row.view_is c.row.invariant)
    (all_came row c.args.bits.now c.args.runs.now.items c.loop-i.runs.items c.loop-i.going c.loop-i.i last c.loop-i.invariant c.in_default.is)
