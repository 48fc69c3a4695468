-- Answers the goals of `add_line`.
use mir.Syntax.{w32}
use Rattle.std.proofs.Common.{◌∷◌, [], ◌≡◌, pos, ◌+ℤ◌, arith, subst, sym, to_z, of_z}
use Rattle.std.proofs.lemmas.Int.{ints}
use Rattle.plane_exact.specs.Plane.{IsCoordinate}
use Rattle.cleanup_pocket.specs.Kept.{IsGrown}
use Rattle.cleanup_pocket.specs.Floors.{chain_along}
use Rattle.cleanup_pocket.proofs.Lines.{first_on, last_on, next_on, run_before, runs_ended, runs_stepped}
use Rattle.cleanup_pocket.proofs.StoredPlaces.{value_read}
use Rattle.cleanup_pocket.proofs.kept.Kept.add_line.Goals as goal

pub add_run-requires-clause-first : goal.add_run-requires-clause-first
add_run-requires-clause-first g c =
    let floor = c.args.floor.now in
    let line = c.args.line.now in
    first_on (g.F.Floor.is_good floor) (g.F.Floor.is_way floor) (g.F.Floor.depth_of floor) line.axis line.at line.low line.high line.low_range line.high_range c.requires (to_z w32 c.loop-run.from-bits)
    c.in-Some.run' c.in-Some.ensures

pub add_run-requires-clause-last : goal.add_run-requires-clause-last
add_run-requires-clause-last g c =
    let floor = c.args.floor.now in
    let line = c.args.line.now in
    last_on (g.F.Floor.is_good floor) (g.F.Floor.is_way floor) (g.F.Floor.depth_of floor) line.axis line.at line.low line.high line.low_range line.high_range c.requires (to_z w32 c.loop-run.from-bits)
    c.in-Some.run' c.in-Some.ensures

pub behind-from-requires-clause-last : goal.behind-from-requires-clause-last
behind-from-requires-clause-last g c =
    let floor = c.args.floor.now in
    let line = c.args.line.now in
    last_on (g.F.Floor.is_good floor) (g.F.Floor.is_way floor) (g.F.Floor.depth_of floor) line.axis line.at line.low line.high line.low_range line.high_range c.requires (to_z w32 c.loop-run.from-bits)
    c.in-Some.run' c.in-Some.ensures

pub behind-from-requires-clause-next : goal.behind-from-requires-clause-next
behind-from-requires-clause-next g c =
    let floor = c.args.floor.now in
    let line = c.args.line.now in
    next_on (g.F.Floor.is_good floor) (g.F.Floor.is_way floor) (g.F.Floor.depth_of floor) line.axis line.at line.low line.high line.low_range line.high_range c.requires (to_z w32 c.loop-run.from-bits)
    c.in-Some.run' c.in-Some.ensures

pub loop-run-smaller : goal.loop-run-smaller
loop-run-smaller g c =
    let floor = c.args.floor.now in
    let line = c.args.line.now in
    let run = c.in-Some.run' in
    let on = next_on (g.F.Floor.is_good floor) (g.F.Floor.is_way floor) (g.F.Floor.depth_of floor) line.axis line.at line.low line.high line.low_range line.high_range c.requires (to_z w32 c.loop-run.from-bits) run c.in-Some.ensures in
    run_before (g.F.Floor.is_good floor) (g.F.Floor.is_way floor) (g.F.Floor.depth_of floor) line.axis line.at line.low line.high line.low_range line.high_range c.requires (to_z w32 c.loop-run.from-bits) run c.in-Some.ensures
    (to_z w32 (of_z w32 c.behind-from.result)) (value_read (run.last +ℤ pos 1) c.behind-from.result on c.behind-from.ensures)

pub loop-run-preserved : goal.loop-run-preserved
loop-run-preserved g c =
    let floor = c.args.floor.now in
    let line = c.args.line.now in
    let run = c.in-Some.run' in
    let on = next_on (g.F.Floor.is_good floor) (g.F.Floor.is_way floor) (g.F.Floor.depth_of floor) line.axis line.at line.low line.high line.low_range line.high_range c.requires (to_z w32 c.loop-run.from-bits) run c.in-Some.ensures in
    let next = value_read (run.last +ℤ pos 1) c.behind-from.result on c.behind-from.ensures in
    record {
      on = subst IsCoordinate (sym next) on;
      kept =
          runs_stepped (g.F.Floor.is_good floor) (g.F.Floor.is_way floor) (g.F.Floor.depth_of floor) line.axis line.at line.low c.args.self.now.chains.items c.args.self.now.has_more (to_z w32 c.loop-run.from-bits) _ run
          c.loop-run.self.chains.items c.add_run.new.self.chains.items c.loop-run.self.has_more c.add_run.new.self.has_more c.in-Some.ensures next
          (subst
          (λ z. IsGrown (λ part. part ≡ chain_along line.axis line.at z run ∷ []) c.loop-run.self.chains.items c.loop-run.self.has_more c.add_run.new.self.chains.items c.add_run.new.self.has_more)
          c.depth.ensures.value c.in_ok-add_run.ensures)
          c.loop-run.invariant.kept;
    }

pub returns : goal.returns
returns g c =
    let floor = c.args.floor.now in
    let line = c.args.line.now in
    runs_ended (g.F.Floor.is_good floor) (g.F.Floor.is_way floor) (g.F.Floor.depth_of floor) line.axis line.at line.low c.args.self.now.chains.items c.args.self.now.has_more (to_z w32 c.loop-run.from-bits)
    c.loop-run.self.chains.items c.loop-run.self.has_more
    (λ t below good. let from = (c.requires t good).from in absurd (omega (arith, ints))) c.in_default.ensures c.loop-run.invariant.kept
