-- Answers the goals of `write_loops`.
use Rattle.std.proofs.Common.{◌≡◌, ◌∷◌, ◌++◌, [], length, take, ap, arith, rules, sym, ◌∙◌, refl}
use Rattle.std.proofs.Math.Seq.{take-length}
use Rattle.std.proofs.lemmas.Grind.{flat_map-append}
use Rattle.std.proofs.lemmas.List.{append-nil, take_more}
use Rattle.std.proofs.lemmas.Option.{get_or_from_slice_get}
use Rattle.loops_text.specs.Grammar.{loops_of}
use Rattle.loops_text.specs.Writing.{written_loop, written_loops}
use Rattle.loops_text.proofs.ReadBack.{read_back, written_loops_more}
use Rattle.loops_text.proofs.writer.write_loops.Goals as goal

pub loop-i-init : goal.loop-i-init
unfolding written_loops
loop-i-init c = c.new-text.ensures.items

pub loop-i-preserved : goal.loop-i-preserved
loop-i-preserved c =
    c.in_ok-write_loop.ensures ∙ ap (λ text. text ++ written_loop c.points.result.now) c.loop-i.invariant ∙ written_loops_more c.args.d.now c.loop-i.i c.points.result.now c.points.ensures.points

pub returns-clause-text : goal.returns-clause-text
returns-clause-text c =
    let all : take c.loop-i.i c.args.d.now ≡ c.args.d.now = ap (λ i. take i c.args.d.now) (omega arith) ∙ take-length c.args.d.now in
    c.loop-i.invariant ∙ ap written_loops all

pub returns-clause-range : goal.returns-clause-range
returns-clause-range c =
    let all : take c.loop-i.i c.args.d.now ≡ c.args.d.now = ap (λ i. take i c.args.d.now) (omega arith) ∙ take-length c.args.d.now in
    let short = (read_back c.args.d.now c.loops-i-end.ensures.drawing).short in
    omega (arith, ap length (c.loop-i.invariant ∙ ap written_loops all), short)

pub returns-clause-read_back : goal.returns-clause-read_back
returns-clause-read_back c =
    let all : take c.loop-i.i c.args.d.now ≡ c.args.d.now = ap (λ i. take i c.args.d.now) (omega arith) ∙ take-length c.args.d.now in
    ap loops_of (c.loop-i.invariant ∙ ap written_loops all) ∙ (read_back c.args.d.now c.loops-i-end.ensures.drawing).read
