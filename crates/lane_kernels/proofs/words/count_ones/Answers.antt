-- Four words more are counted, and at the end the rest.
use Rattle.std.proofs.Common.{ℕ, List, ◌+◌, ◌≤◌, ◌∙◌, sym, ap, ap₂, arith, w64, length, sum_by, get_or, Fits}
use Rattle.std.specs.Int.RustNames.{count_ones}
use Rattle.std.specs.Simd.Lanes.{chunk}
use Rattle.std.proofs.lemmas.List.{take_rest}
use Rattle.std.proofs.lemmas.Simd.{below_from_Fits, chunk-fits, length-chunk}
use Rattle.lane_kernels.proofs.Counted.{ones_few, sum_chunk, sum_rest}
use Rattle.lane_kernels.proofs.words.count_ones.Goals as goal

-- four words have at most 256
four_few : (words : List ℕ) (at : ℕ) → ((k : ℕ) → Fits w64 (get_or words k 0)) → at + 4 ≤ length words → sum_by count_ones (chunk at 4 words) ≤ 256
four_few words at fit room =
    omega (arith, ones_few (chunk at 4 words) (below_from_Fits w64 (chunk at 4 words) (chunk-fits w64 at 4 words fit)), length-chunk at 4 words room)

pub overflow_add-count : goal.overflow_add-count
overflow_add-count c = omega (arith, c.ones_of_four-count.ensures, four_few c.args.words.now c.loop-at.at c.type_inv.words (omega arith))

pub loop-at-preserved : goal.loop-at-preserved
loop-at-preserved c = (
  ap₂ ◌+◌ c.loop-at.invariant.0 c.ones_of_four-count.ensures ∙ sym (sum_chunk count_ones c.loop-at.at 4 c.args.words.now),
  omega (arith, c.ones_of_four-count.ensures, four_few c.args.words.now c.loop-at.at c.type_inv.words (omega arith)),
  omega arith,
)

pub returns : goal.returns
returns c =
    ap₂ ◌+◌ c.loop-at.invariant.0 (c.ones_of_words.ensures.value ∙ ap (sum_by count_ones) (take_rest c.args.words.now c.loop-at.at))
    ∙ sym (sum_rest count_ones c.loop-at.at c.args.words.now)
