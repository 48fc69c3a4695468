-- Answers the goals of `steady_blocks`.
use Rattle.std.proofs.Common.{◌≡◌, ◌≤◌, ◌+◌, ◌*◌, ◌/◌, ◌∙◌, ◌∷◌, [], ap, ap₂, sym, arith, length}
use Rattle.std.proofs.lemmas.List.{length-append}
use Rattle.pbm_edges.specs.Packed.{row_bytes}
use Rattle.pbm_edges.specs.Same.{IsPackedOf}
use Rattle.pbm_edges.proofs.Steady.{bytes_within, flagged, is_up, rows_within, steady_more}
use Rattle.pbm_edges.proofs.same.steady_blocks.Goals as goal

pub is_steady-requires-clause-rows : goal.is_steady-requires-clause-rows
is_steady-requires-clause-rows c =
    let image = c.args.image.now in
    let wide : c.row_bytes-width.result ≡ row_bytes image.width = c.row_bytes-width.ensures ∙ ap row_bytes c.width.ensures.value in
    let packed : IsPackedOf image c.in-Some.bytes.now = c.in-Some.ensures in
    bytes_within c.loop-place.place c.row_bytes-width.result c.height.result (length c.in-Some.bytes.now) (omega arith) c.loop-place-test.true
    (packed.full ∙ ap₂ (λ h w. h * w) (sym c.height.ensures.value) (sym wide))

pub loop-place-preserved : goal.loop-place-preserved
loop-place-preserved c =
    let image = c.args.image.now in
    let width = c.row_bytes-width.result in
    let place = c.loop-place.place in
    let wide : width ≡ row_bytes image.width = c.row_bytes-width.ensures ∙ ap row_bytes c.width.ensures.value in
    let packed : IsPackedOf image c.in-Some.bytes.now = c.in-Some.ensures in
    let grown = c.in_ok-push.ensures.items in
    let high = c.height.ensures.value in
    let room : 8 * (place / width) + 9 ≤ c.height.result = rows_within place width c.height.result (omega arith) c.loop-place-test.true in
    let count = c.loop-place.invariant.count in
    record {
      count = ap length grown ∙ length-append c.loop-place.flags.items (c.is_steady.result ∷ []) ∙ ap (λ n. n + 1) count;
      steady = steady_more image c.loop-place.flags.items c.push.new.self.items c.is_steady.result place count grown
          (λ up. flagged image c.in-Some.bytes.now packed place width wide (omega arith) (c.is_steady.ensures (is_up _ up))) c.loop-place.invariant.steady;
    }
