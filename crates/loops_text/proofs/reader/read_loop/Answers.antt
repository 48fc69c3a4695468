-- Answers the goals of `read_loop`.
use Rattle.std.proofs.Common.{◌≡◌, ◌+◌, ◌-◌, ◌∷◌, ◌++◌, [], Ok, length, ap, arith, sym, ◌∙◌, refl}
use Rattle.std.proofs.lemmas.List.{length_push}
use Rattle.text_lines.specs.Cutting.{piece_of}
use Rattle.loops_text.specs.Grammar.{next_point, points_of}
use Rattle.loops_text.proofs.Reading.{last_place, last_place-all, points_of_step}
use Rattle.loops_text.proofs.reader.read_loop.Goals as goal

pub loop-word-init : goal.loop-word-init
loop-word-init c =
    let words = c.into_iter-word-iterator.ensures.into_iter_gives in
    let whole : c.args.room - 0 ≡ c.args.room = omega arith in
    (rw (c.requires.none_yet, words, whole) refl, rw words (last_place-all c.args.words), rw c.requires.none_yet (omega arith))

pub loop-word-preserved : goal.loop-word-preserved
loop-word-preserved c =
    let earlier = c.loop-word.points.items in
    let point = c.in_ok-point.point in
    let rest = c.next.new.self in
    let pushed = c.in_ok-push.ensures.items in
    let counted : c.len.result ≡ length earlier = omega (arith, c.loop-word.points.ok) in
    let longer : length (earlier ++ point ∷ []) ≡ length earlier + 1 = length_push earlier point in
    let step : c.loop-word.word-iterator ≡ piece_of c.in-Some.word ∷ rest = c.in-Some.ensures.steps in
    let room : c.args.room - length earlier - 1 ≡ c.args.room - length (earlier ++ point ∷ []) = omega arith in
    let is : next_point earlier (c.args.room - length earlier) (piece_of c.in-Some.word) ≡ Ok point = sym (rw (c.deref.ensures.value, counted) at c.in_ok-point.ensures.value) in
    let points = sym (points_of_step earlier (c.args.room - length earlier) (piece_of c.in-Some.word) rest point is) ∙ ap (points_of earlier (c.args.room - length earlier)) (sym step) ∙ c.loop-word.invariant.0 in
    (rw (pushed, ← room) points, ap (last_place c.loop-word.last) (sym step) ∙ c.loop-word.invariant.1, rw pushed (omega (arith, c.in_ok-point.ensures.fits)))
