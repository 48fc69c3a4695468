-- Answers the goals of `is_beyond`.
use Rattle.std.proofs.Common.{◌≤◌, arith, subst, sym}
use Rattle.std.proofs.lemmas.Int.{ints}
use Rattle.plane_exact.specs.Product.{dot_of}
use Rattle.path_order.specs.Found.{IsNoLater}
use Rattle.path_order.proofs.Searches.{as_far, farther, passed}
use Rattle.path_order.proofs.found.is_beyond.Goals as goal

pub returns-then-found-way : goal.returns-then-found-way
returns-then-found-way c = λ t e holds.
    let found = c.in-Some.found in
    let place = c.args.place in
    subst (λ best. IsNoLater place best e) (sym c.in-Some.is)
    (farther found.way c.way_from-way.result (dot_of place e.at e.at) found.number e.number (omega (arith, ints)) (c.way_from-way.ensures e holds))

pub returns : goal.returns
returns c = λ few e holds.
    let found = c.in-Some.found in
    let place = c.args.place in
    subst (λ best. IsNoLater place best e) (sym c.in-Some.is)
    (as_far found.way c.way_from-way.result (dot_of place e.at e.at) found.number c.args.extent.least e.number (omega (arith, ints)) (omega (arith, ints)) (c.way_from-way.ensures e holds)
    (subst (λ n. found.number ≤ n) c.least.ensures (passed found.number c.least.result few)) holds.number)
