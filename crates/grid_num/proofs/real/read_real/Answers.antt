-- Answers the goals of `read_real`.
use Rattle.std.proofs.Common.{◌≡◌, ℕ, false, List, sym, ap, rules}
use Rattle.std.specs.List.{list_any}
use Rattle.grid_num.specs.Decimal.{decimal_number, in_size}
use Rattle.grid_num.specs.Judging.{and_then}
use Rattle.grid_num.specs.Real.{is_exponent_mark, no_exponent, real_times, scaled_real}
use Rattle.grid_num.proofs.Sides.{before_first_none}
use Rattle.grid_num.proofs.real.read_real.Goals as goal

-- a text with no mark of an exponent
real_times-plain : (scale : ℕ) (text : List ℕ) → list_any is_exponent_mark text ≡ false → real_times scale text ≡ and_then (decimal_number text) (λ number. in_size (scaled_real scale number no_exponent))
real_times-plain scale text none =
    let plain = before_first_none is_exponent_mark text none in
    rw none (ap (λ front. and_then (decimal_number front) (λ number. in_size (scaled_real scale number no_exponent))) (sym plain))

pub returns-in_err-read-in-None : goal.returns-in_err-read-in-None
returns-in_err-read-in-None c = rw (real_times-plain c.args.scale c.args.text.now c.in-None.ensures.none) (search rules)

pub returns-in_ok-read-in-None : goal.returns-in_ok-read-in-None
returns-in_ok-read-in-None c = rw (real_times-plain c.args.scale c.args.text.now c.in-None.ensures.none) (search rules)
