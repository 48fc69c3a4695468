-- What the loop of `stroke_chains` keeps.
use Rattle.std.proofs.Common.{◌≡◌, drop}
use Rattle.stroke_engrave.specs.Chains.{chains_of}
use Rattle.stroke_engrave.proofs.Going.{made_with}
use Rattle.stroke_engrave.proofs.chains.stroke_chains.Given as goal

abbrev pub invariant-loop-stroke : goal.invariant-loop-stroke
invariant-loop-stroke l = made_with l.depth l.chains.items l.going l.end (drop l.stroke-index l.others) ≡ chains_of l.depth l.strokes
