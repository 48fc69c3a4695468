-- Answers the goals of `text_of`.
use Rattle.std.proofs.Common.{inl, refl}
use Rattle.engrave_core.proofs.RepairedCode.{written}
use Rattle.engrave_core.proofs.commands.repair.text_of.Goals as goal

pub returns-clause-value : goal.returns-clause-value
returns-clause-value c =
    let repaired = c.in_ok-repaired.ensures in
    let text = c.in_ok-write_visits.ensures in
    inl (record {
      done = refl;
      mended = written c.args.units c.args.bit.now c.args.safe c.args.feed c.args.scene.now c.args.moves.now _ _ _ _ repaired.value (repaired.worth c.requires.following)
          c.deref.ensures.value repaired.few text.text text.read_back;
    })
