use Rattle.counter.specs.Meaning.Operation.{Judge}
use Rattle.ledger.specs.View.{state}
use Rattle.delta.specs.View.{tables}
use Rattle.delta.specs.Keeps.{keeps_sound, keeps_meaning}
use Rattle.delta.proofs.counting.DeltaCacheCounter.judge.Goals as goal

pub invariant_of-self : goal.invariant_of-self
invariant_of-self g c =
    let st = tables c.args.self.now in
    record {
      sound = keeps_sound g.K.Kind.CAPACITY g.K.Kind.REVIVES st (state c.judge.new.self) (Judge c.args.core c.args.object c.judge.result) g.K.Kind.small.1
          (c.requires.exists, c.requires.serves) c.judge.ensures c.args.self.now.sound;
    }

pub returns-clause-means : goal.returns-clause-means
returns-clause-means g c =
    let st = tables c.args.self.now in
    keeps_meaning g.K.Kind.CAPACITY g.K.Kind.REVIVES st (state c.judge.new.self) (Judge c.args.core c.args.object c.judge.result) g.K.Kind.small.1
    (c.requires.exists, c.requires.serves) c.judge.ensures c.args.self.now.sound
