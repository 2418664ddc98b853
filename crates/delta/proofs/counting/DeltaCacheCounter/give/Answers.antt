use Rattle.counter.specs.Meaning.Operation.{Give}
use Rattle.ledger.specs.View.{state}
use Rattle.delta.specs.View.{tables}
use Rattle.delta.specs.Keeps.{keeps_sound, keeps_meaning}
use Rattle.delta.proofs.counting.DeltaCacheCounter.give.Goals as goal

pub invariant_of-self : goal.invariant_of-self
invariant_of-self g c =
    let st = tables c.args.self.now in
    record {
      sound = keeps_sound g.K.Kind.CAPACITY g.K.Kind.REVIVES st (state c.give.new.self) (Give c.args.object c.args.holders) g.K.Kind.small.1
          (c.requires.exists, c.requires.free, c.requires.some.0, c.requires.some.1) c.give.ensures c.args.self.now.sound;
    }

pub returns-clause-means : goal.returns-clause-means
returns-clause-means g c =
    let st = tables c.args.self.now in
    keeps_meaning g.K.Kind.CAPACITY g.K.Kind.REVIVES st (state c.give.new.self) (Give c.args.object c.args.holders) g.K.Kind.small.1
    (c.requires.exists, c.requires.free, c.requires.some.0, c.requires.some.1) c.give.ensures c.args.self.now.sound
