use Rattle.counter.specs.ClocksLemmas.{folds_means}
use Rattle.counter.specs.Plain.{count_at}
use Rattle.counter.specs.PlainView.{table_of}
use Rattle.counter.proofs.plain.PlainCountCounter.fold.Goals as goal

pub returns-clause-means : goal.returns-clause-means
returns-clause-means g c =
    let t = table_of c.args.self.now in
    rw c.fold.ensures (folds_means c.args.core t.clock (count_at t))
