use Rattle.counter.proofs.Runs.{prompt_over_runs}
use Rattle.counter.proofs.bound.bound_of.Goals as goal

pub returns : goal.returns
returns g c =
    prompt_over_runs g.C.Counter.meaning g.C.Counter.steps g.C.Counter.timely g.C.Counter.prompt g.K.Kind.CAPACITY g.K.Kind.REVIVES
    g.met.C.Counter.onward g.met.C.Counter.bound
