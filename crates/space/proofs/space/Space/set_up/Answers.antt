use Rattle.std.proofs.Common.{sym, subst}
use Rattle.space.specs.States.{State}
use Rattle.space.specs.Laws.{SetUp}
use Rattle.space.proofs.Beginning.{all_blank}
use Rattle.space.proofs.space.Space.set_up.Goals as goal

pub returns-clause-accepted : goal.returns-clause-accepted
returns-clause-accepted g c =
    subst (λ (st : State). SetUp c.args.cores c.args.epoch (g.N.Counter.meaning c.begun.result.nodes) st) (sym c.begun.ensures.state)
    (record { vacant = λ q _. all_blank c.args.cores c.args.frames c.args.nodes c.args.epoch q; nodes = c.begun.ensures.nodes })
