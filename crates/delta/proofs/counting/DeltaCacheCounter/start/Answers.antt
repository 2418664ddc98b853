use Rattle.std.proofs.Common.{ap, ◌∙◌}
use Rattle.delta.specs.Safety.{delta_meaning}
use Rattle.delta.specs.Safe.{started_sound}
use Rattle.delta.specs.Means.{started_is}
use Rattle.delta.specs.Onward.{started_time}
use Rattle.delta.proofs.counting.DeltaCacheCounter.start.Goals as goal

pub invariant_of-result : goal.invariant_of-result
invariant_of-result g c = record { sound = rw c.new.ensures (started_sound c.args.cores c.args.epoch c.requires.few) }

pub returns-clause-means : goal.returns-clause-means
returns-clause-means g c = ap delta_meaning c.new.ensures ∙ started_is c.args.cores c.args.epoch

pub returns-clause-timely : goal.returns-clause-timely
returns-clause-timely g c p = rw c.new.ensures (started_time g.K.Kind.CAPACITY c.args.cores c.args.epoch p)
