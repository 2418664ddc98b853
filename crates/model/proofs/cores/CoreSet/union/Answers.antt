use Rattle.std.proofs.Common.{refl}
use Rattle.model.proofs.Sets.{or_member}
use Rattle.model.proofs.cores.CoreSet.union.Goals as goal

pub returns : goal.returns
returns c = record { bits = refl; united = or_member c.args.self.bits c.args.other.bits }
