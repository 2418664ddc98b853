use Rattle.delta.proofs.Reviving.{revived}
use Rattle.delta.proofs.revival.revival_ends.Goals as goal

pub returns : goal.returns
returns c = revived
