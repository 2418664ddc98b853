use Rattle.std.proofs.Common.{◌≡◌, ◌∙◌, false, nat_lt, sym, arith, rules}
use Rattle.model.proofs.Sets.{past_member}
use Rattle.model.proofs.cores.CoreSet.contains.Goals as goal

pub returns-else-core-lt-CORES : goal.returns-else-core-lt-CORES
returns-else-core-lt-CORES c =
    let past : nat_lt c.args.core 16 ≡ false = search rules in
    past ∙ sym (past_member 16 c.args.self.bits c.args.core (search rules) (omega arith))
