use Rattle.std.proofs.Common.{sym, ap, subst, arith}
use lib.Bits.{bit_or}
use Rattle.std.proofs.lemmas.Nat.{one_shl}
use Rattle.model.specs.CoreSets.{Joined}
use Rattle.model.proofs.Sets.{join_member}
use Rattle.model.proofs.cores.CoreSet.with.Goals as goal

pub returns : goal.returns
returns c =
    let bits = c.args.self.bits in
    let k = c.args.core in
    let is = ap (bit_or bits) (one_shl k 16 (omega arith)) in
    record { bits = is; joined = subst (Joined bits k) (sym is) (join_member bits k) }
