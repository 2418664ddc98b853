use Rattle.std.proofs.Common.{sym, ap, subst, arith}
use lib.Bits.{bit_xor}
use Rattle.std.proofs.lemmas.Nat.{one_shl}
use Rattle.model.specs.CoreSets.{Left}
use Rattle.model.proofs.Sets.{leave_member}
use Rattle.model.proofs.cores.CoreSet.without.Goals as goal

pub returns : goal.returns
returns c =
    let bits = c.args.self.bits in
    let k = c.args.core in
    subst (Left bits k) (sym (ap (bit_xor bits) (one_shl k 16 (omega arith)))) (leave_member bits k (sym c.if-not-contains.ensures))
