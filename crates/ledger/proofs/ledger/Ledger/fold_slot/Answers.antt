use Rattle.std.proofs.Common.{arith}
use borrow.Author.Differences.{ints}
use Rattle.ledger.specs.View.{state}
use Rattle.ledger.proofs.Folding.{shared_small}
use Rattle.ledger.proofs.ledger.Ledger.fold_slot.Goals as goal

pub fold-requires : goal.fold-requires
fold-requires c = (shared_small (state c.args.self.now) c.requires c.in-Some.delta.object, omega (arith, ints, c.in-Some.ensures.within))
