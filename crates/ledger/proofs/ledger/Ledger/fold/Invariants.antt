use Rattle.std.proofs.Common.{◌≡◌}
use Rattle.ledger.specs.States.{fold_first}
use Rattle.ledger.specs.View.{state}
use Rattle.ledger.proofs.ledger.Ledger.fold.Given as goal

abbrev pub invariant-loop-index : goal.invariant-loop-index
invariant-loop-index l = state l.self ≡ fold_first l.core l.index (state l.initial.self)
