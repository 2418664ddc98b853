use Rattle.std.proofs.Common.{◌≡◌, ℕ, sym, ap, ◌∙◌, ap₂, subst, arith}
use Rattle.counter.specs.Clocks.{clock_folds}
use Rattle.ledger.specs.States.{State, Ready, put_clock, fold_first}
use Rattle.ledger.specs.View.{state}
use Rattle.ledger.proofs.Folding.{first_ready, first_clock}
use Rattle.ledger.proofs.ledger.Ledger.fold.Goals as goal

pub fold_slot-requires : goal.fold_slot-requires
fold_slot-requires c =
    subst Ready (sym c.loop-index.invariant) (first_ready c.args.core c.loop-index.index (state c.args.self.now) c.requires.core (omega arith) c.requires.ready)

pub returns : goal.returns
returns c =
    let core = c.args.core in
    let st = state c.args.self.now in
    let first = subst (λ (n : ℕ). state c.loop-index.self ≡ fold_first core n st) (omega arith) c.loop-index.invariant in
    let clock = c.fold.ensures ∙ ap (clock_folds core) (ap (λ (t : State). t.clock) first ∙ first_clock core 16 st) in
    record { tables = ap₂ put_clock clock first; answer = tt }
