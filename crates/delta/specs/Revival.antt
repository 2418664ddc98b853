-- A small run of the rules: a node loses its last holder, is flushed, and is revived before it is judged.
use Rattle.std.specs.Prelude.{◌≡◌, ℕ, true, false, List, [], ◌∷◌, Some, None}
use Rattle.counter.specs.Meaning.{Operation}
use Rattle.counter.specs.Meaning.Operation.{Give, Down, Revive, Fold, Judge, Close}
use Rattle.counter.specs.Operations.{AnswersAs}
use Rattle.ledger.specs.Records.{on_list_of}
use Rattle.ledger.specs.States.{State, started, state_after, finds_dead, record_at}
use Rattle.delta.specs.Safety.{holders_in}

-- the tables after several operations
abbrev pub after_all : List Operation → State → State
after_all [] st = st
after_all (op ∷ ops) st = after_all ops (state_after op st)

-- every judgement among them answers as it does here
abbrev pub Answered : List Operation → State → Type 0
Answered [] st = Unit {0}
Answered (op ∷ ops) st = AnswersAs (finds_dead st) op × Answered ops (state_after op st)

-- a flush by core 0, as far as node 2 is concerned: it is not found dead
abbrev pub flush_with : List Operation → List Operation
flush_with ops = Fold 0 ∷ Judge 0 2 false ∷ Close 0 ∷ ops

-- node 2 is given one holder, loses it, and the core flushes
abbrev pub loss : List Operation
loss = Give 2 1 ∷ Down 0 2 ∷ flush_with []

-- it is revived, and the core flushes twice
abbrev pub revival : List Operation
revival = Revive 0 2 ∷ flush_with (flush_with [])

-- with one core from epoch 0 on: it went on the list, and is off the list and in use in the end, in this epoch
pub record Revived (epoch : ℕ) : Type 0 where
  pub answers : Answered loss (started 1 0) × Answered revival (after_all loss (started 1 0))
  pub listed : on_list_of 0 (record_at (after_all loss (started 1 0)) 2) ≡ true
  pub off : (record_at (after_all revival (after_all loss (started 1 0))) 2).list ≡ None
  pub inuse : holders_in (after_all revival (after_all loss (started 1 0))) 2 ≡ Some 1
  pub ends : (after_all revival (after_all loss (started 1 0))).clock.epoch ≡ epoch
