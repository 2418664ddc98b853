-- What a run of operations tells of time: when each object lost its last holder, and who has judged it since.
use Rattle.std.specs.Prelude.{◌≡◌, ℕ, ◌+◌, ◌≤◌, Bool, true, false, cond, Some}
use Rattle.model.specs.CoreSets.{all_below}
use Rattle.counter.specs.Meaning.{Meaning, put_at, has_closed, Operation}
use Rattle.counter.specs.Meaning.Operation.{Give, Up, Down, Revive, Fold, Judge, Close}
use Rattle.counter.specs.Operations.{Object}

pub record Timeline : Type 0 where
  -- the epoch in which an object last lost a holder: where it has none, its last one
  pub since : ℕ → ℕ
  -- whether an object was judged for a core in this epoch
  pub judged : ℕ → ℕ → Bool

-- the object lost a holder in the epoch
abbrev pub note_loss : ℕ → ℕ → Timeline → Timeline
note_loss o epoch p = record { since = put_at o epoch p.since; judged = p.judged }

-- the object was judged for the core
abbrev pub note_judgement : ℕ → ℕ → Timeline → Timeline
note_judgement c o p = record { since = p.since; judged = put_at c (put_at o true (p.judged c)) p.judged }

-- a new epoch, in which nothing was judged yet
abbrev pub note_epoch : Timeline → Timeline
note_epoch p = record { since = p.since; judged = λ _ _. false }

-- what an operation, which came at the meaning m, adds
abbrev pub noted : Operation → Meaning → Timeline → Timeline
noted (Give o n) m p = p
noted (Up c o) m p = p
noted (Down c o) m p = note_loss o m.epoch p
noted (Revive c o) m p = p
noted (Fold c) m p = p
noted (Judge c o dead) m p = note_judgement c o p
noted (Close c) m p = cond (all_below m.cores (has_closed c m).closed) (note_epoch p) p

-- every object of the kind was judged for the core in this epoch
abbrev pub Swept : ℕ → ℕ → Timeline → Type 0
Swept capacity c p = (o : ℕ) → Object capacity o → p.judged c o ≡ true

-- a core closes only once every object was judged for it
abbrev pub InTurn : ℕ → Operation → Timeline → Type 0
InTurn capacity (Give o n) p = Unit {0}
InTurn capacity (Up c o) p = Unit {0}
InTurn capacity (Down c o) p = Unit {0}
InTurn capacity (Revive c o) p = Unit {0}
InTurn capacity (Fold c) p = Unit {0}
InTurn capacity (Judge c o dead) p = Unit {0}
InTurn capacity (Close c) p = Swept capacity c p

-- The bound: an object in use that lost its last holder in epoch e is so at most until e + 5.
abbrev pub Prompt : ℕ → Meaning → Timeline → Type 0
Prompt capacity m p = (o : ℕ) → Object capacity o → m.holders o ≡ Some 0 → m.epoch ≤ p.since o + 5
