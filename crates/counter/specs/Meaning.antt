-- What a counter means, and what each operation does to the meaning.
use Rattle.std.specs.Prelude.{◌≡◌, ℕ, ◌+◌, ◌-◌, Bool, true, false, cond, Some, None, Option, ◌==◌}
use Rattle.model.specs.CoreSets.{all_below}

-- what a counter means
pub record Meaning : Type 0 where
  -- the cores in service are the numbers below this
  pub cores : ℕ
  pub epoch : ℕ
  -- an object is free, or in use with a number of holders
  pub holders : ℕ → Option ℕ
  -- the cores that have folded, and that have closed, in the epoch
  pub folded : ℕ → Bool
  pub closed : ℕ → Bool

-- how many hold an object; nobody holds a free one
abbrev pub how_many : Option ℕ → ℕ
how_many (Some n) = n
how_many None = 0

-- the function f, but x at k
abbrev pub put_at : {X : Type 0} → ℕ → X → (ℕ → X) → ℕ → X
put_at k x f q = cond (q == k) x (f q)

-- the meaning with other holders
abbrev pub with_holders : (ℕ → Option ℕ) → Meaning → Meaning
with_holders f m = record { cores = m.cores; epoch = m.epoch; holders = f; folded = m.folded; closed = m.closed }

-- start: all objects are free, and no core has folded or closed
abbrev pub begun : ℕ → ℕ → Meaning
begun cores epoch = record { cores = cores; epoch = epoch; holders = λ _. None; folded = λ _. false; closed = λ _. false }

-- give: the object is in use with n holders
abbrev pub given : ℕ → ℕ → Meaning → Meaning
given o n m = with_holders (put_at o (Some n) m.holders) m

-- up and revive: one holder more
abbrev pub raised : ℕ → Meaning → Meaning
raised o m = with_holders (put_at o (Some (how_many (m.holders o) + 1)) m.holders) m

-- down: one holder fewer
abbrev pub lowered : ℕ → Meaning → Meaning
lowered o m = with_holders (put_at o (Some (how_many (m.holders o) - 1)) m.holders) m

-- a dead object: it is free
abbrev pub freed : ℕ → Meaning → Meaning
freed o m = with_holders (put_at o None m.holders) m

-- fold: the core has folded
abbrev pub has_folded : ℕ → Meaning → Meaning
has_folded c m = record { cores = m.cores; epoch = m.epoch; holders = m.holders; folded = put_at c true m.folded; closed = m.closed }

-- the core has closed
abbrev pub has_closed : ℕ → Meaning → Meaning
has_closed c m = record { cores = m.cores; epoch = m.epoch; holders = m.holders; folded = m.folded; closed = put_at c true m.closed }

-- the next epoch, in which no core has folded or closed
abbrev pub next_epoch : Meaning → Meaning
next_epoch m = record { cores = m.cores; epoch = m.epoch + 1; holders = m.holders; folded = λ _. false; closed = λ _. false }

-- close: the core has closed, and when all cores in service have, the epoch grows
abbrev pub closes : ℕ → Meaning → Meaning
closes c m = cond (all_below m.cores (has_closed c m).closed) (next_epoch m) (has_closed c m)

-- judge: no, and the meaning stays; or dead, only of an object in use without holders, which becomes free
abbrev pub Judged : Meaning → ℕ → Bool → Meaning → Type 0
Judged m o false n = n ≡ m
Judged m o true n = (m.holders o ≡ Some 0) × (n ≡ freed o m)

-- an operation, with the core, the object and the number of holders that it names; a judgement with its answer
pub data Operation : Type 0 where
  Give : ℕ → ℕ → Operation
  Up : ℕ → ℕ → Operation
  Down : ℕ → ℕ → Operation
  Revive : ℕ → ℕ → Operation
  Fold : ℕ → Operation
  Judge : ℕ → ℕ → Bool → Operation
  Close : ℕ → Operation
