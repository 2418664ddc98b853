-- The operations of a counter: where each may come, and what it does to the meaning.
use Rattle.std.specs.Prelude.{◌≡◌, ℕ, ◌<◌, ◌≤◌, Bool, true, is_some, None}
use Rattle.counter.specs.Meaning.{Meaning, how_many, given, raised, lowered, has_folded, closes, Judged, Operation}
use Rattle.counter.specs.Meaning.Operation.{Give, Up, Down, Revive, Fold, Judge, Close}

-- objects are numbered from 1
abbrev pub Object : ℕ → ℕ → Type 0
Object capacity o = (1 ≤ o) × (o ≤ capacity)

-- an operation comes only where its conditions hold, for a kind with so many objects that revives or not
abbrev pub Allowed : ℕ → Bool → Meaning → Operation → Type 0
Allowed capacity revives m (Give o n) = Object capacity o × (m.holders o ≡ None) × (1 ≤ n) × (n ≤ 64)
Allowed capacity revives m (Up c o) = Object capacity o × (c < m.cores) × (1 ≤ how_many (m.holders o)) × (how_many (m.holders o) < 65536)
Allowed capacity revives m (Down c o) = Object capacity o × (c < m.cores) × (1 ≤ how_many (m.holders o))
Allowed capacity revives m (Revive c o) = Object capacity o × (c < m.cores) × (is_some (m.holders o) ≡ true) × (how_many (m.holders o) < 65536) × (revives ≡ true)
Allowed capacity revives m (Fold c) = c < m.cores
Allowed capacity revives m (Judge c o dead) = Object capacity o × (c < m.cores)
Allowed capacity revives m (Close c) = (c < m.cores) × (m.folded c ≡ true) × (m.epoch < 4294967295)

-- what an operation does to the meaning
abbrev pub Does : Operation → Meaning → Meaning → Type 0
Does (Give o n) m k = k ≡ given o n m
Does (Up c o) m k = k ≡ raised o m
Does (Down c o) m k = k ≡ lowered o m
Does (Revive c o) m k = k ≡ raised o m
Does (Fold c) m k = k ≡ has_folded c m
Does (Judge c o dead) m k = Judged m o dead k
Does (Close c) m k = k ≡ closes c m

-- a judgement answers what the tables find of the object for the core; nothing else answers
abbrev pub AnswersAs : (ℕ → ℕ → Bool) → Operation → Type 0
AnswersAs finds (Give o n) = Unit {0}
AnswersAs finds (Up c o) = Unit {0}
AnswersAs finds (Down c o) = Unit {0}
AnswersAs finds (Revive c o) = Unit {0}
AnswersAs finds (Fold c) = Unit {0}
AnswersAs finds (Judge c o dead) = dead ≡ finds c o
AnswersAs finds (Close c) = Unit {0}

-- one operation, exactly: what it makes of a counter's tables, and its answer
pub record Steps {S : Type 0} (after : Operation → S → S) (finds : S → ℕ → ℕ → Bool) (s : S) (op : Operation) (t : S) : Type 0 where
  pub tables : t ≡ after op s
  pub answer : AnswersAs (finds s) op
