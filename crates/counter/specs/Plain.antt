-- What the plain count keeps, and what exactly each operation makes of it.
use Rattle.std.specs.Prelude.{◌≡◌, ℕ, ◌+◌, ◌-◌, ◌<◌, ◌≤◌, Bool, false, cond, List, replicate, Some, None, Option, ◌==◌, slice_index_or, slice_set}
use Rattle.counter.specs.declared.epoch.Clock.{Clock}
use Rattle.counter.specs.Meaning.{Meaning, how_many, Operation}
use Rattle.counter.specs.Meaning.Operation.{Give, Up, Down, Revive, Fold, Judge, Close}
use Rattle.counter.specs.Clocks.{clock_meaning, clock_started, clock_folds, clock_closes}
use Rattle.counter.specs.Operations.{Object, Steps}
use Rattle.counter.specs.Timeline.{Timeline}

-- the number of holders of each object in use, and the epoch with its marks
pub record Table : Type 0 where
  pub counts : List (Option ℕ)
  pub clock : Clock

-- the count of an object
abbrev pub count_at : Table → ℕ → Option ℕ
count_at t o = slice_index_or t.counts o None

-- what a table means
abbrev pub table_meaning : Table → Meaning
table_meaning t = clock_meaning t.clock (count_at t)

-- every object free, no mark set
abbrev pub blank_table : ℕ → ℕ → Table
blank_table cores epoch = record { counts = replicate 1025 None; clock = clock_started cores epoch }

-- in use, and nobody holds it
abbrev pub unheld : Option ℕ → Bool
unheld None = false
unheld (Some n) = n == 0

-- the table with another count of object o
abbrev pub put_count : ℕ → Option ℕ → Table → Table
put_count o x t = record { counts = slice_set t.counts o x; clock = t.clock }

-- the object has one holder more
abbrev pub one_more : ℕ → Table → Table
one_more o t = put_count o (Some (how_many (count_at t o) + 1)) t

-- the table with another clock
abbrev pub at_clock : Clock → Table → Table
at_clock k t = record { counts = t.counts; clock = k }

-- the table after one operation
abbrev pub table_after : Operation → Table → Table
table_after (Give o n) t = put_count o (Some n) t
table_after (Up c o) t = one_more o t
table_after (Down c o) t = put_count o (Some (how_many (count_at t o) - 1)) t
table_after (Revive c o) t = one_more o t
table_after (Fold c) t = at_clock (clock_folds c t.clock) t
table_after (Judge c o dead) t = cond dead (put_count o None t) t
table_after (Close c) t = at_clock (clock_closes c t.clock) t

-- dead is said exactly of an object in use without holders
abbrev pub finds_unheld : Table → ℕ → ℕ → Bool
finds_unheld t c o = unheld (count_at t o)

-- one operation, exactly
abbrev pub TableSteps : Table → Operation → Table → Type 0
TableSteps t op u = Steps table_after finds_unheld t op u

-- an object without holders lost the last one in this epoch, or in the one before and no core has judged it since
pub record SoonJudged (t : Table) (p : Timeline) (o : ℕ) : Type 0 where
  pub soon : t.clock.epoch ≤ p.since o + 1
  pub unseen : p.since o < t.clock.epoch → (c : ℕ) → p.judged c o ≡ false

-- so of every object without holders
abbrev pub TableTimely : ℕ → Table → Timeline → Type 0
TableTimely capacity t p = (o : ℕ) → Object capacity o → count_at t o ≡ Some 0 → SoonJudged t p o
