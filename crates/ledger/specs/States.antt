-- The tables of the delta cache as a whole, and what exactly each operation makes of them.
use Rattle.std.specs.Prelude.{◌≡◌, ℕ, zero, suc, ◌%◌, ◌≤◌, Bool, true, false, cond, not, ◌||◌, List, length, replicate, ℤ, pos, negsuc, ◌+ℤ◌, is_some, Some, None, Option, ◌==◌, int_le, slice_index_or, slice_set, unsigned_abs}
use Rattle.counter.specs.declared.epoch.Clock.{Clock}
use Rattle.counter.specs.Meaning.{Operation}
use Rattle.counter.specs.Meaning.Operation.{Give, Up, Down, Revive, Fold, Judge, Close}
use Rattle.counter.specs.Operations.{Steps}
use Rattle.counter.specs.Clocks.{clock_started, clock_folds, clock_closes}
use Rattle.ledger.specs.declared.slot.Delta.{Delta}
use Rattle.ledger.specs.declared.record.Record.{Record}
use Rattle.ledger.specs.declared.slot.Move.{Move}
use Rattle.ledger.specs.declared.slot.Move.TheVariants.{Gain, Loss}
use Rattle.ledger.specs.Slots.{place, object_in, change_in, by_of, part, sum_of}
use Rattle.ledger.specs.Records.{blank, given_to, spared, after_fold, after_judge, verdict}

-- a record for each object, sixteen slots for each core, and the epoch with its marks
pub record State : Type 0 where
  pub records : List Record
  pub rows : List (Option Delta)
  pub clock : Clock

abbrev pub record_at : State → ℕ → Record
record_at st o = slice_index_or st.records o blank

abbrev pub slot_at : State → ℕ → Option Delta
slot_at st k = slice_index_or st.rows k None

-- the number of holders: the shared count and the changes in all slots
abbrev pub total : State → ℕ → ℤ
total st o = (record_at st o).shared +ℤ sum_of (part o) st.rows

abbrev pub put_record : ℕ → Record → State → State
put_record o r st = record { records = slice_set st.records o r; rows = st.rows; clock = st.clock }

abbrev pub put_slot : ℕ → Option Delta → State → State
put_slot k s st = record { records = st.records; rows = slice_set st.rows k s; clock = st.clock }

abbrev pub put_clock : Clock → State → State
put_clock clock st = record { records = st.records; rows = st.rows; clock = clock }

-- every record blank, every slot empty
abbrev pub started : ℕ → ℕ → State
started cores epoch = record { records = replicate 1025 blank; rows = replicate 256 None; clock = clock_started cores epoch }

-- what a slot has goes into the record of its object, and the slot is empty
abbrev pub reported : ℕ → ℕ → Option Delta → State → State
reported core k None st = st
reported core k (Some d) st =
    put_slot k None (put_record d.object (after_fold core st.clock.epoch d.change (record_at st d.object)) st)

-- slot i of a core is folded
unfoldable pub fold_slot : ℕ → ℕ → State → State
fold_slot core i st = reported core (place core i) (slot_at st (place core i)) st

-- the first n slots of a core are folded, in order
unfoldable pub fold_first : ℕ → ℕ → State → State
fold_first core zero st = st
fold_first core (suc n) st = fold_slot core n (fold_first core n st)

-- the slot of an object at a core
abbrev pub slot_of : ℕ → ℕ → ℕ
slot_of core o = place core (o % 16)

-- a change at +100 cannot gain, one at −100 cannot lose
abbrev pub at_limit : Move → ℤ → Bool
at_limit Gain z = int_le (pos 100) z
at_limit Loss z = int_le z (negsuc 99)

-- a slot that has another object, or this one at the limit
abbrev pub is_full : Move → ℕ → Option Delta → Bool
is_full way o None = false
is_full way o (Some d) = not (d.object == o) || at_limit way d.change

-- such a slot is folded first
unfoldable pub make_room : Move → ℕ → ℕ → State → State
make_room way core o st = cond (is_full way o (slot_at st (slot_of core o))) (fold_slot core (o % 16) st) st

-- the change moves by one, in a slot that is the object's or empty
abbrev pub moved : Move → ℕ → ℕ → State → State
moved way core o st = put_slot (slot_of core o) (Some (record { object = o; change = change_in (slot_at st (slot_of core o)) +ℤ by_of way })) st

-- up and down: make room, then move
abbrev pub shift : Move → ℕ → ℕ → State → State
shift way core o st = moved way core o (make_room way core o st)

abbrev pub spare_at : ℕ → State → State
spare_at o st = put_record o (spared (record_at st o)) st

abbrev pub judge_at : ℕ → ℕ → State → State
judge_at core o st = put_record o (after_judge core st.clock.epoch (record_at st o)) st

-- fold: all sixteen slots, and the core has folded
abbrev pub fold_all : ℕ → State → State
fold_all core st = put_clock (clock_folds core st.clock) (fold_first core 16 st)

-- the tables after one operation
abbrev pub state_after : Operation → State → State
state_after (Give o n) st = put_record o (given_to n (record_at st o)) st
state_after (Up c o) st = shift Gain c o st
state_after (Down c o) st = shift Loss c o st
state_after (Revive c o) st = shift Gain c o (spare_at o st)
state_after (Fold c) st = fold_all c st
state_after (Judge c o dead) st = judge_at c o st
state_after (Close c) st = put_clock (clock_closes c st.clock) st

-- dead is said exactly where the verdict is so
abbrev pub finds_dead : State → ℕ → ℕ → Bool
finds_dead st c o = verdict c st.clock.epoch (record_at st o)

-- one operation, exactly
abbrev pub StateSteps : State → Operation → State → Type 0
StateSteps st op u = Steps state_after finds_dead st op u

-- the tables have their sizes, each slot in use has an object with a record, and no count is too large to be changed
pub record Ready (st : State) : Type 0 where
  pub room : length st.records ≡ 1025
  pub wide : length st.rows ≡ 256
  pub within : (k : ℕ) → unsigned_abs (change_in (slot_at st k)) ≤ 100
  pub named : (k : ℕ) → is_some (slot_at st k) ≡ true → 1 ≤ object_in (slot_at st k)
  pub known : (k : ℕ) → object_in (slot_at st k) ≤ 1024
  pub few : (o : ℕ) → unsigned_abs (total st o) ≤ 65536
  pub cores : st.clock.cores ≤ 16
