-- What a script of records does to a memory, and what is answered.
use Rattle.std.specs.Prelude.{ℕ, ◌/◌, ◌%◌, cond, List, [], ◌∷◌, ◌++◌, length, Ok, Err, Result, ◌==◌, slice_index, fold}
use Rattle.std.specs.List.{scan, flat_map}
use Rattle.std.specs.Simd.{first_chunks}
use Rattle.model.specs.declared.call.Call.{Call}
use Rattle.model.specs.declared.call.Call.TheVariants.{SetUp, Map, Touch, Share, Begin, Acknowledge, Finish, Flush, Look}
use Rattle.model.specs.declared.fault.SpaceFault.{SpaceFault}
use Rattle.model.specs.declared.fault.Fault.{Fault}
use Rattle.model.specs.declared.fault.Fault.TheVariants.{Space, BadRecord}
use Rattle.space.specs.States.{State}
use Rattle.space.specs.Calls.{set_up_answer, set_up_after, map_answer, map_after, look_answer_of}
use Rattle.script.specs.declared.answer.Reply.{Reply}
use Rattle.script.specs.Records.{decoded}
use Rattle.script.specs.Replies.{reply_bytes}

-- the space's fault is kept
abbrev pub of_space : Result ℕ SpaceFault → Result ℕ Fault
of_space (Ok n) = Ok n
of_space (Err e) = Err (Space e)

-- what a call is answered; those that are not built yet are bad records
abbrev pub call_answer : Call → State → Result ℕ Fault
call_answer (SetUp cores frames nodes epoch) st = of_space (set_up_answer cores frames nodes)
call_answer (Map core label first count) st = of_space (map_answer core label first count st)
call_answer (Touch core page) st = Err BadRecord
call_answer (Share core source target) st = Err BadRecord
call_answer (Begin core first count) st = Err BadRecord
call_answer (Acknowledge core owner) st = Err BadRecord
call_answer (Finish core) st = Err BadRecord
call_answer (Flush core) st = Err BadRecord
call_answer (Look page) st = of_space (look_answer_of page st)

-- the state that a call leaves
abbrev pub call_after : Call → State → State
call_after (SetUp cores frames nodes epoch) st = set_up_after cores frames nodes epoch st
call_after (Map core label first count) st = map_after core label first count st
call_after (Touch core page) st = st
call_after (Share core source target) st = st
call_after (Begin core first count) st = st
call_after (Acknowledge core owner) st = st
call_after (Finish core) st = st
call_after (Flush core) st = st
call_after (Look page) st = st

-- the same of what was read of a record
abbrev pub read_answer : Result Call Fault → State → Result ℕ Fault
read_answer (Ok call) st = call_answer call st
read_answer (Err e) st = Err e

-- the state that what was read leaves
abbrev pub read_after : Result Call Fault → State → State
read_after (Ok call) st = call_after call st
read_after (Err e) st = st

-- what a record is answered
unfoldable pub record_outcome : State → List ℕ → Result ℕ Fault
record_outcome st bytes = read_answer (decoded bytes) st

-- the state that a record leaves
unfoldable pub record_after : State → List ℕ → State
record_after st bytes = read_after (decoded bytes) st

-- the reply to a record repeats its kind and core bytes, and tells the epoch after it
abbrev pub reply_to : State → List ℕ → Reply
reply_to st bytes = record { kind = slice_index bytes 0; core = slice_index bytes 1; outcome = record_outcome st bytes; epoch = (record_after st bytes).epoch }

-- the reply to a rest of fewer than 16 bytes
abbrev pub rest_reply : State → Reply
rest_reply st = record { kind = 255; core = 0; outcome = Err BadRecord; epoch = st.epoch }

-- the whole records of a script
abbrev pub whole_records : List ℕ → List (List ℕ)
whole_records script = first_chunks 16 (length script / 16) script

-- the state after records
abbrev pub state_after : List (List ℕ) → State → State
state_after records st = fold record_after st records

-- the replies to records, each in the state that those before it leave
abbrev pub replies_to : List (List ℕ) → State → List Reply
replies_to records st = scan record_after reply_to st records

-- the state after a script
abbrev pub state_at_end : List ℕ → State → State
state_at_end script st = state_after (whole_records script) st

-- one more reply for a rest of 1 to 15 bytes
abbrev pub rest_replies : List ℕ → State → List Reply
rest_replies script st = cond (length script % 16 == 0) [] (rest_reply (state_at_end script st) ∷ [])

-- all replies to a script
abbrev pub replies : List ℕ → State → List Reply
replies script st = replies_to (whole_records script) st ++ rest_replies script st

-- their bytes
abbrev pub all_bytes : List Reply → List ℕ
all_bytes rs = flat_map reply_bytes rs

-- the bytes that a script is answered
abbrev pub answer_bytes : List ℕ → State → List ℕ
answer_bytes script st = all_bytes (replies script st)
