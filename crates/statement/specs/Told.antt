-- What is told of a record and of its reply.
use Rattle.std.specs.Prelude.{ℕ, cond, List, length, Ok, Err, Result, nat_lt}
use Rattle.model.specs.declared.call.Call.{Call}
use Rattle.model.specs.declared.call.Call.TheVariants.{Look}
use Rattle.model.specs.declared.fault.Fault.{Fault}
use Rattle.script.specs.declared.answer.Reply.{Reply}
use Rattle.script.specs.Records.{decoded}
use Rattle.statement.specs.declared.asked.Asked.{Asked}
use Rattle.statement.specs.declared.asked.Asked.TheVariants as asks
use Rattle.statement.specs.declared.outcome.Outcome.{Outcome}
use Rattle.statement.specs.declared.outcome.Outcome.TheVariants.{Answer, Seen, Refused}
use Rattle.statement.specs.Sights.{sight_of}

-- a call, or the kind and core that the reply repeats
abbrev pub asked_if_read : Result Call Fault → Reply → Asked
asked_if_read (Ok call) reply = asks.Call call
asked_if_read (Err e) reply = asks.Unclear reply.kind reply.core

-- fewer than 16 bytes are a rest, others are a record
abbrev pub asked_by : List ℕ → Reply → Asked
asked_by bytes reply = cond (nat_lt (length bytes) 16) (asks.Rest (length bytes)) (asked_if_read (decoded bytes) reply)

-- what an accepted call is told to have answered; a look tells what is seen
abbrev pub answer_of : Call → ℕ → Outcome
answer_of (Look page) n = Seen n (sight_of n)
answer_of _ n = Answer n

-- what is told of an outcome
abbrev pub outcome_of : Asked → Result ℕ Fault → Outcome
outcome_of (asks.Call call) (Ok n) = answer_of call n
outcome_of _ (Ok n) = Answer n
outcome_of _ (Err e) = Refused e
