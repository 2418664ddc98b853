-- Which call sixteen bytes ask for.
use Rattle.std.specs.Prelude.{ℕ, ◌+◌, Bool, cond, ◌&&◌, ◌||◌, List, length, Some, None, Ok, Err, Option, Result, ◌==◌, slice_index}
use Rattle.model.specs.declared.call.Call.{Call}
use Rattle.model.specs.declared.call.Call.TheVariants as calls
use Rattle.model.specs.declared.fault.Fault.{Fault}
use Rattle.model.specs.declared.fault.Fault.TheVariants.{BadRecord}
use Rattle.script.specs.declared.kind.Kind.{Kind}
use Rattle.script.specs.declared.kind.Kind.TheVariants.{SetUp, Map, Touch, Share, Begin, Acknowledge, Finish, Flush, Look}
use Rattle.script.specs.declared.fields.Fields.{Fields}
use Rattle.script.specs.declared.record.Words.{Words}
use Rattle.script.specs.Kinds.{kind_of}
use Rattle.script.specs.FieldUse.{used_by}
use Rattle.script.specs.Numbers.{word}

-- the numbers that stand from place i on
abbrev pub words_at : List ℕ → ℕ → Words
words_at xs i = record { a = word xs i; b = word xs (i + 4); c = word xs (i + 8) }

-- a field that is not used is 0
abbrev pub used_or_zero : Bool → ℕ → Bool
used_or_zero used n = used || n == 0

-- so it is with each of the three numbers
abbrev pub words_zero : Fields → Words → Bool
words_zero f w = used_or_zero f.a w.a && used_or_zero f.b w.b && used_or_zero f.c w.c

-- every field that the kind does not use is 0, and so is the byte between label and numbers
abbrev pub unused_zero : Fields → ℕ → ℕ → ℕ → Words → Bool
unused_zero f core label gap w =
    used_or_zero f.core core && used_or_zero f.label label && gap == 0 && words_zero f w

-- the call of a kind, with its numbers in order
abbrev pub call_of : Kind → ℕ → ℕ → Words → Call
call_of SetUp core label w = calls.SetUp core w.a w.b w.c
call_of Map core label w = calls.Map core label w.a w.b
call_of Touch core label w = calls.Touch core w.a
call_of Share core label w = calls.Share core w.a w.b
call_of Begin core label w = calls.Begin core w.a w.b
call_of Acknowledge core label w = calls.Acknowledge core w.a
call_of Finish core label w = calls.Finish core
call_of Flush core label w = calls.Flush core
call_of Look core label w = calls.Look w.a

-- what the fields ask for, under the kind that was found
abbrev pub asked : Option Kind → ℕ → ℕ → ℕ → Words → Result Call Fault
asked None core label gap w = Err BadRecord
asked (Some k) core label gap w = cond (unused_zero (used_by k) core label gap w) (Ok (call_of k core label w)) (Err BadRecord)

-- what any bytes ask for
abbrev pub decoded : List ℕ → Result Call Fault
decoded xs =
    cond (length xs == 16)
    (asked (kind_of (slice_index xs 0)) (slice_index xs 1) (slice_index xs 2) (slice_index xs 3) (words_at xs 4))
    (Err BadRecord)
