-- The sixteen bytes that answer a record.
use Rattle.std.specs.Prelude.{ℕ, List, ◌∷◌, ◌++◌, None, Ok, Err, Option, Result, unwrap_or}
use Rattle.model.specs.declared.fault.Fault.{Fault}
use Rattle.model.specs.Faults.{number_of, part_of, part_number, place_of}
use Rattle.script.specs.declared.answer.Reply.{Reply}
use Rattle.script.specs.declared.answer.Told.{Told}
use Rattle.script.specs.Numbers.{word_bytes}

-- no place is the largest number of four bytes
abbrev pub place_number : Option ℕ → ℕ
place_number place = unwrap_or place 4294967295

-- fault number, part and place are 0, 0 and none without a fault; the answer is 0 with one
abbrev pub told_of : Result ℕ Fault → Told
told_of (Ok n) = record { number = 0; part = 0; place = place_number None; answer = n }
told_of (Err f) =
    record { number = number_of f; part = part_number (part_of f); place = place_number (place_of f); answer = 0 }

-- kind, core, fault number, part, then place, answer and epoch of four bytes each
unfoldable pub reply_bytes : Reply → List ℕ
reply_bytes r =
    r.kind ∷ r.core ∷ (told_of r.outcome).number ∷ (told_of r.outcome).part
    ∷ word_bytes (told_of r.outcome).place ++ word_bytes (told_of r.outcome).answer ++ word_bytes r.epoch
