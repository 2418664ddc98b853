-- What links the calls and the records that ask for them.
use Rattle.std.specs.Prelude.{◌≡◌, ℕ, ◌^◌, ◌<◌, List, ◌∷◌, ◌++◌, length, Ok, slice_index}
use Rattle.model.specs.declared.call.Call.{Call}
use Rattle.model.specs.declared.call.Call.TheVariants.{SetUp, Map, Touch, Share, Begin, Acknowledge, Finish, Flush, Look}
use Rattle.script.specs.Numbers.{word_bytes}
use Rattle.script.specs.Records.{decoded}

-- a record: kind, core, label, a zero byte, and three numbers
abbrev pub laid_out : ℕ → ℕ → ℕ → ℕ → ℕ → ℕ → List ℕ
laid_out kind core label a b c = kind ∷ core ∷ label ∷ 0 ∷ word_bytes a ++ word_bytes b ++ word_bytes c

-- the record that is written for a call
abbrev pub encoded : Call → List ℕ
encoded (SetUp cores frames nodes epoch) = laid_out 0 cores 0 frames nodes epoch
encoded (Map core label first count) = laid_out 1 core label first count 0
encoded (Touch core page) = laid_out 2 core 0 page 0 0
encoded (Share core source target) = laid_out 3 core 0 source target 0
encoded (Begin core first count) = laid_out 4 core 0 first count 0
encoded (Acknowledge core owner) = laid_out 5 core 0 owner 0 0
encoded (Finish core) = laid_out 6 core 0 0 0 0
encoded (Flush core) = laid_out 7 core 0 0 0 0
encoded (Look page) = laid_out 8 0 0 page 0 0

-- what fits a byte, and what fits four
abbrev pub Byte : ℕ → Type 0
Byte n = n < 256

-- a number of four bytes
abbrev pub Word : ℕ → Type 0
Word n = n < 2 ^ 32

-- each number of a call fits its field
abbrev pub FitsFields : Call → Type 0
FitsFields (SetUp cores frames nodes epoch) = Byte cores × Word frames × Word nodes × Word epoch
FitsFields (Map core label first count) = Byte core × Byte label × Word first × Word count
FitsFields (Touch core page) = Byte core × Word page
FitsFields (Share core source target) = Byte core × Word source × Word target
FitsFields (Begin core first count) = Byte core × Word first × Word count
FitsFields (Acknowledge core owner) = Byte core × Word owner
FitsFields (Finish core) = Byte core
FitsFields (Flush core) = Byte core
FitsFields (Look page) = Word page

-- the record of a call is sixteen bytes
abbrev pub RecordBytes : Type 0
RecordBytes = (call : Call) → FitsFields call → (length (encoded call) ≡ 16) × ((i : ℕ) → Byte (slice_index (encoded call) i))

-- the record of a call asks for that call
abbrev pub RoundTrip : Type 0
RoundTrip = (call : Call) → FitsFields call → decoded (encoded call) ≡ Ok call

-- no other bytes ask for the call
abbrev pub OneRecord : Type 0
OneRecord = (xs : List ℕ) (call : Call) → ((i : ℕ) → Byte (slice_index xs i)) → decoded xs ≡ Ok call → encoded call ≡ xs
