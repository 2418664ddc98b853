-- The record of a call is sixteen bytes, and asks for that call.
use Rattle.std.proofs.Common.{ℕ, zero, suc, List, [], ◌∷◌, ◌++◌, get_or, refl, arith, lit<}
use Rattle.std.proofs.lemmas.Nat.{from_le_bytes-to_le_bytes_4}
use Rattle.model.specs.declared.call.Call.TheVariants.{SetUp, Map, Touch, Share, Begin, Acknowledge, Finish, Flush, Look}
use Rattle.script.specs.Numbers.{word_bytes}
use Rattle.script.specs.RecordLaws.{laid_out, Byte, RecordBytes, RoundTrip}

-- a list of bytes, one more at a time
pub record Bytes (xs : List ℕ) : Type 0 where
  pub each : (i : ℕ) → Byte (get_or xs i 0)

pub byte_nil : Bytes []
byte_nil = record { each = λ i. lit< tt }

byte_at : (x : ℕ) (xs : List ℕ) → Byte x → Bytes xs → (i : ℕ) → Byte (get_or (x ∷ xs) i 0)
byte_at x xs h rest zero = h
byte_at x xs h rest (suc i) = rest.each i

pub byte_cons : {x : ℕ} {xs : List ℕ} → Byte x → Bytes xs → Bytes (x ∷ xs)
byte_cons {x} {xs} h rest = record { each = byte_at x xs h rest }

byte_word : (n : ℕ) {xs : List ℕ} → Bytes xs → Bytes (word_bytes n ++ xs)
byte_word n rest = byte_cons (omega arith) (byte_cons (omega arith) (byte_cons (omega arith) (byte_cons (omega arith) rest)))

byte_layout : (kind core label a b c : ℕ) → Byte kind → Byte core → Byte label → (i : ℕ) → Byte (get_or (laid_out kind core label a b c) i 0)
byte_layout kind core label a b c hk hc hl =
    let numbers = byte_word a (byte_word b (byte_word c byte_nil)) in
    (byte_cons hk (byte_cons hc (byte_cons hl (byte_cons (lit< tt) numbers)))).each

pub record_bytes_lem : RecordBytes
record_bytes_lem (SetUp cores frames nodes epoch) h = (refl, byte_layout 0 cores 0 frames nodes epoch (lit< tt) h.0 (lit< tt))
record_bytes_lem (Map core label first count) h = (refl, byte_layout 1 core label first count 0 (lit< tt) h.0 h.1)
record_bytes_lem (Touch core page) h = (refl, byte_layout 2 core 0 page 0 0 (lit< tt) h.0 (lit< tt))
record_bytes_lem (Share core source target) h = (refl, byte_layout 3 core 0 source target 0 (lit< tt) h.0 (lit< tt))
record_bytes_lem (Begin core first count) h = (refl, byte_layout 4 core 0 first count 0 (lit< tt) h.0 (lit< tt))
record_bytes_lem (Acknowledge core owner) h = (refl, byte_layout 5 core 0 owner 0 0 (lit< tt) h.0 (lit< tt))
record_bytes_lem (Finish core) h = (refl, byte_layout 6 core 0 0 0 0 (lit< tt) h (lit< tt))
record_bytes_lem (Flush core) h = (refl, byte_layout 7 core 0 0 0 0 (lit< tt) h (lit< tt))
record_bytes_lem (Look page) h = (refl, byte_layout 8 0 0 page 0 0 (lit< tt) (lit< tt) (lit< tt))

pub round_trip : RoundTrip
round_trip (SetUp cores frames nodes epoch) h = simp (from_le_bytes-to_le_bytes_4 frames h.1, from_le_bytes-to_le_bytes_4 nodes h.2, from_le_bytes-to_le_bytes_4 epoch h.3)
round_trip (Map core label first count) h = simp (from_le_bytes-to_le_bytes_4 first h.2, from_le_bytes-to_le_bytes_4 count h.3)
round_trip (Touch core page) h = simp (from_le_bytes-to_le_bytes_4 page h.1)
round_trip (Share core source target) h = simp (from_le_bytes-to_le_bytes_4 source h.1, from_le_bytes-to_le_bytes_4 target h.2)
round_trip (Begin core first count) h = simp (from_le_bytes-to_le_bytes_4 first h.1, from_le_bytes-to_le_bytes_4 count h.2)
round_trip (Acknowledge core owner) h = simp (from_le_bytes-to_le_bytes_4 owner h.1)
round_trip (Finish core) h = refl
round_trip (Flush core) h = refl
round_trip (Look page) h = simp (from_le_bytes-to_le_bytes_4 page h)
