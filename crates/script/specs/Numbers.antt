-- Numbers of four bytes, the lowest byte first.
use Rattle.std.specs.Prelude.{ℕ, List, drop}
use Rattle.std.specs.Int.{w32, from_le_bytes, to_le_bytes}

-- the number that stands at place i
abbrev pub word : List ℕ → ℕ → ℕ
word xs i = from_le_bytes w32 (drop i xs)

-- the bytes of a number
abbrev pub word_bytes : ℕ → List ℕ
word_bytes n = to_le_bytes w32 n
