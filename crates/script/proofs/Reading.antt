-- What `read` finds in the parts of a record is what the whole record says.
use Rattle.std.proofs.Common.{◌≡◌, ℕ, ◌-◌, List, length, take, drop, arith, length-drop, get_or-drop, take_all}
use Rattle.script.specs.Records.{words_at}

-- the numbers past the first four bytes, as the code has these
pub words_past : (xs : List ℕ) → words_at (take (length xs - 4) (drop 4 xs)) 0 ≡ words_at xs 4
words_past xs = rw (take_all (length xs - 4) (drop 4 xs) (simp length-drop (omega arith))) (simp get_or-drop)
