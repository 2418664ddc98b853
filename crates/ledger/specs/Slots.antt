-- The delta slots, and what they change of an object's holders.
use Rattle.std.specs.Prelude.{◌≡◌, ℕ, ◌+◌, ◌*◌, ◌%◌, ◌≤◌, true, cond, List, [], ◌∷◌, ℤ, pos, negsuc, ◌+ℤ◌, is_some, Some, None, Option, ◌==◌, slice_index_or, unsigned_abs}
use Rattle.ledger.specs.declared.slot.Delta.{Delta}
use Rattle.ledger.specs.declared.slot.Move.{Move}
use Rattle.ledger.specs.declared.slot.Move.TheVariants.{Gain, Loss}

-- where slot i of core c lies
abbrev pub place : ℕ → ℕ → ℕ
place c i = 16 * c + i

-- the object that a slot has; 0 is none
abbrev pub object_in : Option Delta → ℕ
object_in None = 0
object_in (Some d) = d.object

-- the change that a slot has
abbrev pub change_in : Option Delta → ℤ
change_in None = pos 0
change_in (Some d) = d.change

-- one holder more or fewer, as a number
abbrev pub by_of : Move → ℤ
by_of Gain = pos 1
by_of Loss = negsuc 0

-- no change lies beyond 100
abbrev pub Within : List (Option Delta) → Type 0
Within rows = (k : ℕ) → unsigned_abs (change_in (slice_index_or rows k None)) ≤ 100

-- a slot in use names an object
abbrev pub Named : List (Option Delta) → Type 0
Named rows = (k : ℕ) → is_some (slice_index_or rows k None) ≡ true → 1 ≤ object_in (slice_index_or rows k None)

-- which has a record
abbrev pub Known : List (Option Delta) → Type 0
Known rows = (k : ℕ) → object_in (slice_index_or rows k None) ≤ 1024

-- and lies in its own slot
abbrev pub Homed : List (Option Delta) → Type 0
Homed rows = (k : ℕ) → 1 ≤ object_in (slice_index_or rows k None) → object_in (slice_index_or rows k None) % 16 ≡ k % 16

-- what slot i may have
pub record Fits (i : ℕ) (d : Delta) : Type 0 where
  pub within : unsigned_abs d.change ≤ 100
  pub named : 1 ≤ d.object
  pub known : d.object ≤ 1024
  pub homed : d.object % 16 ≡ i % 16

-- what a slot changes of object o
abbrev pub part : ℕ → Option Delta → ℤ
part o s = cond (object_in s == o) (change_in s) (pos 0)

-- the sum of f over a list
unfoldable pub sum_of : {X : Type 0} → (X → ℤ) → List X → ℤ
sum_of f [] = pos 0
sum_of f (x ∷ xs) = f x +ℤ sum_of f xs
