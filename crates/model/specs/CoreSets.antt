-- Sets of cores as numbers, of any width.
use Rattle.std.specs.Prelude.{◌≡◌, ℕ, zero, suc, ◌/◌, ◌%◌, ◌^◌, ◌<◌, Bool, true, false, not, ◌&&◌, ◌||◌, ◌==◌}

-- core c is in the set exactly if bit c of its number is set
abbrev pub member : ℕ → ℕ → Bool
member bits c = bits / 2 ^ c % 2 == 1

-- the set has the cores of another, and core k beside them
abbrev pub Joined : ℕ → ℕ → ℕ → Type 0
Joined old k new = (c : ℕ) → member new c ≡ (member old c || c == k)

-- the set has the cores of another, but for core k
abbrev pub Left : ℕ → ℕ → ℕ → Type 0
Left old k new = (c : ℕ) → member new c ≡ (member old c && not (c == k))

-- the set has the cores of either of two
abbrev pub United : ℕ → ℕ → ℕ → Type 0
United one other new = (c : ℕ) → member new c ≡ (member one c || member other c)

-- no core is in the set
abbrev pub Nobody : ℕ → Type 0
Nobody bits = (c : ℕ) → member bits c ≡ false

-- whether f says yes to each number below n
unfoldable pub all_below : ℕ → (ℕ → Bool) → Bool
all_below zero f = true
all_below (suc n) f = all_below n f && f n

-- f says yes to each number below n
abbrev pub Each : ℕ → (ℕ → Bool) → Type 0
Each n f = (c : ℕ) → c < n → f c ≡ true
