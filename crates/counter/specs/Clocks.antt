-- The epoch and its marks, and what they mean.
use Rattle.std.specs.Prelude.{ℕ, ◌+◌, ◌^◌, Bool, cond, Option, bit_or}
use Rattle.model.specs.CoreSets.{member, all_below}
use Rattle.counter.specs.declared.epoch.Clock.{Clock}
use Rattle.counter.specs.Meaning.{Meaning}

-- what a clock means, beside the holders of the objects
abbrev pub clock_meaning : Clock → (ℕ → Option ℕ) → Meaning
clock_meaning k f = record { cores = k.cores; epoch = k.epoch; holders = f; folded = member k.folded.bits; closed = member k.closed.bits }

-- no mark is set
abbrev pub clock_started : ℕ → ℕ → Clock
clock_started cores epoch = record { cores = cores; epoch = epoch; folded = record { bits = 0 }; closed = record { bits = 0 } }

-- the core has folded
abbrev pub clock_folds : ℕ → Clock → Clock
clock_folds c k = record { cores = k.cores; epoch = k.epoch; folded = record { bits = bit_or k.folded.bits (2 ^ c) }; closed = k.closed }

-- the core has closed
abbrev pub clock_marked : ℕ → Clock → Clock
clock_marked c k = record { cores = k.cores; epoch = k.epoch; folded = k.folded; closed = record { bits = bit_or k.closed.bits (2 ^ c) } }

-- the next epoch
abbrev pub clock_turned : Clock → Clock
clock_turned k = clock_started k.cores (k.epoch + 1)

-- whether the core is the last one to close
abbrev pub last_to_close : ℕ → Clock → Bool
last_to_close c k = all_below k.cores (member (clock_marked c k).closed.bits)

-- the core has closed, and with the last core in service the epoch grows
abbrev pub clock_closes : ℕ → Clock → Clock
clock_closes c k = cond (last_to_close c k) (clock_turned k) (clock_marked c k)
