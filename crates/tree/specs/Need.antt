-- How many children a fill draws.
use Rattle.std.specs.Prelude.{ℕ, ◌+◌, ◌-◌, ◌*◌, ◌/◌, ◌%◌, min, Bool, false, cond, List, ◌==◌, nat_lt}
use Rattle.tree.specs.declared.slot.Slot.{Slot}
use Rattle.tree.specs.declared.slot.Slot.TheVariants.{Vacant, Child, Value}
use Rattle.tree.specs.Nodes.{slot_at}

-- a vacant slot whose block of `size` pages is met in `len` pages is filled as a whole
abbrev pub covers : Slot → ℕ → ℕ → Bool
covers Vacant len size = len == size
covers (Child k) len size = false
covers (Value e) len size = false

-- a vacant slot that is met in part draws a child
abbrev pub vacancy : Slot → ℕ
vacancy Vacant = 1
vacancy (Child k) = 0
vacancy (Value e) = 0

-- the children that a slot above a leaf draws
abbrev pub part : Slot → ℕ → ℕ
part slot len = cond (covers slot len 64) 0 (vacancy slot)

-- what `count` makes of a range's parts in the first and the last block of `size` pages that it meets: only these can it meet in part
unfoldable pub at_ends : ℕ → (ℕ → ℕ → ℕ) → ℕ → ℕ → ℕ
at_ends size count first last =
    cond (nat_lt first last)
    (count first (min last (first / size * size + size)) + cond (first / size == (last - 1) / size) 0 (count ((last - 1) / size * size) last))
    0

-- over the blocks of 64 pages of a middle node, whose slots f gives by block
abbrev pub need_by : (ℕ → Slot) → ℕ → ℕ → ℕ
need_by f first last = at_ends 64 (λ a z. part (f (a / 64)) (z - a)) first last

-- the children that a range draws under the middle node m
abbrev pub need_mid : List Slot → ℕ → ℕ → ℕ → ℕ
need_mid slots m first last = need_by (λ x. slot_at slots m (x % 64)) first last

-- a block of 4,096 pages under a slot of the root
abbrev pub root_part : List Slot → Slot → ℕ → ℕ → ℕ
root_part slots Vacant first last = cond (last - first == 4096) 0 (1 + need_by (λ _. Vacant) first last)
root_part slots (Child m) first last = need_mid slots m first last
root_part slots (Value e) first last = 0

-- the children that a range draws in all
abbrev pub need : List Slot → ℕ → ℕ → ℕ
need slots first last = at_ends 4096 (λ a z. root_part slots (slot_at slots 1 (a / 4096)) a z) first last
