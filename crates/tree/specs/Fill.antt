-- What a fill makes of a tree, exactly, and what the node counter is told of it: by rising page, parent before child.
-- The law of it, in the words of the flat map, is Filled.
use Rattle.std.specs.Prelude.{ℕ, zero, suc, ◌+◌, ◌-◌, ◌*◌, ◌/◌, ◌%◌, min, max, Bool, true, false, cond, List, [], ◌∷◌, ◌++◌, ◌==◌, nat_lt}
use Rattle.model.specs.declared.page.Mapping.{Mapping}
use Rattle.counter.specs.Meaning.{Operation}
use Rattle.counter.specs.Meaning.Operation.{Give, Revive}
use Rattle.tree.specs.declared.slot.Slot.{Slot}
use Rattle.tree.specs.declared.slot.Slot.TheVariants.{Vacant, Child, Value}
use Rattle.tree.specs.declared.table.Tree.{Tree}
use Rattle.tree.specs.Pools.{next_object}
use Rattle.tree.specs.Nodes.{slot_at}
use Rattle.tree.specs.Changes.{written, grown}

-- how many blocks of `size` pages the pages from `first` and below `last` meet
unfoldable pub blocks_met : ℕ → ℕ → ℕ → ℕ
blocks_met size first last = cond (nat_lt first last) ((last - 1) / size + 1 - first / size) 0

-- where the range's part of the block number k after its first begins
abbrev pub part_start : ℕ → ℕ → ℕ → ℕ
part_start size first k = max first ((first / size + k) * size)

-- where that part ends
abbrev pub part_stop : ℕ → ℕ → ℕ → ℕ → ℕ
part_stop size first last k = min last ((first / size + k) * size + size)

-- what steps over the range's parts in the first k blocks of `size` pages that it meets make of a tree
unfoldable pub walk : ℕ → (ℕ → ℕ → Tree → Tree) → ℕ → ℕ → ℕ → Tree → Tree
walk size step first last zero t = t
walk size step first last (suc k) t = step (part_start size first k) (part_stop size first last k) (walk size step first last k t)

-- what is told in these steps
unfoldable pub told_walk : ℕ → (ℕ → ℕ → Tree → Tree) → (ℕ → ℕ → Tree → List Operation) → ℕ → ℕ → ℕ → Tree → List Operation
told_walk size step says first last zero t = []
told_walk size step says first last (suc k) t =
    told_walk size step says first last k t ++ says (part_start size first k) (part_stop size first last k) (walk size step first last k t)

-- `count` slots of the leaf n, from that of page `first` on, come to hold e
unfoldable pub fill_leaf : ℕ → ℕ → Mapping → ℕ → Tree → Tree
fill_leaf n first e zero t = t
fill_leaf n first e (suc k) t = written n ((first + k) % 64) (Value e) (fill_leaf n first e k t)

-- the range's part of a block of 64 pages, by what its slot in the middle node m has:
-- a vacant slot takes the value if the block lies wholly in the range, else it gets a child; a child is entered
abbrev pub fill_block_by : Slot → ℕ → ℕ → ℕ → Mapping → Tree → Tree
fill_block_by Vacant m first last e t =
    cond (last - first == 64) (written m (first / 64 % 64) (Value e) t) (fill_leaf (next_object t.pool) first e (last - first) (grown m (first / 64 % 64) t))
fill_block_by (Child n) m first last e t = fill_leaf n first e (last - first) t
fill_block_by (Value v) m first last e t = t

-- the same, by the slot as it is
unfoldable pub fill_block : ℕ → ℕ → ℕ → Mapping → Tree → Tree
fill_block m first last e t = fill_block_by (slot_at t.slots m (first / 64 % 64)) m first last e t

-- all blocks of 64 pages that the range meets
abbrev pub fill_middle : ℕ → ℕ → ℕ → Mapping → Tree → Tree
fill_middle m first last e t = walk 64 (λ a z. fill_block m a z e) first last (blocks_met 64 first last) t

-- the same of a block of 4,096 pages, by what its slot in the root has
abbrev pub fill_top_by : Slot → ℕ → ℕ → Mapping → Tree → Tree
fill_top_by Vacant first last e t =
    cond (last - first == 4096) (written 1 (first / 4096) (Value e) t) (fill_middle (next_object t.pool) first last e (grown 1 (first / 4096) t))
fill_top_by (Child m) first last e t = fill_middle m first last e t
fill_top_by (Value v) first last e t = t

-- the same, by the slot as it is
unfoldable pub fill_top : ℕ → ℕ → Mapping → Tree → Tree
fill_top first last e t = fill_top_by (slot_at t.slots 1 (first / 4096)) first last e t

-- the whole range
abbrev pub fill : ℕ → ℕ → Mapping → Tree → Tree
fill first last e t = walk 4096 (λ a z. fill_top a z e) first last (blocks_met 4096 first last) t

-- what the node counter is told: an older node that gains a slot is revived, a new one is given its slots at once
unfoldable pub revivals : ℕ → ℕ → ℕ → List Operation
revivals core n zero = []
revivals core n (suc k) = revivals core n k ++ (Revive core n ∷ [])

-- a node gains a slot: told only if it is older
abbrev pub gain : Bool → ℕ → ℕ → List Operation
gain older core n = cond older (Revive core n ∷ []) []

-- what is told of a block of 64 pages, by what its slot has
abbrev pub told_block_by : Slot → Bool → ℕ → ℕ → ℕ → ℕ → Tree → List Operation
told_block_by Vacant older core m first last t = gain older core m ++ cond (last - first == 64) [] (Give (next_object t.pool) (last - first) ∷ [])
told_block_by (Child n) older core m first last t = revivals core n (last - first)
told_block_by (Value v) older core m first last t = []

-- the same, by the slot as it is
unfoldable pub told_block : Bool → ℕ → ℕ → ℕ → ℕ → Tree → List Operation
told_block older core m first last t = told_block_by (slot_at t.slots m (first / 64 % 64)) older core m first last t

-- what is told of all blocks under a middle node
abbrev pub told_middle : Bool → ℕ → ℕ → ℕ → ℕ → Mapping → Tree → List Operation
told_middle older core m first last e t =
    told_walk 64 (λ a z. fill_block m a z e) (told_block older core m) first last (blocks_met 64 first last) t

-- what is told of a block of 4,096 pages, by what its slot in the root has
abbrev pub told_top_by : Slot → ℕ → ℕ → ℕ → Mapping → Tree → List Operation
told_top_by Vacant core first last e t =
    Revive core 1 ∷ cond (last - first == 4096) []
    (Give (next_object t.pool) ((last - 1) / 64 + 1 - first / 64) ∷ told_middle false core (next_object t.pool) first last e (grown 1 (first / 4096) t))
told_top_by (Child m) core first last e t = told_middle true core m first last e t
told_top_by (Value v) core first last e t = []

-- the same, by the slot as it is
unfoldable pub told_top : ℕ → ℕ → ℕ → Mapping → Tree → List Operation
told_top core first last e t = told_top_by (slot_at t.slots 1 (first / 4096)) core first last e t

-- all that the node counter is told by a fill, in this order
abbrev pub told : ℕ → ℕ → ℕ → Mapping → Tree → List Operation
told core first last e t = told_walk 4096 (λ a z. fill_top a z e) (λ a z. told_top core a z e) first last (blocks_met 4096 first last) t
