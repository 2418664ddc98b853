-- What the steps of a walk promise one another. A reader of the calls needs none of it.
use Rattle.std.specs.Prelude.{◌≡◌, ℕ, ◌+◌, ◌-◌, ◌*◌, ◌/◌, ◌%◌, ◌<◌, ◌≤◌, List, ◌≢◌, slice_index, slice_set}
use Rattle.model.specs.declared.page.Mapping.{Mapping}
use Rattle.tree.specs.declared.slot.Slot.TheVariants.{Vacant, Child, Value}
use Rattle.tree.specs.declared.slot.Link.{Link}
use Rattle.tree.specs.declared.pool.Pool.{Pool}
use Rattle.tree.specs.declared.table.Tree.{Tree}
use Rattle.tree.specs.Pools.{next_object, drawn, unused}
use Rattle.tree.specs.Nodes.{slot_at, link_at, slot_of}
use Rattle.tree.specs.Soundness.{Sound, Pooled, left}
use Rattle.tree.specs.Changes.{written}
use Rattle.tree.specs.Need.{vacancy}
use Rattle.tree.specs.Holders.{holders}

-- the same of a value
abbrev pub Put : ℕ → ℕ → Mapping → Tree → Tree → Type 0
Put n s e old new = new ≡ written n s (Value e) old

-- links stay
abbrev pub Keeps : Tree → Tree → Type 0
Keeps old new = (n s k : ℕ) → s < 64 → slot_at old.slots n s ≡ Child k → slot_at new.slots n s ≡ Child k

-- what is known of the node that a pool gives, and of the pool after it
pub record Gives (links : List Link) (p : Pool 64) : Type 0 where
  pub some : 0 < next_object p
  pub small : next_object p < 65
  pub idle : (link_at links (next_object p)).level ≡ 0
  pub left : unused (drawn p) + 1 ≡ unused p
  pub pooled : Pooled links (drawn p)
  pub under : next_object p < (drawn p).next
  pub out : (i : ℕ) → i < (drawn p).count → slice_index p.returned i ≢ next_object p

-- a free node k with vacant slots hangs from the slot s of n, which was vacant
pub record Hung (n s k : ℕ) (old new : Tree) : Type 0 where
  pub sound : Sound new
  pub slots : new.slots ≡ slice_set old.slots (n * 64 + s) (Child k)
  pub levels : (m : ℕ) → (m ≢ k) → link_at new.links m ≡ link_at old.links m
  pub level : (link_at new.links k).level ≡ (link_at old.links n).level + 1
  pub idle : (link_at old.links k).level ≡ 0
  pub small : k < 65
  pub size : new.pool.size ≡ old.pool.size
  pub left : left new + 1 ≡ left old
  pub shown : (q : ℕ) → q < 262144 → slot_of new.slots q ≡ slot_of old.slots q
  pub kept : Keeps old new

-- slots of older nodes of which P holds are as they were
abbrev pub Others : (ℕ → ℕ → Type 0) → Tree → Tree → Type 0
Others P old new = (a t : ℕ) → t < 64 → 0 < (link_at old.links a).level → P a t → slot_at new.slots a t ≡ slot_at old.slots a t

-- n is the leaf of a page
abbrev pub LeafOf : Tree → ℕ → ℕ → Type 0
LeafOf t page n = (m : ℕ) × (slot_at t.slots 1 (page / 4096) ≡ Child m) × (slot_at t.slots m (page / 64 % 64) ≡ Child n)

-- the slot s of n leads to k, an older child or a new one
pub record Entered (n s k : ℕ) (old new : Tree) : Type 0 where
  pub sound : Sound new
  pub slot : slot_at new.slots n s ≡ Child k
  pub small : k < 65
  pub shown : (q : ℕ) → q < 262144 → slot_of new.slots q ≡ slot_of old.slots q
  pub kept : Keeps old new
  pub levels : (m : ℕ) → 0 < (link_at old.links m).level → link_at new.links m ≡ link_at old.links m
  pub others : Others (λ a t. a ≡ n → t ≢ s) old new
  pub blank : slot_at old.slots n s ≡ Vacant → (t : ℕ) → t < 64 → slot_at new.slots k t ≡ Vacant
  pub size : new.pool.size ≡ old.pool.size
  pub left : left new + vacancy (slot_at old.slots n s) ≡ left old

-- the slots of the root but b, and of the middle nodes but the one under b
abbrev pub Beside : Tree → ℕ → ℕ → ℕ → Type 0
Beside t b a s =
    ((link_at t.links a).level < 3) × ((link_at t.links a).level ≡ 1 → s ≢ b) × ((link_at t.links a).level ≡ 2 → (link_at t.links a).place ≢ b)

-- a fill under the middle node m has come to the block b of 64 pages
pub record Goes (m first last b : ℕ) (old now : Tree) : Type 0 where
  pub later : (x : ℕ) → b ≤ x → x ≤ (last - 1) / 64 → slot_at now.slots m (x % 64) ≡ slot_at old.slots m (x % 64)
  pub gain : ((t : ℕ) → t < 64 → slot_at old.slots m t ≡ Vacant) → holders now.slots m + first / 64 ≡ holders old.slots m + b
