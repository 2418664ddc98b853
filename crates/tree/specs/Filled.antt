-- The law of a fill: exactly the range comes to show the value.
use Rattle.std.specs.Prelude.{◌≡◌, ℕ, ◌<◌, ◌≤◌}
use Rattle.model.specs.declared.page.Mapping.{Mapping}
use Rattle.tree.specs.declared.slot.Slot.TheVariants.{Vacant, Value}
use Rattle.tree.specs.declared.table.Tree.{Tree}
use Rattle.tree.specs.Nodes.{link_at, slot_of}
use Rattle.tree.specs.Soundness.{Sound}
use Rattle.tree.specs.Walks.{Keeps}

-- the pages from `first` and below `last` show e, and all others what they showed
pub record Filled (first last : ℕ) (e : Mapping) (old new : Tree) : Type 0 where
  pub sound : Sound new
  pub here : (q : ℕ) → first ≤ q → q < last → q < 262144 → slot_of new.slots q ≡ Value e
  pub rest : (q : ℕ) → q < 262144 → (first ≤ q → q < last → ⊥) → slot_of new.slots q ≡ slot_of old.slots q
  pub kept : Keeps old new
  pub levels : (n : ℕ) → 0 < (link_at old.links n).level → link_at new.links n ≡ link_at old.links n
  pub size : new.pool.size ≡ old.pool.size

-- every page of the range is vacant
abbrev pub Free : Tree → ℕ → ℕ → Type 0
Free t first last = (q : ℕ) → first ≤ q → q < last → slot_of t.slots q ≡ Vacant
