-- When a tree is sound.
use Rattle.std.specs.Prelude.{◌≡◌, ℕ, ◌+◌, ◌<◌, ◌≤◌, List, length, ◌≢◌, slice_index}
use Rattle.tree.specs.declared.slot.Slot.{Slot}
use Rattle.tree.specs.declared.slot.Slot.TheVariants.{Vacant, Child, Value}
use Rattle.tree.specs.declared.slot.Link.{Link}
use Rattle.tree.specs.Shape.{Shape}
use Rattle.model.specs.declared.page.Mapping.{Mapping}
use Rattle.model.specs.Pages.{Within}
use Rattle.tree.specs.declared.pool.Pool.{Pool}
use Rattle.tree.specs.Pools.{unused}
use Rattle.tree.specs.Nodes.{slot_at, link_at}

-- children hang where their links say, one level below; free nodes are vacant; values name cores and frames that there are
pub record Linked (slots : List Slot) (links : List Link) : Type 0 where
  pub wide : length slots ≡ 4160
  pub tall : length links ≡ 65
  pub none : (link_at links 0).level ≡ 0
  pub root : (link_at links 1).level ≡ 1
  pub level : (n s k : ℕ) → s < 64 → slot_at slots n s ≡ Child k → (link_at links k).level ≡ (link_at links n).level + 1
  pub deep : (n : ℕ) → (link_at links n).level ≤ 3
  pub parent : (n s k : ℕ) → s < 64 → slot_at slots n s ≡ Child k → (link_at links k).parent ≡ n
  pub place : (n s k : ℕ) → s < 64 → slot_at slots n s ≡ Child k → (link_at links k).place ≡ s
  pub hung : (k : ℕ) → 1 < (link_at links k).level → ((link_at links k).place < 64) × (slot_at slots (link_at links k).parent (link_at links k).place ≡ Child k)
  pub free : (n s : ℕ) → s < 64 → (link_at links n).level ≡ 0 → slot_at slots n s ≡ Vacant
  pub values : (n s : ℕ) (e : Mapping) → s < 64 → slot_at slots n s ≡ Value e → Within e

-- what the pool has is free, once each
pub record Pooled (links : List Link) (p : Pool 64) : Type 0 where
  pub long : length p.returned ≡ 64
  pub few : p.size ≤ 64
  pub past : p.next ≤ p.size + 1
  pub second : 1 < p.next
  pub fit : p.count + 2 ≤ p.next
  pub fresh : (n : ℕ) → p.next ≤ n → (link_at links n).level ≡ 0
  pub idle : (i : ℕ) → i < p.count → (link_at links (slice_index p.returned i)).level ≡ 0
  pub known : (i : ℕ) → i < p.count → slice_index p.returned i < p.next
  pub some : (i : ℕ) → i < p.count → 0 < slice_index p.returned i
  pub apart : (i j : ℕ) → i < j → j < p.count → slice_index p.returned i ≢ slice_index p.returned j

-- a tree whose links and pool are in order
pub record Sound (t : Shape) : Type 0 where
  pub linked : Linked t.slots t.links
  pub pooled : Pooled t.links t.pool

-- how many nodes can be drawn
abbrev pub left : Shape → ℕ
left t = unused t.pool
