-- How many hold a node, and what a counter of them says.
use Rattle.std.specs.Prelude.{◌≡◌, ℕ, zero, suc, ◌+◌, ◌<◌, Bool, true, false, cond, List, [], ◌∷◌, Some, None, Option, ◌==◌, ◌≢◌}
use Rattle.tree.specs.declared.slot.Slot.{Slot}
use Rattle.tree.specs.declared.slot.Slot.TheVariants.{Vacant, Child, Value}
use Rattle.tree.specs.declared.table.Tree.{Tree}
use Rattle.counter.specs.Meaning.{Meaning, Operation, how_many}
use Rattle.tree.specs.Nodes.{slot_at, link_at}

-- a slot that is not vacant holds its node
abbrev pub taken : Slot → ℕ
taken Vacant = 0
taken (Child k) = 1
taken (Value e) = 1

-- of the first k slots of a node, those that are not vacant
unfoldable pub held : List Slot → ℕ → ℕ → ℕ
held xs n zero = 0
held xs n (suc k) = held xs n k + taken (slot_at xs n k)

-- the root has one holder more
abbrev pub holders : List Slot → ℕ → ℕ
holders xs n = cond (n == 1) 1 0 + held xs n 64

-- f and g differ at i alone, where g is v
pub record Changed (i : ℕ) (v : Option ℕ) (m n : ℕ → Option ℕ) : Type 0 where
  pub here : n i ≡ v
  pub rest : (j : ℕ) → (j ≢ i) → n j ≡ m j

-- a counter has the holders of each node of the tree
abbrev pub Counted : (ℕ → Option ℕ) → Tree → Type 0
Counted f t = (n : ℕ) → 0 < (link_at t.links n).level → f n ≡ Some (holders t.slots n)

-- the same, but for a node m that the counter is yet to be given
abbrev pub CountedBut : Bool → ℕ → (ℕ → Option ℕ) → Tree → Type 0
CountedBut older m f t = (n : ℕ) → 0 < (link_at t.links n).level → (older ≡ false → n ≢ m) → f n ≡ Some (holders t.slots n)

-- an older node has gained a slot; of a new one nothing is told
pub record Told (older : Bool) (m : ℕ) (f g : ℕ → Option ℕ) : Type 0 where
  pub here : older ≡ true → g m ≡ Some (how_many (f m) + 1)
  pub rest : (j : ℕ) → (j ≢ m) → g j ≡ f j
  pub same : older ≡ false → g m ≡ f m

-- a node that is free in the tree is free in the counter
abbrev pub Idle : (ℕ → Option ℕ) → Tree → Type 0
Idle f t = (n : ℕ) → (link_at t.links n).level ≡ 0 → f n ≡ None

-- a counter knows exactly the nodes of the tree, each with its holders
pub record Tallied (m : Meaning) (t : Tree) : Type 0 where
  pub held : Counted m.holders t
  pub idle : Idle m.holders t

-- nothing but the holders of objects differs
pub record Aside (m n : Meaning) : Type 0 where
  pub cores : n.cores ≡ m.cores
  pub epoch : n.epoch ≡ m.epoch
  pub folded : n.folded ≡ m.folded
  pub closed : n.closed ≡ m.closed

-- the operations, in this order, lead a counter from s to t
unfoldable pub Follows : {S : Type 0} → (S → Operation → S → Type 0) → List Operation → S → S → Type 0
Follows steps [] s t = t ≡ s
Follows {S} steps (o ∷ os) s t = (u : S) × steps s o u × Follows steps os u t
