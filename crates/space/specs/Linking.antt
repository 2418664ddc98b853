-- What links the parts of a space between calls.
use Rattle.std.specs.Prelude.{◌≡◌, ℕ, ◌≤◌}
use Rattle.counter.specs.Meaning.{Meaning}
use Rattle.tree.specs.declared.pool.Pool.{Pool}
use Rattle.tree.specs.declared.table.Tree.{Tree}
use Rattle.tree.specs.Pools.{Ready}
use Rattle.tree.specs.Soundness as trees
use Rattle.tree.specs.Holders.{Tallied}
use Rattle.space.specs.States.{State}

-- the tree is sound, the counter knows exactly its nodes with their holders, and both speak of the same cores and epoch
pub record Agrees (st : State) (m : Meaning) : Type 0 where
  pub tree : trees.Sound st.tree
  pub tallied : Tallied m st.tree
  pub cores : m.cores ≡ st.cores
  pub epoch : m.epoch ≡ st.epoch
  pub few : st.cores ≤ 16
  pub frames : Ready 1024 st.frames

-- the parts of a space agree
abbrev pub Linked : ℕ → ℕ → Pool 1024 → Tree → Meaning → Type 0
Linked cores epoch frames tree m = ∥ Agrees (record { cores = cores; epoch = epoch; frames = frames; tree = tree }) m ∥₁
