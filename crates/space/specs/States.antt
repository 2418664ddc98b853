-- The state of a space that calls read and write, beside its counter of nodes.
use Rattle.std.specs.Prelude.{ℕ}
use Rattle.model.specs.Flat.{Flat}
use Rattle.tree.specs.declared.pool.Pool.{Pool}
use Rattle.tree.specs.declared.table.Tree.{Tree}
use Rattle.tree.specs.Pools.{full}
use Rattle.tree.specs.Nodes.{shows}
use Rattle.tree.specs.Changes.{planted}

-- cores, epoch, the pool of frames and the tree
pub record State : Type 0 where
  -- the cores in service are the numbers below this
  pub cores : ℕ
  pub epoch : ℕ
  pub frames : Pool 1024
  pub tree : Tree

-- the flat page map
abbrev pub flat : State → Flat
flat st = shows st.tree

-- a space that was just set up: the pools are full but for the root
abbrev pub set_up_state : ℕ → ℕ → ℕ → ℕ → State
set_up_state cores frames nodes epoch = record { cores = cores; epoch = epoch; frames = full 1024 frames; tree = planted nodes }

-- before set up: no cores, epoch 0, all pages vacant
abbrev pub before_set_up : State
before_set_up = set_up_state 0 0 1 0

-- the state with another tree
abbrev pub with_tree : Tree → State → State
with_tree t st = record { cores = st.cores; epoch = st.epoch; frames = st.frames; tree = t }
