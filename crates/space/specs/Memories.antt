-- The memory as its users see it.
use Rattle.std.specs.Prelude.{ℕ, Result}
use Rattle.model.specs.declared.fault.SpaceFault.{SpaceFault}
use Rattle.counter.specs.Meaning.{Meaning}
use Rattle.space.specs.declared.memory.Memory.{Memory}
use Rattle.space.specs.States.{State}
use Rattle.space.specs.View.{state}
use Rattle.space.specs.Instance.{plain_meaning}
use Rattle.space.specs.Laws.{SetUp, Maps, Accepted}

-- the state of a memory
abbrev pub memory_state : Memory → State
memory_state m = state m.space

-- the meaning of the node counter
abbrev pub memory_nodes : Memory → Meaning
memory_nodes m = plain_meaning m.space.nodes

-- what an accepted set up does; a refused one leaves the memory as it was
abbrev pub WasSetUp : Result ℕ SpaceFault → ℕ → ℕ → Memory → Memory → Type 0
WasSetUp r cores epoch old new = Accepted r (SetUp cores epoch (memory_nodes new) (memory_state new)) old.space new.space

-- what an accepted map does; a refused one leaves the memory as it was
abbrev pub Mapped : Result ℕ SpaceFault → ℕ → ℕ → ℕ → ℕ → Memory → Memory → Type 0
Mapped r core label first count old new =
    Accepted r (Maps core label first count old.space new.space) old.space new.space
