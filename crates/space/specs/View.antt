-- A space as the calls read and write it.
use Rattle.counter.specs.declared.counter.Counter.{Ghosts}
use Rattle.counter.specs.declared.kind.Nodes.{Nodes}
use Rattle.space.specs.declared.space.Space.{Space}
use Rattle.space.specs.States.{State}

-- the state of a space over any counter
abbrev pub state : {N : Type 0} {C : Ghosts N Nodes} → Space N C → State
state s = record { cores = s.cores; epoch = s.epoch; frames = s.frames; tree = s.tree }
