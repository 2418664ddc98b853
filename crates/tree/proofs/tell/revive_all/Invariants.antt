use Rattle.std.proofs.Common.{◌+◌, Some}
use Rattle.counter.specs.Meaning.{how_many}
use Rattle.tree.specs.Holders.{Changed, Aside, Follows}
use Rattle.tree.specs.Fill.{revivals}
use Rattle.tree.proofs.tell.revive_all.Given as goal

abbrev pub invariant-loop : goal.invariant-loop
invariant-loop g l =
    Changed l.node (Some (how_many ((g.C.Counter.meaning l.initial.counter-2).holders l.node) + l.counter)) (g.C.Counter.meaning l.initial.counter-2).holders (g.C.Counter.meaning l.counter-2).holders
    × Aside (g.C.Counter.meaning l.initial.counter-2) (g.C.Counter.meaning l.counter-2)
    × Follows g.C.Counter.steps (revivals l.core l.node l.counter) l.initial.counter-2 l.counter-2
