-- When a fill is refused for want of nodes.
use Rattle.std.specs.Prelude.{ℕ, cond, Some, Ok, Err, Result, nat_lt}
use Rattle.model.specs.declared.fault.TreeFault.{TreeFault}
use Rattle.model.specs.declared.fault.TreeFault.TheVariants.{TooFewNodes}
use Rattle.tree.specs.declared.table.Tree.{Tree}
use Rattle.tree.specs.Soundness.{left}
use Rattle.tree.specs.Need.{need}

-- the children that the pages from `first` and below `last` need outnumber the free nodes: a fault at the first page
abbrev pub room_for : ℕ → ℕ → Tree → Result (Unit {0}) TreeFault
room_for first last t = cond (nat_lt (left t) (need t.slots first last)) (Err (TooFewNodes (Some first))) (Ok tt)
