-- What contracts see of a tree.
use Rattle.std.specs.Prelude.{List}
use Rattle.tree.specs.declared.slot.Slot.{Slot}
use Rattle.tree.specs.declared.slot.Link.{Link}
use Rattle.tree.specs.declared.pool.Pool.{Pool}

-- its slots, the links of its nodes upward, and its pool of nodes
pub record Shape : Type 0 where
  pub slots : List Slot
  pub links : List Link
  pub pool : Pool 64
