-- What one step makes of a tree: a new tree, a slot written, a child grown.
use Rattle.std.specs.Prelude.{ℕ, ◌+◌, ◌*◌, replicate, slice_set}
use Rattle.tree.specs.declared.slot.Slot.{Slot}
use Rattle.tree.specs.declared.slot.Slot.TheVariants.{Vacant, Child}
use Rattle.tree.specs.declared.pool.Pool.{Pool}
use Rattle.tree.specs.declared.table.Tree.{Tree}
use Rattle.tree.specs.Pools.{full, next_object, drawn}
use Rattle.tree.specs.Nodes.{link_at, no_link}

-- a tree whose root is node k, with vacant slots
abbrev pub rooted : ℕ → Pool 64 → Tree
rooted k p =
    record {
      slots = replicate 4160 Vacant;
      links = slice_set (replicate 65 no_link) k (record { level = 1; parent = 0; place = 0 });
      pool = p;
    }

-- a new tree: the root is drawn, and the rest of its nodes are in the pool
abbrev pub planted : ℕ → Tree
planted nodes = rooted (next_object (full 64 nodes)) (drawn (full 64 nodes))

-- slot s of node n comes to hold w, and nothing else changes
abbrev pub written : ℕ → ℕ → Slot → Tree → Tree
written n s w t = record { slots = slice_set t.slots (n * 64 + s) w; links = t.links; pool = t.pool }

-- node k, which leaves the pool p behind, becomes the child at slot s of node n
abbrev pub hung_from : ℕ → ℕ → ℕ → Pool 64 → Tree → Tree
hung_from n s k p t =
    record {
      slots = slice_set t.slots (n * 64 + s) (Child k);
      links = slice_set t.links k (record { level = (link_at t.links n).level + 1; parent = n; place = s });
      pool = p;
    }

-- a drawn node becomes the child at slot s of node n
abbrev pub grown : ℕ → ℕ → Tree → Tree
grown n s t = hung_from n s (next_object t.pool) (drawn t.pool) t
