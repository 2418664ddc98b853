-- Nodes, their slots and links, and the flat page map that a tree stands for.
use Rattle.std.specs.Prelude.{ℕ, ◌+◌, ◌*◌, ◌/◌, ◌%◌, List, Some, None, slice_index_or}
use Rattle.model.specs.Pages.{PageState}
use Rattle.model.specs.Flat.{Flat}
use Rattle.tree.specs.declared.slot.Slot.{Slot}
use Rattle.tree.specs.declared.slot.Slot.TheVariants.{Vacant, Child, Value}
use Rattle.tree.specs.declared.slot.Link.{Link}
use Rattle.tree.specs.Shape.{Shape}

-- slot s of node n
abbrev pub slot_at : List Slot → ℕ → ℕ → Slot
slot_at slots n s = slice_index_or slots (n * 64 + s) Vacant

-- the link of a free node
abbrev pub no_link : Link
no_link = record { level = 0; parent = 0; place = 0 }

-- the link of node n upward
abbrev pub link_at : List Link → ℕ → Link
link_at links n = slice_index_or links n no_link

-- what stands at place s under a slot: a value above a leaf covers its block
abbrev pub down : List Slot → Slot → ℕ → Slot
down slots Vacant s = Vacant
down slots (Child k) s = slot_at slots k s
down slots (Value e) s = Value e

-- the slot that says what a page is, in three steps from the root
abbrev pub slot_of : List Slot → ℕ → Slot
slot_of slots page = down slots (down slots (slot_at slots 1 (page / 4096)) (page / 64 % 64)) (page % 64)

-- what a slot says of the pages that it stands for
abbrev pub state_of : Slot → PageState
state_of Vacant = None
state_of (Child k) = None
state_of (Value e) = Some e

-- the flat page map that a tree stands for
abbrev pub shows : Shape → Flat
shows t page = state_of (slot_of t.slots page)
