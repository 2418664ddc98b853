-- The checks of each call, in their order.
use Rattle.std.specs.Prelude.{◌≡◌, ℕ, ◌+◌, Bool, cond, ◌&&◌, Some, None, Ok, Err, Option, Result, nat_le, nat_lt}
use Rattle.model.specs.declared.fault.Reason.{Reason}
use Rattle.model.specs.declared.fault.Reason.TheVariants.{CoreNotInService, BadRange, NoLabel, Mapped, Closing, BadSetUp}
use Rattle.model.specs.declared.fault.TreeFault.{TreeFault}
use Rattle.model.specs.declared.fault.SpaceFault.{SpaceFault}
use Rattle.model.specs.declared.fault.SpaceFault.TheVariants as faults
use Rattle.model.specs.declared.fault.SpaceFault.TheVariants.{Refused}
use Rattle.model.specs.Sizes.{page_count, most_cores, most_frames, most_nodes}
use Rattle.model.specs.Pages.{closing_by, mapped_state}
use Rattle.model.specs.Flat.{Flat, lowest}
use Rattle.tree.specs.declared.pages.Pages.{Pages}
use Rattle.tree.specs.Room.{room_for}
use Rattle.tree.specs.declared.table.Tree.{Tree}
use Rattle.tree.specs.Nodes.{shows}

-- a check passes, or refuses the call
abbrev pub Check : Type 0
Check = Result (Unit {0}) SpaceFault

-- what is said by a check that finds a value for what follows
abbrev pub says : {A : Type 0} → Result A SpaceFault → Check
says (Ok x) = Ok tt
says (Err e) = Err e

-- one check after another: the first refusal stands
abbrev pub and_then : Check → Check → Check
and_then (Ok x) next = next
and_then (Err e) next = Err e

-- a refusal without a place, unless all is fine
abbrev pub unless : Bool → Reason → Check
unless fine reason = cond fine (Ok tt) (Err (Refused reason None))

-- a page in the way refuses the call, and is its place
abbrev pub unless_found : Option ℕ → Reason → Check
unless_found None reason = Ok tt
unless_found (Some p) reason = Err (Refused reason (Some p))

-- the tree's fault is kept
abbrev pub of_tree : Result (Unit {0}) TreeFault → Check
of_tree (Ok x) = Ok x
of_tree (Err e) = Err (faults.Tree e)

-- at least one page, and none past the last
abbrev pub good_range : ℕ → ℕ → Bool
good_range first count = nat_lt 0 count && nat_le (first + count) page_count

-- the `count` pages from `first`
pub record IsRange (first count : ℕ) (pages : Pages) : Type 0 where
  pub starts : pages.first ≡ first
  pub ends : pages.last ≡ first + count

-- 1 to 16 cores, 1 to 1,024 frames, 1 to 64 nodes
abbrev pub good_set_up : ℕ → ℕ → ℕ → Bool
good_set_up cores frames nodes = (nat_lt 0 cores && nat_le cores most_cores) && ((nat_lt 0 frames && nat_le frames most_frames) && (nat_lt 0 nodes && nat_le nodes most_nodes))

-- what a set up asks
abbrev pub set_up_check : ℕ → ℕ → ℕ → Check
set_up_check cores frames nodes = unless (good_set_up cores frames nodes) BadSetUp

-- what a map asks of its numbers: a core in service, a good range, a label
abbrev pub numbers_check : ℕ → ℕ → ℕ → ℕ → ℕ → Check
numbers_check cores core label first count =
    and_then (unless (nat_lt core cores) CoreNotInService) (and_then (unless (good_range first count) BadRange) (unless (nat_lt 0 label) NoLabel))

-- what it asks of the pages: none closing, then none mapped
abbrev pub vacant_check : ℕ → ℕ → Flat → Check
vacant_check first count pages =
    and_then (unless_found (lowest (λ q. closing_by (pages q)) first count) Closing) (unless_found (lowest (λ q. mapped_state (pages q)) first count) Mapped)

-- and at last nodes enough
abbrev pub map_check : ℕ → ℕ → ℕ → ℕ → ℕ → Tree → Check
map_check core label first count cores t =
    and_then (numbers_check cores core label first count) (and_then (vacant_check first count (shows t)) (of_tree (room_for first (first + count) t)))

-- what a look asks: a page that there is
abbrev pub look_check : ℕ → Check
look_check page = unless (nat_lt page page_count) BadRange
