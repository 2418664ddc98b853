-- The words for faults and parts, as bytes.
use Rattle.std.specs.Prelude.{ℕ, List, codes}
use Rattle.model.specs.declared.fault.Part.{Part}
use Rattle.model.specs.declared.fault.Part.TheVariants as parts
use Rattle.model.specs.declared.fault.TreeFault.{TreeFault}
use Rattle.model.specs.declared.fault.TreeFault.TheVariants.{Pool, TooFewNodes}
use Rattle.model.specs.declared.fault.Reason.{Reason}
use Rattle.model.specs.declared.fault.Reason.TheVariants.{CoreNotInService, BadRange, NoLabel, Mapped, Closing, Vacant, NoFrame, AlreadyOpen, NoneOpen, StillWaiting, LastEpoch, BadSetUp}
use Rattle.model.specs.declared.fault.SpaceFault.{SpaceFault}
use Rattle.model.specs.declared.fault.SpaceFault.TheVariants.{Tree, Refused}
use Rattle.model.specs.declared.fault.Fault.{Fault}
use Rattle.model.specs.declared.fault.Fault.TheVariants.{Space, BadRecord}

-- why the space itself refused
abbrev pub reason_words : Reason → List ℕ
reason_words CoreNotInService = codes "core not in service"
reason_words BadRange = codes "count 0 or a page past the last"
reason_words NoLabel = codes "label 0"
reason_words Mapped = codes "mapped"
reason_words Closing = codes "closing"
reason_words Vacant = codes "vacant"
reason_words NoFrame = codes "no frame in the source"
reason_words AlreadyOpen = codes "unmapping already open"
reason_words NoneOpen = codes "no unmapping open"
reason_words StillWaiting = codes "cores still waited for"
reason_words LastEpoch = codes "epoch at its last"
reason_words BadSetUp = codes "set up outside the ranges"

-- why the tree or its pool refused
abbrev pub tree_words : TreeFault → List ℕ
tree_words (Pool e) = codes "no free frame"
tree_words (TooFewNodes place) = codes "too few free nodes"

-- why the space or what is in it refused
abbrev pub space_words : SpaceFault → List ℕ
space_words (Tree e) = tree_words e
space_words (Refused reason place) = reason_words reason

-- why a record was refused
abbrev pub fault_words : Fault → List ℕ
fault_words (Space e) = space_words e
fault_words BadRecord = codes "bad record"

-- which part refused it
abbrev pub part_words : Part → List ℕ
part_words parts.Space = codes "space"
part_words parts.Tree = codes "tree"
part_words parts.FramePool = codes "frame pool"
part_words parts.Script = codes "script"
