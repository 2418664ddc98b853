-- Which number, part and place each fault has.
use Rattle.std.specs.Prelude.{ℕ, None, Option}
use Rattle.model.specs.declared.fault.Part.{Part}
use Rattle.model.specs.declared.fault.Part.TheVariants as parts
use Rattle.model.specs.declared.fault.PoolFault.TheVariants.{NoFreeFrame}
use Rattle.model.specs.declared.fault.TreeFault.TheVariants.{Pool, TooFewNodes}
use Rattle.model.specs.declared.fault.Reason.{Reason}
use Rattle.model.specs.declared.fault.Reason.TheVariants.{CoreNotInService, BadRange, NoLabel, Mapped, Closing, Vacant, NoFrame, AlreadyOpen, NoneOpen, StillWaiting, LastEpoch, BadSetUp}
use Rattle.model.specs.declared.fault.SpaceFault.TheVariants.{Tree, Refused}
use Rattle.model.specs.declared.fault.Fault.{Fault}
use Rattle.model.specs.declared.fault.Fault.TheVariants.{Space, BadRecord}

-- the number of each reason for which the space itself refuses
abbrev pub reason_number : Reason → ℕ
reason_number CoreNotInService = 1
reason_number BadRange = 2
reason_number NoLabel = 3
reason_number Mapped = 4
reason_number Closing = 5
reason_number Vacant = 6
reason_number NoFrame = 7
reason_number AlreadyOpen = 10
reason_number NoneOpen = 11
reason_number StillWaiting = 12
reason_number LastEpoch = 13
reason_number BadSetUp = 14

-- the number of each part
abbrev pub part_number : Part → ℕ
part_number parts.Space = 1
part_number parts.Tree = 2
part_number parts.FramePool = 3
part_number parts.Script = 4

-- the number of each fault
abbrev pub number_of : Fault → ℕ
number_of (Space (Refused reason place)) = reason_number reason
number_of (Space (Tree (Pool (NoFreeFrame place)))) = 8
number_of (Space (Tree (TooFewNodes place))) = 9
number_of BadRecord = 15

-- the part that each fault comes from
abbrev pub part_of : Fault → Part
part_of (Space (Refused reason place)) = parts.Space
part_of (Space (Tree (Pool (NoFreeFrame place)))) = parts.FramePool
part_of (Space (Tree (TooFewNodes place))) = parts.Tree
part_of BadRecord = parts.Script

-- the page that a fault is about, or none
abbrev pub place_of : Fault → Option ℕ
place_of (Space (Refused reason place)) = place
place_of (Space (Tree (Pool (NoFreeFrame place)))) = place
place_of (Space (Tree (TooFewNodes place))) = place
place_of BadRecord = None
