-- The kinds of records and their numbers.
use Rattle.std.specs.Prelude.{◌≡◌, ℕ, cond, Some, None, Option, Result, MatchResult, ◌==◌}
use Rattle.model.specs.declared.fault.Fault.{Fault}
use Rattle.model.specs.declared.fault.Fault.TheVariants.{BadRecord}
use Rattle.script.specs.declared.kind.Kind.{Kind}
use Rattle.script.specs.declared.kind.Kind.TheVariants.{SetUp, Map, Touch, Share, Begin, Acknowledge, Finish, Flush, Look}

-- the number of each kind
abbrev pub kind_number : Kind → ℕ
kind_number SetUp = 0
kind_number Map = 1
kind_number Touch = 2
kind_number Share = 3
kind_number Begin = 4
kind_number Acknowledge = 5
kind_number Finish = 6
kind_number Flush = 7
kind_number Look = 8

-- the kind with a number, if there is one
abbrev pub kind_of : ℕ → Option Kind
kind_of n =
    cond (n == 0) (Some SetUp)
    (cond (n == 1) (Some Map)
    (cond (n == 2) (Some Touch)
    (cond (n == 3) (Some Share)
    (cond (n == 4) (Some Begin)
    (cond (n == 5) (Some Acknowledge)
    (cond (n == 6) (Some Finish)
    (cond (n == 7) (Some Flush)
    (cond (n == 8) (Some Look) None))))))))

-- the result is the kind with this number, or says that no kind has it
abbrev pub Decodes : ℕ → Result Kind Fault → Type 0
Decodes n r = MatchResult r (λ kind. kind_of n ≡ Some kind) (λ fault. (kind_of n ≡ None) × (fault ≡ BadRecord))
