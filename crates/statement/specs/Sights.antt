-- What a look's answer tells of a page.
use Rattle.std.specs.Prelude.{ℕ, ◌-◌, ◌/◌, ◌%◌, Bool, true, false, cond, Some, None, Ok, Err, Option, Result, ◌==◌}
use Rattle.model.specs.declared.fault.SpaceFault.{SpaceFault}
use Rattle.space.specs.States.{State}
use Rattle.space.specs.Calls.{look_answer_of}
use Rattle.statement.specs.declared.sight.Sight.{Sight}
use Rattle.statement.specs.declared.sight.Sight.TheVariants.{Vacant, Mapped, Closing}

-- frames are numbered from 1
abbrev pub frame_told : ℕ → Option ℕ
frame_told n = cond (n == 0) None (Some n)

-- from the top: owner + 1 in 8 bits, frame in 16, label in 8
abbrev pub sight_of : ℕ → Sight
sight_of a =
    cond (a == 0) Vacant
    (cond (a / 16777216 == 0) (Mapped (a % 256) (frame_told (a / 256 % 65536)))
    (Closing (a / 16777216 - 1) (a % 256) (frame_told (a / 256 % 65536))))

-- what an outcome of a look tells
abbrev pub sight_told : Result ℕ SpaceFault → Sight
sight_told (Ok a) = sight_of a
sight_told (Err e) = Vacant

-- what a look at the page tells
abbrev pub seen_at : State → ℕ → Sight
seen_at st page = sight_told (look_answer_of page st)

-- whether a page was seen to be mapped
abbrev pub is_mapped : Sight → Bool
is_mapped (Mapped label frame) = true
is_mapped _ = false

-- whether a page was seen to be closing
abbrev pub is_closing : Sight → Bool
is_closing (Closing owner label frame) = true
is_closing _ = false
