-- What a page can be.
use Rattle.std.specs.Prelude.{ℕ, ◌+◌, ◌*◌, ◌≤◌, Bool, false, not, is_some, Some, None, Option}
use Rattle.model.specs.declared.page.Mapping.{Mapping}

-- the state of a page: what it has in use, or nothing where it is vacant
abbrev pub PageState : Type 0
PageState = Option Mapping

-- mapped with a label, no frame and an empty core set
abbrev pub fresh : ℕ → Mapping
fresh label = record { label = label; owner = None; frame = None; cores = record { bits = 0 } }

-- a core is unmapping the page
abbrev pub closing_by : PageState → Bool
closing_by None = false
closing_by (Some m) = is_some m.owner

-- the page is in use, and no core is unmapping it
abbrev pub mapped_state : PageState → Bool
mapped_state None = false
mapped_state (Some m) = not (is_some m.owner)

-- an absent part counts 0
abbrev pub frame_part : Option ℕ → ℕ
frame_part None = 0
frame_part (Some f) = f

-- an owner counts one more than its number
abbrev pub owner_part : Option ℕ → ℕ
owner_part None = 0
owner_part (Some c) = c + 1

-- what a look answers of a page
abbrev pub look_answer : PageState → ℕ
look_answer None = 0
look_answer (Some m) = m.label + 256 * frame_part m.frame + 16777216 * owner_part m.owner

-- the owner is one of 16 cores, the frame one of 1,024
pub record Within (m : Mapping) : Type 0 where
  pub owner : owner_part m.owner ≤ 16
  pub frame : frame_part m.frame ≤ 1024

-- a state that names only cores and frames that there are
abbrev pub Proper : PageState → Type 0
Proper None = Unit {0}
Proper (Some m) = Within m
