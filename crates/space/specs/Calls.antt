-- What each call answers, and the state that it leaves.
use Rattle.std.specs.Prelude.{ℕ, ◌+◌, Ok, Err, Result}
use Rattle.model.specs.declared.fault.SpaceFault.{SpaceFault}
use Rattle.model.specs.Pages.{fresh}
use Rattle.model.specs.Flat.{look_at}
use Rattle.tree.specs.Fill.{fill}
use Rattle.space.specs.States.{State, flat, set_up_state, with_tree}
use Rattle.space.specs.Checks.{Check, set_up_check, map_check, look_check}

-- the answer n where the checks pass, else the fault
abbrev pub answer : Check → ℕ → Result ℕ SpaceFault
answer (Ok x) n = Ok n
answer (Err e) n = Err e

-- the new state where the checks pass, else the old one: a refusal alters nothing
abbrev pub after : {A : Type 0} → Check → A → A → A
after (Ok x) new old = new
after (Err e) new old = old

-- set up answers 0
abbrev pub set_up_answer : ℕ → ℕ → ℕ → Result ℕ SpaceFault
set_up_answer cores frames nodes = answer (set_up_check cores frames nodes) 0

-- an accepted set up leaves nothing from before
abbrev pub set_up_after : ℕ → ℕ → ℕ → ℕ → State → State
set_up_after cores frames nodes epoch st = after (set_up_check cores frames nodes) (set_up_state cores frames nodes epoch) st

-- map answers 0
abbrev pub map_answer : ℕ → ℕ → ℕ → ℕ → State → Result ℕ SpaceFault
map_answer core label first count st = answer (map_check core label first count st.cores st.tree) 0

-- the tree is filled with the label; cores, epoch and frames stay
abbrev pub map_after : ℕ → ℕ → ℕ → ℕ → State → State
map_after core label first count st = after (map_check core label first count st.cores st.tree) (with_tree (fill first (first + count) (fresh label) st.tree) st) st

-- look answers what the flat map has of the page
abbrev pub look_answer_of : ℕ → State → Result ℕ SpaceFault
look_answer_of page st = answer (look_check page) (look_at page (flat st))
