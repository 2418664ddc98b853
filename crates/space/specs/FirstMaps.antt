-- What the first map in a new space needs: the smallest runs of the rules.
use Rattle.std.specs.Prelude.{◌≡◌, ℕ, ◌+◌, ◌<◌, Ok}
use Rattle.tree.specs.Need.{need}
use Rattle.space.specs.States.{State, set_up_state}
use Rattle.space.specs.Calls.{map_answer}

-- the map is accepted, and makes so many nodes: of an accepted map the law `Maps` says that what it needs leaves the pool
pub record Makes (nodes core label first count : ℕ) (st : State) : Type 0 where
  pub accepted : map_answer core label first count st ≡ Ok 0
  pub needs : need st.tree.slots first (first + count) ≡ nodes

-- in every new space with nodes enough, for every core in service and every label
abbrev pub FirstMap : ℕ → ℕ → ℕ → Type 0
FirstMap made first count =
    (cores frames nodes epoch core label : ℕ) → core < cores → 0 < label → made < nodes → Makes made core label first count (set_up_state cores frames nodes epoch)

-- 64 pages from 64 make one node, 63 from 64 two, and all pages none
pub record FirstMaps : Type 0 where
  pub block : FirstMap 1 64 64
  pub part : FirstMap 2 64 63
  pub all : FirstMap 0 0 262144
