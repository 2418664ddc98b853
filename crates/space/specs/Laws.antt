-- What a caller of the space learns, in the words of the flat page map.
use Rattle.std.specs.Prelude.{◌≡◌, ℕ, ◌+◌, ◌<◌, Ok, Err, Result}
use Rattle.model.specs.declared.fault.SpaceFault.{SpaceFault}
use Rattle.model.specs.Flat.{all_vacant, map_range}
use Rattle.model.specs.Sizes.{page_count}
use Rattle.model.specs.Pages.{fresh}
use Rattle.counter.specs.declared.counter.Counter.{Ghosts}
use Rattle.counter.specs.declared.kind.Nodes.{Nodes}
use Rattle.counter.specs.Meaning.{Meaning, begun, given}
use Rattle.tree.specs.Soundness.{left}
use Rattle.tree.specs.Need.{need}
use Rattle.tree.specs.Holders.{Tallied, Aside, Follows}
use Rattle.tree.specs.Fill.{told}
use Rattle.space.specs.declared.space.Space.{Space}
use Rattle.space.specs.States.{State, flat}
use Rattle.space.specs.View.{state}

-- an accepted set up: every page is vacant; the counter begins anew, with the root held once
pub record SetUp (cores epoch : ℕ) (m : Meaning) (new : State) : Type 0 where
  pub vacant : (q : ℕ) → q < page_count → flat new q ≡ all_vacant q
  pub nodes : m ≡ given 1 1 (begun cores epoch)

-- an accepted map: exactly the range is mapped with the label; as many nodes leave the pool as the map needs;
-- the counter has the holders of every node, and was told of them in walk order
pub record Maps {N : Type 0} {C : Ghosts N Nodes} (core label first count : ℕ) (old new : Space N C) : Type 0 where
  pub pages : (q : ℕ) → q < page_count → flat (state new) q ≡ map_range first count label (flat (state old)) q
  pub nodes : left new.tree + need old.tree.slots first (first + count) ≡ left old.tree
  pub held : Tallied (C.meaning new.nodes) new.tree
  pub aside : Aside (C.meaning old.nodes) (C.meaning new.nodes)
  pub told : Follows C.steps (told core first (first + count) (fresh label) old.tree) old.nodes new.nodes

-- P of an accepted call; a refused one leaves the whole space as it was
abbrev pub Accepted : {A : Type 0} → Result ℕ SpaceFault → Type 0 → A → A → Type 0
Accepted (Ok n) P old new = P
Accepted (Err e) P old new = new ≡ old
