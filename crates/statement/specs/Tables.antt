-- Refusals in a table by the numbers of their faults.
use Rattle.std.specs.Prelude.{◌≡◌, ℕ, ◌+◌, List, IfSome, Some, None, Option, ◌≢◌}
use Rattle.std.specs.BTreeMap.{BTreeMap}
use Rattle.std.specs.BTreeMap.{IsOrdered, get}
use Rattle.model.specs.declared.fault.Fault.{Fault}
use Rattle.model.specs.Faults.{number_of}
use Rattle.script.specs.declared.answer.Reply.{Reply}
use Rattle.statement.specs.declared.summary.Refusals.{Refusals}
use Rattle.statement.specs.Counts.{refused_as}
use Rattle.std.specs.Ordering.{nat_cmp}

-- how many refusals an entry counts; none if there is no entry
abbrev pub times_in : Option Refusals → ℕ
times_in None = 0
times_in (Some e) = e.count

-- the entry of a number
abbrev pub entry_at : BTreeMap ℕ Refusals → ℕ → Option Refusals
entry_at m n = get nat_cmp m n

-- one refusal more under the number of the fault, and nothing else
pub record OneMore (m : BTreeMap ℕ Refusals) (f : Fault) (n : BTreeMap ℕ Refusals) : Type 0 where
  pub ordered : IsOrdered nat_cmp n
  pub here : entry_at n (number_of f) ≡ Some (record { fault = f; count = times_in (entry_at m (number_of f)) + 1 })
  pub other : (q : ℕ) → (q ≢ number_of f) → entry_at n q ≡ entry_at m q

-- each number has as many refusals as the replies, with a fault of that number
pub record Tabled (rs : List Reply) (m : BTreeMap ℕ Refusals) : Type 0 where
  pub ordered : IsOrdered nat_cmp m
  pub counts : (n : ℕ) → times_in (entry_at m n) ≡ refused_as n rs
  pub alike : (n : ℕ) → IfSome (entry_at m n) (λ e. number_of e.fault ≡ n)
