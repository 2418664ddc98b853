-- Why an object that nobody holds is found dead in time.
use Rattle.std.specs.Prelude.{◌≡◌, ℕ, ◌+◌, ◌/◌, ◌<◌, ◌≤◌, Bool, true, false, is_some, Some}
use Rattle.model.specs.CoreSets.{member}
use Rattle.counter.specs.declared.epoch.Clock.{Clock}
use Rattle.counter.specs.Operations.{Object}
use Rattle.counter.specs.Timeline.{Timeline}
use Rattle.ledger.specs.declared.record.Record.{Record}
use Rattle.ledger.specs.Records.{on_list_of, firm}
use Rattle.ledger.specs.States.{State, record_at}
use Rattle.delta.specs.Safety.{holders_in, Has}

-- an object on a list is judged two epochs after its listing at the latest, before the listing core closes
pub record Timed (k : Clock) (r : Record) : Type 0 where
  pub past : is_some r.list ≡ true → r.listed ≤ k.epoch
  pub soon : is_some r.list ≡ true → k.epoch ≤ r.listed + 2
  pub served : (c : ℕ) → on_list_of c r ≡ true → c < k.cores
  pub shut : (c : ℕ) → on_list_of c r ≡ true → member k.closed.bits c ≡ true → k.epoch < r.listed + 2

-- a core need not judge the object again in this epoch
abbrev pub Seen : Clock → ℕ → Record → Type 0
Seen k c r = on_list_of c r ≡ true → k.epoch < r.listed + 2

-- an object without holders since epoch e: its changes are reported by the end of e + 1, and it was listed for good in e + 3 at the latest
pub record Due (st : State) (o e : ℕ) : Type 0 where
  pub next : st.clock.epoch ≡ e + 1 → (k : ℕ) → Has st k o → member st.clock.folded.bits (k / 16) ≡ false
  pub gone : e + 2 ≤ st.clock.epoch → (k : ℕ) → Has st k o → ⊥
  pub early : e + 2 ≤ st.clock.epoch → (record_at st o).listed ≤ e + 3
  pub first : e + 2 ≤ st.clock.epoch → firm (record_at st o) ≡ false → (record_at st o).listed ≤ e + 1

-- one object is on time, if it lost its last holder in epoch e and was judged for these cores in this epoch
pub record Punctual (st : State) (o e : ℕ) (judged : ℕ → Bool) : Type 0 where
  pub timed : Timed st.clock (record_at st o)
  pub seen : (c : ℕ) → judged c ≡ true → Seen st.clock c (record_at st o)
  pub due : holders_in st o ≡ Some 0 → Due st o e

-- every object of the kind is
abbrev pub OnTime : ℕ → State → Timeline → Type 0
OnTime capacity st p = (o : ℕ) → Object capacity o → Punctual st o (p.since o) (λ c. p.judged c o)
