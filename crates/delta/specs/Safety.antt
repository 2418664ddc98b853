-- What the tables of the delta cache mean, and why dead is said only of an object that nobody holds.
use Rattle.std.specs.Prelude.{◌≡◌, ℕ, ◌+◌, ◌/◌, ◌<◌, ◌≤◌, Bool, true, cond, not, ◌&&◌, ◌||◌, pos, is_some, Some, None, Option, ◌==◌, nat_le, unsigned_abs}
use Rattle.model.specs.CoreSets.{member}
use Rattle.counter.specs.declared.epoch.Clock.{Clock}
use Rattle.counter.specs.Meaning.{Meaning}
use Rattle.counter.specs.Clocks.{clock_meaning}
use Rattle.ledger.specs.declared.record.Record.{Record}
use Rattle.ledger.specs.Slots.{object_in}
use Rattle.ledger.specs.Records.{is_zero, firm}
use Rattle.ledger.specs.States.{State, Ready, record_at, slot_at, total}

-- an object is in use while it is on a list or its shared count is not 0
abbrev pub used : Record → Bool
used r = is_some r.list || not (is_zero r.shared)

-- its holders are the shared count and the changes in all slots
abbrev pub holders_in : State → ℕ → Option ℕ
holders_in st o = cond (used (record_at st o)) (Some (unsigned_abs (total st o))) None

abbrev pub delta_meaning : State → Meaning
delta_meaning st = clock_meaning st.clock (holders_in st)

-- slot k has object o; it is a slot of core k / 16
abbrev pub Has : State → ℕ → ℕ → Type 0
Has st k o = object_in (slot_at st k) ≡ o

-- on a list, and neither disturbed nor revived since
abbrev pub pending : Record → Bool
pending r = is_some r.list && firm r

-- a core has surely folded since the listing: two epochs have passed, or one has and the core has folded in this one
unfoldable pub folded_since : Clock → Record → ℕ → Bool
folded_since k r c = nat_le (r.listed + 2) k.epoch || (r.listed + 1 == k.epoch && member k.folded.bits c)

-- nothing is shared; and if only cores that have folded since the listing could have the object in a slot, none has
abbrev pub Quiet : State → Record → ℕ → Type 0
Quiet st r o =
    (r.shared ≡ pos 0)
    × (((k : ℕ) → Has st k o → folded_since st.clock r (k / 16) ≡ true) → (k : ℕ) → Has st k o → ⊥)

-- what the tables keep, for every order of operations
pub record Sound (st : State) : Type 0 where
  pub ready : Ready st
  -- an object that is free is in no slot
  pub held : (k o : ℕ) → 1 ≤ o → Has st k o → used (record_at st o) ≡ true
  -- nobody is counted below 0
  pub least : (o : ℕ) → total st o ≡ pos (unsigned_abs (total st o))
  pub quiet : (o : ℕ) → 1 ≤ o → pending (record_at st o) ≡ true → Quiet st (record_at st o) o
  -- slots in use belong to cores in service
  pub served : (k o : ℕ) → 1 ≤ o → Has st k o → k / 16 < st.clock.cores
  -- a core that has closed has folded
  pub after : (c : ℕ) → member st.clock.closed.bits c ≡ true → member st.clock.folded.bits c ≡ true
