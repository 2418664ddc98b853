-- A slot folded: no number of holders changes, and the tables stay ready.
use Rattle.std.proofs.Common.{◌≡◌, ℕ, zero, suc, ◌<◌, ◌≤◌, true, false, ◌≢◌, length, get_or, set, ℤ, pos, ◌+ℤ◌, nat_abs, is_some, Some, None, Option, sym, refl, ap, ◌∙◌, ⊎_elim, arith, length-set, get_or-set_other, get_or-set_same}
use borrow.Author.Differences.{ints}
use Rattle.std.proofs.lemmas.Bool.{cases_eq, both_ways, cond_both}
use Rattle.ledger.specs.declared.slot.Delta.{Delta}
use Rattle.ledger.specs.declared.record.Record.{Record}
use Rattle.ledger.specs.Slots.{place, object_in, change_in, part, sum_of}
use Rattle.ledger.specs.Records.{blank, after_fold, settled, disturbed_by, enlisted, with_shared, is_zero}
use Rattle.ledger.specs.States.{State, Ready, record_at, slot_at, total, put_record, put_slot, reported, fold_slot, fold_first}
use Rattle.ledger.proofs.Sums.{sum_set, sum_small, each_set, part_same, part_other, part_none}

pub place_fits : (core i n : ℕ) → core < 16 → i < 16 → n ≡ 256 → place core i < n
place_fits core i n h k e = omega arith

-- the range of the shared count follows from the holders and from the slots
pub shared_small : (st : State) → Ready st → (o : ℕ) → nat_abs (record_at st o).shared ≤ 91136
shared_small st ready o = omega (arith, ints, sum_small o st.rows ready.within, ready.few o, ready.wide)

-- a slot is empty, or what it has is reported
by_slot : (P : State → Type 0) (core k : ℕ) (st : State) (s : Option Delta) → (s ≡ None → P st) →
    ((d : Delta) → s ≡ Some d → P (reported core k (Some d) st)) → P (reported core k s st)
by_slot P core k st None none some = none refl
by_slot P core k st (Some d) none some = some d refl

pub fold_cases : (P : State → Type 0) (core i : ℕ) (st : State) → (slot_at st (place core i) ≡ None → P st) →
    ((d : Delta) → slot_at st (place core i) ≡ Some d → P (reported core (place core i) (Some d) st)) → P (fold_slot core i st)
unfolding fold_slot
fold_cases P core i st none some = by_slot P core (place core i) st (slot_at st (place core i)) none some

-- the three ways of a record whose shared count has just changed
pub settled_cases : (P : Record → Type 0) (core epoch : ℕ) (r : Record) → (is_some r.list ≡ true → P (disturbed_by r)) →
    (is_some r.list ≡ false → is_zero r.shared ≡ true → P (enlisted core epoch r)) → (is_some r.list ≡ false → is_zero r.shared ≡ false → P r) →
    P (settled core epoch r)
settled_cases P core epoch r listed empty other =
    cond_both (is_some r.list) (disturbed_by r) _ P listed
    (λ n. cond_both (is_zero r.shared) (enlisted core epoch r) r P (λ z. empty n z) (λ z. other n z))

pub after_fold_shared : (core epoch : ℕ) (d : ℤ) (r : Record) → (after_fold core epoch d r).shared ≡ r.shared +ℤ d
after_fold_shared core epoch d r =
    settled_cases (λ q. q.shared ≡ r.shared +ℤ d) core epoch (with_shared (r.shared +ℤ d) r) (λ _. refl) (λ _ _. refl) (λ _ _. refl)

-- a slot emptied into a record
pub total_moved : (o k : ℕ) (d : Delta) (r : Record) (st : State) → k < length st.rows → d.object < length st.records →
    slot_at st k ≡ Some d → r.shared ≡ (record_at st d.object).shared +ℤ d.change →
    total (put_slot k None (put_record d.object r st)) o ≡ total st o
total_moved o k d r st lk lj is er =
    let j = d.object in
    let sums : sum_of (part o) (set st.rows k None) +ℤ part o (slot_at st k) ≡ sum_of (part o) st.rows +ℤ part o None = sum_set (part o) st.rows k None None lk in
    let pn = part_none o in
    ⊎_elim
    (λ (e : o ≡ j).
    let ps : part o (slot_at st k) ≡ d.change = ap (part o) is ∙ part_same o (Some d) (sym e) in
    let gs : (get_or (set st.records j r) o blank).shared ≡ r.shared = rw e (ap (λ (x : Record). x.shared) (get_or-set_same st.records j r blank lj)) in
    let os : (record_at st o).shared ≡ (record_at st j).shared = rw e refl in
    omega (arith, ints))
    (λ (ne : o ≢ j).
    let ps : part o (slot_at st k) ≡ pos 0 = ap (part o) is ∙ part_other o (Some d) (λ e. ne (sym e)) in
    let gs : (get_or (set st.records j r) o blank).shared ≡ (record_at st o).shared = ap (λ (x : Record). x.shared) (get_or-set_other st.records j o r blank ne) in
    omega (arith, ints))
    (cases_eq o j)

-- the object of a slot has a record
pub object_known : (k : ℕ) (d : Delta) (st : State) → Ready st → slot_at st k ≡ Some d → d.object < length st.records
object_known k d st ready is = let le = ready.known k in omega (arith, ready.room, ap object_in (sym is))

pub object_named : (k : ℕ) (d : Delta) (st : State) → Ready st → slot_at st k ≡ Some d → 1 ≤ d.object
object_named k d st ready is = let le = ready.named k (ap is_some is) in omega (arith, ap object_in (sym is))

-- folding a slot changes no number of holders
pub reported_total : (core k : ℕ) (st : State) (d : Delta) → k < length st.rows → Ready st → slot_at st k ≡ Some d → (o : ℕ) →
    total (reported core k (Some d) st) o ≡ total st o
reported_total core k st d lk ready is o =
    total_moved o k d _ st lk (object_known k d st ready is) is (after_fold_shared core st.clock.epoch d.change (record_at st d.object))

pub fold_total : (core i : ℕ) (st : State) → core < 16 → i < 16 → Ready st → (o : ℕ) → total (fold_slot core i st) o ≡ total st o
fold_total core i st hc hi ready o =
    fold_cases (λ t. total t o ≡ total st o) core i st (λ _. refl)
    (λ d is. reported_total core (place core i) st d (place_fits core i _ hc hi ready.wide) ready is o)

moved_ready : (k j : ℕ) (r : Record) (st : State) → Ready st → ((o : ℕ) → total (put_slot k None (put_record j r st)) o ≡ total st o) →
    Ready (put_slot k None (put_record j r st))
moved_ready k j r st ready same = record {
  room = length-set st.records j r ∙ ready.room;
  wide = length-set st.rows k None ∙ ready.wide;
  within = each_set (λ _ s. nat_abs (change_in s) ≤ 100) st.rows k None None ready.within (omega arith);
  named = each_set (λ _ s. is_some s ≡ true → 1 ≤ object_in s) st.rows k None None ready.named (λ e. absurd (both_ways false refl e));
  known = each_set (λ _ s. object_in s ≤ 1024) st.rows k None None ready.known (omega arith);
  few = λ o. rw (same o) (ready.few o);
  cores = ready.cores;
}

pub reported_ready : (core k : ℕ) (st : State) (d : Delta) → k < length st.rows → Ready st → slot_at st k ≡ Some d → Ready (reported core k (Some d) st)
reported_ready core k st d lk ready is = moved_ready k d.object _ st ready (reported_total core k st d lk ready is)

pub fold_ready : (core i : ℕ) (st : State) → core < 16 → i < 16 → Ready st → Ready (fold_slot core i st)
fold_ready core i st hc hi ready =
    fold_cases Ready core i st (λ _. ready) (λ d is. reported_ready core (place core i) st d (place_fits core i _ hc hi ready.wide) ready is)

-- the clock stays
pub fold_clock : (core i : ℕ) (st : State) → (fold_slot core i st).clock ≡ st.clock
fold_clock core i st = fold_cases (λ t. t.clock ≡ st.clock) core i st (λ _. refl) (λ d is. refl)

-- a folded slot is empty
pub fold_empties : (core i : ℕ) (st : State) → place core i < length st.rows → slot_at (fold_slot core i st) (place core i) ≡ None
fold_empties core i st lt =
    fold_cases (λ t. slot_at t (place core i) ≡ None) core i st (λ e. e) (λ d is. get_or-set_same st.rows (place core i) None None lt)

-- The first slots of a core, in order

-- what folding one slot keeps, folding several keeps
pub first_keeps : (P : State → Type 0) (core i : ℕ) (st : State) → ((j : ℕ) (t : State) → j < i → P t → P (fold_slot core j t)) → P st → P (fold_first core i st)
unfolding fold_first
first_keeps P core zero st step p = p
first_keeps P core (suc i) st step p = step i (fold_first core i st) (omega arith) (first_keeps P core i st (λ j t lt. step j t (omega arith)) p)

pub first_ready : (core i : ℕ) (st : State) → core < 16 → i ≤ 16 → Ready st → Ready (fold_first core i st)
first_ready core i st hc hi ready = first_keeps Ready core i st (λ j t lt. fold_ready core j t hc (omega arith)) ready

pub first_clock : (core i : ℕ) (st : State) → (fold_first core i st).clock ≡ st.clock
first_clock core i st = first_keeps (λ t. t.clock ≡ st.clock) core i st (λ j t lt e. fold_clock core j t ∙ e) refl
