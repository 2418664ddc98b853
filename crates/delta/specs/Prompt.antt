-- Every step keeps the objects on time.
use Rattle.std.specs.Prelude.{◌≡◌, ℕ, ◌+◌, ◌/◌, ◌%◌, ◌<◌, ◌≤◌, Bool, true, false, not, ◌≢◌, length, ℤ, pos, ◌+ℤ◌, is_some, Some, None, nat_le, refl}
use Rattle.std.proofs.Common.{sym, ◌∙◌, ap, subst, ⊎_elim, arith}
use Rattle.std.proofs.lemmas.Int.{ints}
use Rattle.std.proofs.lemmas.Bool.{eqb-true, le-leb, and_parts, and_from, or_cases, not-true, cond_both, cases_eq, cases_lt, both_ways}
use Rattle.model.specs.CoreSets.{member}
use Rattle.model.proofs.Sets.{none_member, all_each}
use Rattle.counter.specs.declared.epoch.Clock.{Clock}
use Rattle.counter.specs.Clocks.{clock_folds, clock_marked, clock_turned, last_to_close}
use Rattle.ledger.specs.declared.slot.Move.{Move}
use Rattle.ledger.specs.declared.record.Record.{Record}
use Rattle.ledger.specs.Slots.{place, object_in}
use Rattle.ledger.specs.Records.{blank, with_shared, disturbed_by, enlisted, unlisted, spared, after_fold, is_zero, lists, on_list_of, firm, after_judge}
use Rattle.ledger.specs.States.{State, Ready, record_at, slot_at, total, put_record, put_clock, fold_slot, fold_first, make_room, moved, judge_at, fold_all}
use Rattle.ledger.proofs.Sums.{each_set, sum_none}
use Rattle.ledger.proofs.Folding.{fold_cases, fold_clock, first_keeps, first_clock}
use Rattle.ledger.proofs.Rooms.{room_cases}
use Rattle.delta.specs.Safety.{used, holders_in, Has, Sound}
use Rattle.delta.specs.Promptness.{Timed, Seen, Due}
use Rattle.delta.specs.Facts.{on_some, some_on, zero_is, judge_cases}
use Rattle.delta.specs.Safe.{has_cleared, has_before, record_here, record_other, first_empties, not_of, joined_other}
use Rattle.delta.specs.Means.{unheld_parts}

-- One record: when it was listed, and which cores need not judge it again

abbrev pub InTime : (ℕ → Bool) → Clock → Record → Type 0
InTime judged k r = Timed k r × ((c : ℕ) → judged c ≡ true → Seen k c r)

enlisted_timed : (core : ℕ) (k : Clock) (r : Record) → core < k.cores → Timed k (enlisted core k.epoch r)
enlisted_timed core k r lc = record {
  past = λ _. omega arith;
  soon = λ _. omega arith;
  served = λ c e. omega (arith, eqb-true core c e);
  shut = λ c e f. omega arith;
}

pub unlisted_timed : (k : Clock) (r : Record) → is_some r.list ≡ false → Timed k r
unlisted_timed k r none = record {
  past = λ e. absurd (both_ways _ none e);
  soon = λ e. absurd (both_ways _ none e);
  served = λ c e. absurd (both_ways _ none (on_some r.list c e));
  shut = λ c e. absurd (both_ways _ none (on_some r.list c e));
}

pub unlisted_seen : (k : Clock) (c : ℕ) (r : Record) → is_some r.list ≡ false → Seen k c r
unlisted_seen k c r none e = absurd (both_ways _ none (on_some r.list c e))

pub unlisted_intime : (judged : ℕ → Bool) (k : Clock) (r : Record) → is_some r.list ≡ false → InTime judged k r
unlisted_intime judged k r none = (unlisted_timed k r none, λ c _. unlisted_seen k c r none)

same_timed : (k : Clock) (r q : Record) → r.list ≡ q.list → r.listed ≡ q.listed → Timed k r → Timed k q
same_timed k r q e f t = record {
  past = λ h. subst (λ (n : ℕ). n ≤ k.epoch) f (t.past (ap is_some e ∙ h));
  soon = λ h. subst (λ (n : ℕ). k.epoch ≤ n + 2) f (t.soon (ap is_some e ∙ h));
  served = λ c h. t.served c (ap (λ l. lists l c) e ∙ h);
  shut = λ c h g. subst (λ (n : ℕ). k.epoch < n + 2) f (t.shut c (ap (λ l. lists l c) e ∙ h) g);
}

pub same_intime : (judged : ℕ → Bool) (k : Clock) (r q : Record) → r.list ≡ q.list → r.listed ≡ q.listed → InTime judged k r → InTime judged k q
same_intime judged k r q e f t =
    (same_timed k r q e f t.0, λ c j h. subst (λ (n : ℕ). k.epoch < n + 2) f (t.1 c j (ap (λ l. lists l c) e ∙ h)))

fold_intime : (judged : ℕ → Bool) (core : ℕ) (k : Clock) (d : ℤ) (r : Record) → core < k.cores → InTime judged k r → InTime judged k (after_fold core k.epoch d r)
fold_intime judged core k d r lc t =
    let q = with_shared (r.shared +ℤ d) r in
    cond_both (is_some r.list) (disturbed_by q) _ (InTime judged k)
    (λ _. same_intime judged k r (disturbed_by q) refl refl t)
    (λ _. cond_both (is_zero (r.shared +ℤ d)) (enlisted core k.epoch q) q (InTime judged k)
    (λ _. (enlisted_timed core k q lc, λ c _ _. omega arith))
    (λ _. same_intime judged k r q refl refl t))

judge_intime : (judged : ℕ → Bool) (core : ℕ) (k : Clock) (r : Record) → InTime judged k r → InTime judged k (after_judge core k.epoch r)
judge_intime judged core k r t =
    judge_cases (InTime judged k) core k.epoch r
    (λ _. t)
    (λ _ _. unlisted_intime judged k (spared (unlisted r)) refl)
    (λ d _ _. (enlisted_timed core k r (t.0.served core (and_parts (on_list_of core r) (nat_le (r.listed + 2) k.epoch) d).0), λ c _ _. omega arith))
    (λ _ _ _. unlisted_intime judged k (unlisted r) refl)

-- what a core has judged it need not judge again
judged_seen : (core : ℕ) (k : Clock) (r : Record) → Seen k core (after_judge core k.epoch r)
judged_seen core k r =
    judge_cases (Seen k core) core k.epoch r
    (λ d on. ⊎_elim (λ l. l)
    (λ (le : r.listed + 2 ≤ k.epoch). absurd (both_ways _ d (and_from (on_list_of core r) (nat_le (r.listed + 2) k.epoch) on (le-leb (r.listed + 2) k.epoch le))))
    (cases_lt k.epoch (r.listed + 2)))
    (λ _ _. unlisted_seen k core (spared (unlisted r)) refl)
    (λ _ _ _ _. omega arith)
    (λ _ _ _. unlisted_seen k core (unlisted r) refl)

-- The tables: each record in time

abbrev pub StateInTime : (ℕ → Bool) → State → ℕ → Type 0
StateInTime judged st o = InTime judged st.clock (record_at st o)

-- a record is written
pub write_intime : (judged : ℕ → Bool) (x : ℕ) (r : Record) (st : State) (o : ℕ) → (InTime judged st.clock (record_at st x) → InTime judged st.clock r) →
    StateInTime judged st o → StateInTime judged (put_record x r st) o
write_intime judged x r st o f t =
    each_set (λ i q. InTime judged st.clock (record_at st i) → InTime judged st.clock q) st.records x r blank (λ i h. h) f o t

pub slot_intime : (judged : ℕ → Bool) (core i : ℕ) (st : State) (o : ℕ) → core < st.clock.cores → StateInTime judged st o → StateInTime judged (fold_slot core i st) o
slot_intime judged core i st o lc t =
    fold_cases (λ u. StateInTime judged u o) core i st (λ _. t)
    (λ d is. write_intime judged d.object _ st o (fold_intime judged core st.clock d.change (record_at st d.object) lc) t)

pub first_intime : (judged : ℕ → Bool) (core i : ℕ) (st : State) (o : ℕ) → core < st.clock.cores → StateInTime judged st o → StateInTime judged (fold_first core i st) o
first_intime judged core i st o lc t =
    (first_keeps (λ u. (core < u.clock.cores) × StateInTime judged u o) core i st
    (λ j u lt p. (subst (λ (k : Clock). core < k.cores) (sym (fold_clock core j u)) p.0, slot_intime judged core j u o p.0 p.1)) (lc, t)).1

pub room_intime : (judged : ℕ → Bool) (way : Move) (core x : ℕ) (st : State) (o : ℕ) → core < st.clock.cores → StateInTime judged st o → StateInTime judged (make_room way core x st) o
room_intime judged way core x st o lc t =
    room_cases (λ u. StateInTime judged u o) way core x st (λ _. slot_intime judged core (x % 16) st o lc t) (λ _. t)

-- a core has folded
pub mark_intime : (judged : ℕ → Bool) (core : ℕ) (st : State) (o : ℕ) → core < st.clock.cores → StateInTime judged st o → StateInTime judged (fold_all core st) o
mark_intime judged core st o lc t =
    let u = fold_first core 16 st in
    let p : InTime judged st.clock (record_at u o) = subst (λ (k : Clock). InTime judged k (record_at u o)) (first_clock core 16 st) (first_intime judged core 16 st o lc t) in
    (record { past = p.0.past; soon = p.0.soon; served = p.0.served; shut = p.0.shut }, p.1)

pub judge_state : (judged : ℕ → Bool) (core x : ℕ) (st : State) (o : ℕ) → StateInTime judged st o → StateInTime judged (judge_at core x st) o
judge_state judged core x st o t = write_intime judged x _ st o (judge_intime judged core st.clock (record_at st x)) t

pub judge_sees : (core o : ℕ) (st : State) → o < length st.records → Seen st.clock core (record_at (judge_at core o st) o)
judge_sees core o st lt =
    subst (Seen st.clock core) (sym (record_here o (after_judge core st.clock.epoch (record_at st o)) st lt)) (judged_seen core st.clock (record_at st o))

-- a core closes that need not judge the object again
pub closed_timed : (core : ℕ) (k : Clock) (r : Record) → Seen k core r → Timed k r → Timed (clock_marked core k) r
closed_timed core k r seen t = record {
  past = t.past;
  soon = t.soon;
  served = t.served;
  shut = λ c on m. ⊎_elim
      (λ (e : c ≡ core). seen (subst (λ (x : ℕ). on_list_of x r ≡ true) e on))
      (λ (ne : c ≢ core). t.shut c on (sym (joined_other k.closed.bits core c ne) ∙ m))
      (cases_eq c core);
}

-- the last core closes
pub turned_timed : (core : ℕ) (k : Clock) (r : Record) → last_to_close core k ≡ true → Timed (clock_marked core k) r → Timed (clock_turned k) r
turned_timed core k r last t = record {
  past = λ e. omega (arith, t.past e);
  soon = λ e. some_on r.list e _ (λ c on. omega (arith, t.shut c on (all_each k.cores _ last c (t.served c on))));
  served = t.served;
  shut = λ c on m. absurd (both_ways _ (none_member c) m);
}

-- Objects that nobody holds

-- no slot has it: nothing is shared
empty_shared : (st : State) (o : ℕ) → total st o ≡ pos 0 → ((k : ℕ) → Has st k o → ⊥) → (record_at st o).shared ≡ pos 0
empty_shared st o z empty = omega (arith, ints, sum_none o st.rows empty, z)

-- and it is on a list
empty_listed : (st : State) (o : ℕ) → holders_in st o ≡ Some 0 → ((k : ℕ) → Has st k o → ⊥) → is_some (record_at st o).list ≡ true
empty_listed st o z empty =
    let r = record_at st o in
    let p = unheld_parts st o z in
    ⊎_elim (λ e. e) (λ e. absurd (both_ways _ (not-true (is_zero r.shared) e) (zero_is r.shared (empty_shared st o p.1 empty))))
    (or_cases (is_some r.list) (not (is_zero r.shared)) p.0)

-- the bound
pub due_bound : (st : State) (o e : ℕ) → Timed st.clock (record_at st o) → holders_in st o ≡ Some 0 → Due st o e → st.clock.epoch ≤ e + 5
due_bound st o e t z d =
    ⊎_elim
    (λ (lt : st.clock.epoch < e + 2). omega arith)
    (λ (le : e + 2 ≤ st.clock.epoch). omega (arith, d.early le, t.soon (empty_listed st o z (d.gone le))))
    (cases_lt st.clock.epoch (e + 2))

-- it begins in the epoch of the loss
pub due_new : (st : State) (o e : ℕ) → st.clock.epoch ≤ e → Due st o e
due_new st o e le = record {
  next = λ f. absurd (omega arith);
  gone = λ f. absurd (omega arith);
  early = λ f. absurd (omega arith);
  first = λ f. absurd (omega arith);
}

-- a slot is folded
pub due_fold : (core i : ℕ) (st : State) (o e : ℕ) → 1 ≤ o → Due st o e → Due (fold_slot core i st) o e
due_fold core i st o e some d =
    fold_cases (λ u. Due u o e) core i st (λ _. d)
    (λ dl is.
    let k = place core i in
    let j = dl.object in
    let r = after_fold core st.clock.epoch dl.change (record_at st j) in
    let back = has_cleared k (put_record j r st) o some in
    let same : e + 2 ≤ st.clock.epoch → record_at (put_record j r st) o ≡ record_at st o =
    λ le. record_other j o r st (λ (q : o ≡ j). d.gone le k (ap object_in is ∙ sym q)) in
    record {
      next = λ f n h. d.next f n (back n h);
      gone = λ le n h. d.gone le n (back n h);
      early = λ le. rw (same le) (d.early le);
      first = λ le. rw (same le) (d.first le);
    })

pub due_room : (way : Move) (core x : ℕ) (st : State) (o e : ℕ) → 1 ≤ o → Due st o e → Due (make_room way core x st) o e
due_room way core x st o e some d = room_cases (λ u. Due u o e) way core x st (λ _. due_fold core (x % 16) st o e some d) (λ _. d)

-- a core has folded, once its slots are empty
due_marked : (core : ℕ) (st : State) (o e : ℕ) → 1 ≤ o → ((j : ℕ) → j < 16 → slot_at st (place core j) ≡ None) → Due st o e → Due (put_clock (clock_folds core st.clock) st) o e
due_marked core st o e some empty d = record {
  next = λ f k h. joined_other st.clock.folded.bits core (k / 16) (not_of core o k st empty some h) ∙ d.next f k h;
  gone = d.gone;
  early = d.early;
  first = d.first;
}

pub due_all : (core : ℕ) (st : State) (o e : ℕ) → core < 16 → 1 ≤ o → Ready st → Due st o e → Due (fold_all core st) o e
due_all core st o e hc some ready d =
    subst (λ (k : Clock). Due (put_clock (clock_folds core k) (fold_first core 16 st)) o e) (first_clock core 16 st)
    (due_marked core (fold_first core 16 st) o e some (λ j lt. first_empties core 16 j st hc (omega arith) lt ready)
    (first_keeps (λ u. Due u o e) core 16 st (λ j u lt. due_fold core j u o e some) d))

-- a change of another object moves
pub due_moved : (way : Move) (core x : ℕ) (st : State) (o e : ℕ) → o ≢ x → Due st o e → Due (moved way core x st) o e
due_moved way core x st o e ne d = record {
  next = λ f k h. d.next f k (has_before way core x st o ne k h);
  gone = λ le k h. d.gone le k (has_before way core x st o ne k h);
  early = d.early;
  first = d.first;
}

-- the record of another object is written
pub due_write : (x : ℕ) (r : Record) (st : State) (o e : ℕ) → o ≢ x → Due st o e → Due (put_record x r st) o e
due_write x r st o e ne d =
    let same = record_other x o r st ne in
    record { next = d.next; gone = d.gone; early = λ le. rw same (d.early le); first = λ le. rw same (d.first le) }

-- a judgement of the object that leaves it in use
judge_late : (core epoch e : ℕ) (r : Record) → is_zero r.shared ≡ true → epoch ≤ r.listed + 2 → r.listed ≤ e + 3 → (firm r ≡ false → r.listed ≤ e + 1) →
    used (after_judge core epoch r) ≡ true → ((after_judge core epoch r).listed ≤ e + 3) × (firm (after_judge core epoch r) ≡ false → (after_judge core epoch r).listed ≤ e + 1)
judge_late core epoch e r z soon early first =
    judge_cases (λ q. used q ≡ true → (q.listed ≤ e + 3) × (firm q ≡ false → q.listed ≤ e + 1)) core epoch r
    (λ _ u. (early, first))
    (λ _ nz u. absurd (both_ways _ nz z))
    (λ _ _ f u. (omega (arith, first f), λ g. absurd (both_ways true g refl)))
    (λ _ _ f u. absurd (both_ways _ (gone_free r z) u))
  where
    gone_free : (r : Record) → is_zero r.shared ≡ true → used (unlisted r) ≡ false
    gone_free r z = rw z refl

pub due_judge : (core x : ℕ) (st : State) (o e : ℕ) → x < length st.records → Timed st.clock (record_at st o) → holders_in st o ≡ Some 0 →
    used (record_at (judge_at core x st) o) ≡ true → Due st o e → Due (judge_at core x st) o e
due_judge core x st o e lt t z u d =
    ⊎_elim
    (λ (is : o ≡ x).
    let r = record_at st o in
    let a = after_judge core st.clock.epoch (record_at st x) in
    let here : record_at (put_record x a st) o ≡ after_judge core st.clock.epoch r =
    ap (record_at (put_record x a st)) is ∙ record_here x a st lt ∙ ap (λ (y : ℕ). after_judge core st.clock.epoch (record_at st y)) (sym is) in
    let late : e + 2 ≤ st.clock.epoch → ((after_judge core st.clock.epoch r).listed ≤ e + 3) × (firm (after_judge core st.clock.epoch r) ≡ false → (after_judge core st.clock.epoch r).listed ≤ e + 1) =
    λ le. judge_late core st.clock.epoch e r (zero_is r.shared (empty_shared st o (unheld_parts st o z).1 (d.gone le)))
    (t.soon (empty_listed st o z (d.gone le))) (d.early le) (d.first le) (sym (ap used here) ∙ u) in
    record { next = d.next; gone = d.gone; early = λ le. rw here (late le).0; first = λ le. rw here (late le).1 })
    (λ (ne : o ≢ x). due_write x _ st o e ne d)
    (cases_eq o x)

-- a core closes
pub due_closed : (core : ℕ) (st : State) (o e : ℕ) → Due st o e → Due (put_clock (clock_marked core st.clock) st) o e
due_closed core st o e d = record { next = d.next; gone = d.gone; early = d.early; first = d.first }

-- the epoch grows, once every core in service has folded
pub due_turned : (st : State) (o e : ℕ) → 1 ≤ o → Sound st → ((c : ℕ) → c < st.clock.cores → member st.clock.folded.bits c ≡ true) →
    Timed st.clock (record_at st o) → holders_in st o ≡ Some 0 → Due st o e → Due (put_clock (clock_turned st.clock) st) o e
due_turned st o e some sound all t z d =
    let epoch = st.clock.epoch in
    let r = record_at st o in
    let gone : e + 1 ≤ epoch → (k : ℕ) → Has st k o → ⊥ = λ le k h. ⊎_elim
    (λ (is : epoch ≡ e + 1). both_ways _ (d.next is k h) (all (k / 16) (sound.served k o some h)))
    (λ (ne : epoch ≢ e + 1). d.gone (omega arith) k h)
    (cases_eq epoch (e + 1)) in
    let past : e + 1 ≤ epoch → r.listed ≤ epoch = λ le. t.past (empty_listed st o z (gone le)) in
    record {
      next = λ f k h. none_member (k / 16);
      gone = λ le. gone (omega arith);
      early = λ le. ⊎_elim
          (λ (is : epoch ≡ e + 1). omega (arith, past (omega arith)))
          (λ (ne : epoch ≢ e + 1). d.early (omega arith))
          (cases_eq epoch (e + 1));
      first = λ le f. ⊎_elim
          (λ (is : epoch ≡ e + 1). omega (arith, past (omega arith)))
          (λ (ne : epoch ≢ e + 1). d.first (omega arith) f)
          (cases_eq epoch (e + 1));
    }
