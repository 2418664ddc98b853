-- Every step keeps the tables sound.
use Rattle.std.specs.Prelude.{◌≡◌, ℕ, zero, suc, ◌+◌, ◌/◌, ◌%◌, ◌^◌, ◌<◌, ◌≤◌, Bool, true, false, ◌&&◌, ◌||◌, leb, ◌≢◌, ◌⊎◌, length, get_or, replicate, ℤ, pos, ◌+ℤ◌, is_some, Some, None, Option, ◌==◌, bit_or, nat_le, slice_index_or, slice_set, unsigned_abs, refl}
use Rattle.std.proofs.Common.{sym, ◌∙◌, ap, subst, ⊎_elim, arith, length-set, get_or-set_same, get_or-set_other}
use Rattle.std.proofs.lemmas.Int.{ints}
use Rattle.std.proofs.lemmas.List.{length-replicate}
use Rattle.std.proofs.Math.Bool.{or-false}
use Rattle.std.proofs.lemmas.Bool.{eq-eqb, ne_eqb, leb-true, le-leb, and_parts, and_from, or_cases, or_left, or_right, cond_both, cases_eq, cases_lt, both_ways}
use Rattle.model.specs.CoreSets.{member}
use Rattle.model.proofs.Sets.{none_member, join_member, all_each}
use Rattle.counter.specs.declared.epoch.Clock.{Clock}
use Rattle.counter.specs.Clocks.{clock_folds, clock_marked, clock_turned, last_to_close, clock_closes}
use Rattle.ledger.specs.declared.slot.Delta.{Delta}
use Rattle.ledger.specs.declared.slot.Move.{Move}
use Rattle.ledger.specs.declared.record.Record.{Record}
use Rattle.ledger.specs.Slots.{place, object_in, change_in, by_of, part, sum_of}
use Rattle.ledger.specs.Records.{blank, given_to, spared, after_fold, is_zero, is_due, on_list_of, firm, verdict, after_judge, enlisted, unlisted}
use Rattle.ledger.specs.States.{State, Ready, record_at, slot_at, total, put_record, put_slot, put_clock, reported, fold_slot, fold_first, slot_of, make_room, moved, started, fold_all}
use Rattle.counter.proofs.Lists.{get_d_replicate}
use Rattle.ledger.proofs.Sums.{sum_set, sum_replicate, each_set, each_replicate, part_same, part_other, part_none, sum_none}
use Rattle.ledger.proofs.Folding.{place_fits, fold_cases, reported_total, reported_ready, object_known, fold_empties, first_keeps, first_clock, first_ready}
use Rattle.ledger.proofs.Rooms.{Room, room_cases}
use Rattle.delta.specs.Safety.{used, pending, folded_since, Has, Quiet, Sound}
use Rattle.delta.specs.Facts.{is_zero_is, on_some, after_fold_used, after_fold_pending, spared_pending, since_late, since_fresh, judge_cases}

-- Which slots have an object

pub has_cleared : (k : ℕ) (st : State) (o : ℕ) → 1 ≤ o → (i : ℕ) → Has (put_slot k None st) i o → Has st i o
has_cleared k st o some = each_set (λ i s. object_in s ≡ o → Has st i o) st.rows k None None (λ i h. h) (λ e. absurd (omega arith))

has_kept : (k : ℕ) (st : State) (o i : ℕ) → (Has st k o → ⊥) → Has st i o → Has (put_slot k None st) i o
has_kept k st o i none h =
    let apart : i ≢ k = λ e. none (subst (λ (j : ℕ). Has st j o) e h) in
    ap object_in (get_or-set_other st.rows k i None None apart) ∙ h

-- a slot into which a change of x moved has no other object
pub has_before : (way : Move) (core x : ℕ) (st : State) (o : ℕ) → o ≢ x → (i : ℕ) → Has (moved way core x st) i o → Has st i o
has_before way core x st o ne =
    each_set (λ i s. object_in s ≡ o → Has st i o) st.rows (slot_of core x) _ None (λ i h. h) (λ e. absurd (ne (sym e)))

has_after : (way : Move) (core x : ℕ) (st : State) (o i : ℕ) → slot_of core x < length st.rows → 1 ≤ o → Room way x (slot_at st (slot_of core x)) →
    Has st i o → Has (moved way core x st) i o
has_after way core x st o i lp some room h =
    let p = slot_of core x in
    let t : Option Delta = Some (record { object = x; change = change_in (slot_at st p) +ℤ by_of way }) in
    ⊎_elim
    (λ (e : i ≡ p).
    let was : Has st p o = subst (λ (j : ℕ). Has st j o) e h in
    let is : x ≡ o = ⊎_elim (λ f. sym f ∙ was) (λ z. absurd (omega (arith, sym was ∙ ap object_in z))) room.own in
    ap (λ (j : ℕ). object_in (slice_index_or (slice_set st.rows p t) j None)) e ∙ ap object_in (get_or-set_same st.rows p t None lp) ∙ is)
    (λ (apart : i ≢ p). ap object_in (get_or-set_other st.rows p i t None apart) ∙ h)
    (cases_eq i p)

has_here : (way : Move) (core x : ℕ) (st : State) → slot_of core x < length st.rows → Has (moved way core x st) (slot_of core x) x
has_here way core x st lp = ap object_in (get_or-set_same st.rows (slot_of core x) _ None lp)

-- A slot is folded

reported_sound : (core k : ℕ) (st : State) (d : Delta) → k < length st.rows → slot_at st k ≡ Some d → Sound st → Sound (reported core k (Some d) st)
reported_sound core k st d lk is sound =
    let j = d.object in
    let r = after_fold core st.clock.epoch d.change (record_at st j) in
    let lj = object_known k d st sound.ready is in
    let same = reported_total core k st d lk sound.ready is in
    let here : get_or (slice_set st.records j r) j blank ≡ r = get_or-set_same st.records j r blank lj in
    let hk : Has st k j = ap object_in is in
    record {
      ready = reported_ready core k st d lk sound.ready is;
      held = λ i o po h. ⊎_elim
          (λ (e : o ≡ j). ap (λ (x : ℕ). used (slice_index_or (slice_set st.records j r) x blank)) e ∙ ap used here ∙ after_fold_used core st.clock.epoch d.change (record_at st j))
          (λ (ne : o ≢ j). ap used (get_or-set_other st.records j o r blank ne) ∙ sound.held i o po (has_cleared k st o po i h))
          (cases_eq o j);
      least = λ o. rw (same o) (sound.least o);
      quiet = λ o po pend. ⊎_elim
          (λ (e : o ≡ j).
          let now : get_or (slice_set st.records j r) o blank ≡ r = ap (λ (x : ℕ). get_or (slice_set st.records j r) x blank) e ∙ here in
          let f = after_fold_pending core st.clock.epoch d.change (record_at st j) (sym (ap pending now) ∙ pend) in (
            ap (λ (q : Record). q.shared) now ∙ f.0,
            λ all i h. both_ways _ (since_fresh st.clock (slice_index_or (slice_set st.records j r) o blank) (i / 16) (ap (λ (q : Record). q.listed) now ∙ f.1)) (all i h),
          ))
          (λ (ne : o ≢ j).
          let now : get_or (slice_set st.records j r) o blank ≡ record_at st o = get_or-set_other st.records j o r blank ne in
          let q = sound.quiet o po (sym (ap pending now) ∙ pend) in (
            ap (λ (x : Record). x.shared) now ∙ q.0,
            λ all i h. q.1
                (λ n hn. sym (ap (λ (x : Record). folded_since st.clock x (n / 16)) now) ∙ all n (has_kept k st o n (λ g. ne (sym g ∙ hk)) hn))
                i (has_cleared k st o po i h),
          ))
          (cases_eq o j);
      served = λ i o po h. sound.served i o po (has_cleared k st o po i h);
      after = sound.after;
    }

pub fold_sound : (core i : ℕ) (st : State) → core < 16 → i < 16 → Sound st → Sound (fold_slot core i st)
fold_sound core i st hc hi sound =
    fold_cases Sound core i st (λ _. sound) (λ d is. reported_sound core (place core i) st d (place_fits core i _ hc hi sound.ready.wide) is sound)

pub first_sound : (core i : ℕ) (st : State) → core < 16 → i ≤ 16 → Sound st → Sound (fold_first core i st)
first_sound core i st hc hi sound = first_keeps Sound core i st (λ j t lt. fold_sound core j t hc (omega arith)) sound

pub room_sound : (way : Move) (core o : ℕ) (st : State) → core < 16 → Sound st → Sound (make_room way core o st)
room_sound way core o st hc sound = room_cases Sound way core o st (λ _. fold_sound core (o % 16) st hc (omega arith) sound) (λ _. sound)

-- A change moves

pub moved_here : (way : Move) (core o : ℕ) (st : State) → slot_of core o < length st.rows → Room way o (slot_at st (slot_of core o)) →
    total (moved way core o st) o ≡ total st o +ℤ by_of way
moved_here way core o st lp room =
    let p = slot_of core o in
    let s = slot_at st p in
    let t : Option Delta = Some (record { object = o; change = change_in s +ℤ by_of way }) in
    let sums : sum_of (part o) (slice_set st.rows p t) +ℤ part o s ≡ sum_of (part o) st.rows +ℤ part o t = sum_set (part o) st.rows p t None lp in
    let a : part o s ≡ change_in s = ⊎_elim (λ e. part_same o s e) (λ (e : s ≡ None). ap (part o) e ∙ part_none o ∙ sym (ap change_in e)) room.own in
    let b : part o t ≡ change_in s +ℤ by_of way = part_same o t refl in
    omega (arith, ints)

pub moved_other : (way : Move) (core o : ℕ) (st : State) (x : ℕ) → slot_of core o < length st.rows → Room way o (slot_at st (slot_of core o)) → x ≢ o →
    total (moved way core o st) x ≡ total st x
moved_other way core o st x lp room ne =
    let p = slot_of core o in
    let s = slot_at st p in
    let t : Option Delta = Some (record { object = o; change = change_in s +ℤ by_of way }) in
    let sums : sum_of (part x) (slice_set st.rows p t) +ℤ part x s ≡ sum_of (part x) st.rows +ℤ part x t = sum_set (part x) st.rows p t None lp in
    let a : part x s ≡ pos 0 = ⊎_elim (λ e. part_other x s (λ f. ne (sym f ∙ e))) (λ (e : s ≡ None). ap (part x) e ∙ part_none x) room.own in
    let b : part x t ≡ pos 0 = part_other x t (λ e. ne (sym e)) in
    omega (arith, ints)

-- why a change may move: the object is in use, it is held or was listed just now, and the new count is in range
pub record MayMove (way : Move) (core o : ℕ) (st : State) : Type 0 where
  pub serves : core < st.clock.cores
  pub some : 1 ≤ o
  pub known : o ≤ 1024
  pub room : Room way o (slot_at st (slot_of core o))
  pub inuse : used (record_at st o) ≡ true
  pub fresh : pending (record_at st o) ≡ true → (1 ≤ unsigned_abs (total st o)) ⊎ ((record_at st o).listed ≡ st.clock.epoch)
  pub few : unsigned_abs (total st o +ℤ by_of way) ≤ 65536
  pub least : total st o +ℤ by_of way ≡ pos (unsigned_abs (total st o +ℤ by_of way))

pub moved_sound : (way : Move) (core o : ℕ) (st : State) → Sound st → MayMove way core o st → Sound (moved way core o st)
moved_sound way core o st sound may =
    let p = slot_of core o in
    let t : Delta = record { object = o; change = change_in (slot_at st p) +ℤ by_of way } in
    let lp : p < length st.rows = place_fits core (o % 16) _ (omega (arith, sound.ready.cores, may.serves)) (omega arith) sound.ready.wide in
    let room = may.room in
    record {
      ready = record {
        room = sound.ready.room;
        wide = length-set st.rows p (Some t) ∙ sound.ready.wide;
        within = each_set (λ _ s. unsigned_abs (change_in s) ≤ 100) st.rows p (Some t) None sound.ready.within room.low;
        named = each_set (λ _ s. is_some s ≡ true → 1 ≤ object_in s) st.rows p (Some t) None sound.ready.named (λ _. may.some);
        known = each_set (λ _ s. object_in s ≤ 1024) st.rows p (Some t) None sound.ready.known may.known;
        few = λ x. ⊎_elim
            (λ (e : x ≡ o). subst (λ (y : ℕ). unsigned_abs (total (moved way core o st) y) ≤ 65536) (sym e) (rw (moved_here way core o st lp room) may.few))
            (λ (ne : x ≢ o). rw (moved_other way core o st x lp room ne) (sound.ready.few x))
            (cases_eq x o);
        cores = sound.ready.cores;
      };
      held = λ k x px h. ⊎_elim
          (λ (e : x ≡ o). ap (λ (y : ℕ). used (record_at st y)) e ∙ may.inuse)
          (λ (ne : x ≢ o). sound.held k x px (has_before way core o st x ne k h))
          (cases_eq x o);
      least = λ x. ⊎_elim
          (λ (e : x ≡ o). subst (λ (y : ℕ). total (moved way core o st) y ≡ pos (unsigned_abs (total (moved way core o st) y))) (sym e) (rw (moved_here way core o st lp room) may.least))
          (λ (ne : x ≢ o). rw (moved_other way core o st x lp room ne) (sound.least x))
          (cases_eq x o);
      quiet = λ x px pend.
          let q = sound.quiet x px pend in (
            q.0,
            λ all k h.
                let before : (i : ℕ) → Has st i x → ⊥ = q.1 (λ i hi. all i (has_after way core o st x i lp px room hi)) in
                ⊎_elim
                (λ (e : x ≡ o).
                let here : Has (moved way core o st) p x = has_here way core o st lp ∙ sym e in
                let z : total st x ≡ pos 0 = (let sn = sum_none x st.rows before in omega (arith, ints, sn, q.0)) in
                ⊎_elim
                (λ (some : 1 ≤ unsigned_abs (total st o)). omega (arith, ints, ap (total st) (sym e) ∙ z, some))
                (λ (new : (record_at st o).listed ≡ st.clock.epoch).
                both_ways _ (since_fresh st.clock (record_at st x) (p / 16) (ap (λ (y : ℕ). (record_at st y).listed) e ∙ new)) (all p here))
                (may.fresh (sym (ap (λ (y : ℕ). pending (record_at st y)) e) ∙ pend)))
                (λ (ne : x ≢ o). before k (has_before way core o st x ne k h))
                (cases_eq x o),
          );
      served = each_set (λ k s. (x : ℕ) → 1 ≤ x → object_in s ≡ x → k / 16 < st.clock.cores) st.rows p (Some t) None sound.served (λ x px e. omega (arith, may.serves));
      after = sound.after;
    }

-- A record is written

pub record_here : (o : ℕ) (r : Record) (st : State) → o < length st.records → record_at (put_record o r st) o ≡ r
record_here o r st lt = get_or-set_same st.records o r blank lt

pub record_other : (o x : ℕ) (r : Record) (st : State) → x ≢ o → record_at (put_record o r st) x ≡ record_at st x
record_other o x r st ne = get_or-set_other st.records o x r blank ne

pub total_other : (o x : ℕ) (r : Record) (st : State) → x ≢ o → total (put_record o r st) x ≡ total st x
total_other o x r st ne = ap (λ (q : Record). q.shared +ℤ sum_of (part x) st.rows) (record_other o x r st ne)

-- a record with the same shared count
pub total_same : (o x : ℕ) (r : Record) (st : State) → o < length st.records → r.shared ≡ (record_at st o).shared → total (put_record o r st) x ≡ total st x
total_same o x r st lt e =
    ⊎_elim
    (λ (is : x ≡ o).
    ap (λ (q : ℤ). q +ℤ sum_of (part x) st.rows)
    (ap (λ (y : ℕ). (record_at (put_record o r st) y).shared) is ∙ ap (λ (q : Record). q.shared) (record_here o r st lt) ∙ e ∙ sym (ap (λ (y : ℕ). (record_at st y).shared) is)))
    (λ (ne : x ≢ o). total_other o x r st ne)
    (cases_eq x o)

-- what the record of an object may become
pub record Fair (st : State) (o : ℕ) (r : Record) : Type 0 where
  pub few : unsigned_abs (total (put_record o r st) o) ≤ 65536
  pub least : total (put_record o r st) o ≡ pos (unsigned_abs (total (put_record o r st) o))
  pub kept : (k : ℕ) → Has st k o → used r ≡ true
  pub still : pending r ≡ true → Quiet st r o

pub record_sound : (o : ℕ) (r : Record) (st : State) → Sound st → o ≤ 1024 → Fair st o r → Sound (put_record o r st)
record_sound o r st sound known fair =
    let lt : o < length st.records = omega (arith, sound.ready.room) in
    let here = record_here o r st lt in
    record {
      ready = record {
        room = length-set st.records o r ∙ sound.ready.room;
        wide = sound.ready.wide;
        within = sound.ready.within;
        named = sound.ready.named;
        known = sound.ready.known;
        few = λ x. ⊎_elim
            (λ (e : x ≡ o). subst (λ (y : ℕ). unsigned_abs (total (put_record o r st) y) ≤ 65536) (sym e) fair.few)
            (λ (ne : x ≢ o). rw (total_other o x r st ne) (sound.ready.few x))
            (cases_eq x o);
        cores = sound.ready.cores;
      };
      held = λ k x px h. ⊎_elim
          (λ (e : x ≡ o). ap (λ (y : ℕ). used (record_at (put_record o r st) y)) e ∙ ap used here ∙ fair.kept k (h ∙ e))
          (λ (ne : x ≢ o). ap used (record_other o x r st ne) ∙ sound.held k x px h)
          (cases_eq x o);
      least = λ x. ⊎_elim
          (λ (e : x ≡ o). subst (λ (y : ℕ). total (put_record o r st) y ≡ pos (unsigned_abs (total (put_record o r st) y))) (sym e) fair.least)
          (λ (ne : x ≢ o). rw (total_other o x r st ne) (sound.least x))
          (cases_eq x o);
      quiet = λ x px pend. ⊎_elim
          (λ (e : x ≡ o).
          let now : record_at (put_record o r st) x ≡ r = ap (record_at (put_record o r st)) e ∙ here in
          subst (λ (q : Record). Quiet st q x) (sym now) (subst (Quiet st r) (sym e) (fair.still (sym (ap pending now) ∙ pend))))
          (λ (ne : x ≢ o).
          let now = record_other o x r st ne in
          subst (λ (q : Record). Quiet st q x) (sym now) (sound.quiet x px (sym (ap pending now) ∙ pend)))
          (cases_eq x o);
      served = sound.served;
      after = sound.after;
    }

-- a record that keeps the shared count
same_fair : (o : ℕ) (r : Record) (st : State) → Sound st → o ≤ 1024 → r.shared ≡ (record_at st o).shared → ((k : ℕ) → Has st k o → used r ≡ true) →
    (pending r ≡ true → Quiet st r o) → Fair st o r
same_fair o r st sound known e kept still =
    let same = total_same o o r st (omega (arith, sound.ready.room)) e in
    record { few = rw same (sound.ready.few o); least = rw same (sound.least o); kept = kept; still = still }

pub spare_sound : (o : ℕ) (st : State) → 1 ≤ o → o ≤ 1024 → Sound st → Sound (put_record o (spared (record_at st o)) st)
spare_sound o st some known sound =
    record_sound o _ st sound known
    (same_fair o (spared (record_at st o)) st sound known refl (λ k h. sound.held k o some h) (λ p. absurd (spared_pending (record_at st o) p)))

-- a free object is in no slot
pub free_nowhere : (o : ℕ) (st : State) → 1 ≤ o → Sound st → used (record_at st o) ≡ false → (k : ℕ) → Has st k o → ⊥
free_nowhere o st some sound free k h = both_ways _ free (sound.held k o some h)

pub given_total : (o n : ℕ) (st : State) → 1 ≤ o → o ≤ 1024 → Sound st → used (record_at st o) ≡ false → total (put_record o (given_to n (record_at st o)) st) o ≡ pos n
given_total o n st some known sound free =
    let here : (record_at (put_record o (given_to n (record_at st o)) st) o).shared ≡ pos n =
    ap (λ (q : Record). q.shared) (record_here o (given_to n (record_at st o)) st (omega (arith, sound.ready.room))) in
    let sums = sum_none o st.rows (free_nowhere o st some sound free) in
    omega (arith, ints, here, sums)

pub give_sound : (o n : ℕ) (st : State) → 1 ≤ o → o ≤ 1024 → n ≤ 64 → Sound st → used (record_at st o) ≡ false → Sound (put_record o (given_to n (record_at st o)) st)
give_sound o n st some known few sound free =
    let is = given_total o n st some known sound free in
    record_sound o _ st sound known (record {
      few = rw is (omega (arith, ints));
      least = rw is refl;
      kept = λ k h. absurd (free_nowhere o st some sound free k h);
      still = λ p. absurd (both_ways false refl p);
    })

-- what the verdict calls dead has no holders, and no slot has it
pub verdict_none : (core o : ℕ) (st : State) → Sound st → 1 ≤ o → verdict core st.clock.epoch (record_at st o) ≡ true →
    (total st o ≡ pos 0) × ((k : ℕ) → Has st k o → ⊥)
verdict_none core o st sound some v =
    let r = record_at st o in
    let p = and_parts (is_due core st.clock.epoch r) (is_zero r.shared && firm r) v in
    let z = and_parts (is_zero r.shared) (firm r) p.1 in
    let due = and_parts (on_list_of core r) (nat_le (r.listed + 2) st.clock.epoch) p.0 in
    let q = sound.quiet o some (and_from (is_some r.list) (firm r) (on_some r.list core due.0) z.1) in
    let empty = q.1 (λ k h. since_late st.clock r (k / 16) (leb-true (r.listed + 2) st.clock.epoch due.1)) in
    let sums = sum_none o st.rows empty in
    (omega (arith, ints, q.0, sums), empty)

pub judge_sound : (core o : ℕ) (st : State) → 1 ≤ o → o ≤ 1024 → Sound st → Sound (put_record o (after_judge core st.clock.epoch (record_at st o)) st)
judge_sound core o st some known sound =
    let r = record_at st o in
    let epoch = st.clock.epoch in
    record_sound o _ st sound known
    (judge_cases (Fair st o) core epoch r
    (λ _. same_fair o r st sound known refl (λ k h. sound.held k o some h) (λ p. sound.quiet o some p))
    (λ _ z. same_fair o (spared (unlisted r)) st sound known refl (λ k h. rw z refl) (λ p. absurd (both_ways false refl p)))
    (λ _ z f. same_fair o (enlisted core epoch r) st sound known refl (λ k h. refl)
    (λ p. (is_zero_is r.shared z, λ all k h. both_ways _ (since_fresh st.clock (enlisted core epoch r) (k / 16) refl) (all k h))))
    (λ d z f.
    let dead = verdict_none core o st sound some (and_from (is_due core epoch r) _ d (and_from (is_zero r.shared) (firm r) z f)) in
    same_fair o (unlisted r) st sound known refl (λ k h. absurd (dead.1 k h)) (λ p. absurd (both_ways false refl p))))

-- The marks and the epoch

-- the slots of a core are empty after its fold
pub first_empties : (core i j : ℕ) (st : State) → core < 16 → i ≤ 16 → j < i → Ready st → slot_at (fold_first core i st) (place core j) ≡ None
unfolding fold_first
first_empties core zero j st hc hi lt ready = absurd (omega arith)
first_empties core (suc i) j st hc hi lt ready =
    let before = first_ready core i st hc (omega arith) ready in
    let lp = place_fits core i _ hc (omega arith) before.wide in
    ⊎_elim
    (λ (e : j ≡ i). ap (λ (x : ℕ). slot_at (fold_slot core i (fold_first core i st)) (place core x)) e ∙ fold_empties core i (fold_first core i st) lp)
    (λ (ne : j ≢ i).
    let was = first_empties core i j st hc (omega arith) (omega arith) ready in
    let apart : place core j ≢ place core i = λ e. ne (omega (arith, e)) in
    fold_cases (λ t. slot_at t (place core j) ≡ None) core i (fold_first core i st) (λ _. was)
    (λ d is. get_or-set_other (fold_first core i st).rows (place core i) (place core j) None None apart ∙ was))
    (cases_eq j i)

-- a slot of a core whose slots are all empty has no object
pub not_of : (core o k : ℕ) (st : State) → ((j : ℕ) → j < 16 → slot_at st (place core j) ≡ None) → 1 ≤ o → Has st k o → k / 16 ≢ core
not_of core o k st empty some h e =
    let is : k ≡ place core (k % 16) = omega arith in
    let none : object_in (slot_at st k) ≡ 0 = ap (λ (i : ℕ). object_in (slot_at st i)) is ∙ ap object_in (empty (k % 16) (omega arith)) in
    omega (arith, none, h)

-- a mark on one core says nothing of another
pub joined_other : (bits c d : ℕ) → d ≢ c → member (bit_or bits (2 ^ c)) d ≡ member bits d
joined_other bits c d ne = join_member bits c d ∙ ap (λ (b : Bool). member bits d || b) (ne_eqb d c ne) ∙ or-false (member bits d)

pub joined_keeps : (bits c d : ℕ) → member bits d ≡ true → member (bit_or bits (2 ^ c)) d ≡ true
joined_keeps bits c d e = join_member bits c d ∙ or_left (member bits d) (d == c) e

since_other : (k : Clock) (r : Record) (core c : ℕ) → c ≢ core → folded_since (clock_folds core k) r c ≡ folded_since k r c
unfolding folded_since
since_other k r core c ne = rw (joined_other k.folded.bits core c ne) refl

-- another clock, and the tables stay ready
clock_ready : (k : Clock) (st : State) → k.cores ≤ 16 → Ready st → Ready (put_clock k st)
clock_ready k st few ready = record {
  room = ready.room;
  wide = ready.wide;
  within = ready.within;
  named = ready.named;
  known = ready.known;
  few = ready.few;
  cores = few;
}

-- a core has folded, once its slots are empty
folded_sound : (core : ℕ) (st : State) → ((j : ℕ) → j < 16 → slot_at st (place core j) ≡ None) → Sound st → Sound (put_clock (clock_folds core st.clock) st)
folded_sound core st empty sound = record {
  ready = clock_ready _ st sound.ready.cores sound.ready;
  held = sound.held;
  least = sound.least;
  quiet = λ o some pend.
      let q = sound.quiet o some pend in
      (q.0, λ all. q.1 (λ k h. sym (since_other st.clock (record_at st o) core (k / 16) (not_of core o k st empty some h)) ∙ all k h));
  served = sound.served;
  after = λ c e. joined_keeps st.clock.folded.bits core c (sound.after c e);
}

pub fold_all_sound : (core : ℕ) (st : State) → core < 16 → Sound st → Sound (fold_all core st)
fold_all_sound core st hc sound =
    subst (λ (k : Clock). Sound (put_clock (clock_folds core k) (fold_first core 16 st))) (first_clock core 16 st)
    (folded_sound core (fold_first core 16 st) (λ j lt. first_empties core 16 j st hc (omega arith) lt sound.ready) (first_sound core 16 st hc (omega arith) sound))

-- who has folded since the listing when the epoch has grown had done so before
since_turned : (k : Clock) (r : Record) (c : ℕ) → member k.folded.bits c ≡ true → folded_since (clock_turned k) r c ≡ true → folded_since k r c ≡ true
unfolding folded_since
since_turned k r c f h =
    ⊎_elim
    (λ (e : leb (r.listed + 2) (k.epoch + 1) ≡ true).
    let le : r.listed + 2 ≤ k.epoch + 1 = leb-true (r.listed + 2) (k.epoch + 1) e in
    ⊎_elim
    (λ (lt : r.listed + 1 < k.epoch). or_left (nat_le (r.listed + 2) k.epoch) _ (le-leb (r.listed + 2) k.epoch (omega arith)))
    (λ (ge : k.epoch ≤ r.listed + 1). or_right (nat_le (r.listed + 2) k.epoch) _ (and_from (r.listed + 1 == k.epoch) _ (eq-eqb (r.listed + 1) k.epoch (omega arith)) f))
    (cases_lt (r.listed + 1) k.epoch))
    (λ e. absurd (both_ways _ (none_member c) (and_parts (r.listed + 1 == k.epoch + 1) (member 0 c) e).1))
    (or_cases (nat_le (r.listed + 2) (k.epoch + 1)) (r.listed + 1 == k.epoch + 1 && member 0 c) h)

-- every core in service has folded when the last one closes
pub all_folded : (core : ℕ) (st : State) → Sound st → member st.clock.folded.bits core ≡ true → last_to_close core st.clock ≡ true →
    (c : ℕ) → c < st.clock.cores → member st.clock.folded.bits c ≡ true
all_folded core st sound f last c lt =
    ⊎_elim
    (λ (e : c ≡ core). ap (member st.clock.folded.bits) e ∙ f)
    (λ (ne : c ≢ core). sound.after c (sym (joined_other st.clock.closed.bits core c ne) ∙ all_each st.clock.cores _ last c lt))
    (cases_eq c core)

since_closed : (core : ℕ) (k : Clock) (r : Record) (c : ℕ) → folded_since (clock_marked core k) r c ≡ folded_since k r c
unfolding folded_since
since_closed core k r c = refl

pub close_sound : (core : ℕ) (st : State) → Sound st → member st.clock.folded.bits core ≡ true → Sound (put_clock (clock_closes core st.clock) st)
close_sound core st sound f =
    cond_both (last_to_close core st.clock) (clock_turned st.clock) (clock_marked core st.clock) (λ (k : Clock). Sound (put_clock k st))
    (λ last. record {
      ready = clock_ready _ st sound.ready.cores sound.ready;
      held = sound.held;
      least = sound.least;
      quiet = λ o some pend.
          let q = sound.quiet o some pend in
          (q.0, λ all. q.1 (λ k h. since_turned st.clock (record_at st o) (k / 16) (all_folded core st sound f last (k / 16) (sound.served k o some h)) (all k h)));
      served = sound.served;
      after = λ c e. absurd (both_ways _ (none_member c) e);
    })
    (λ _. record {
      ready = clock_ready _ st sound.ready.cores sound.ready;
      held = sound.held;
      least = sound.least;
      quiet = λ o some pend.
          let q = sound.quiet o some pend in
          (q.0, λ all. q.1 (λ k h. sym (since_closed core st.clock (record_at st o) (k / 16)) ∙ all k h));
      served = sound.served;
      after = λ c e. ⊎_elim
          (λ (is : c ≡ core). ap (member st.clock.folded.bits) is ∙ f)
          (λ (ne : c ≢ core). sound.after c (sym (joined_other st.clock.closed.bits core c ne) ∙ e))
          (cases_eq c core);
    })

-- The start

started_total : (cores epoch o : ℕ) → total (started cores epoch) o ≡ pos 0
started_total cores epoch o =
    let a : (get_or (replicate 1025 blank) o blank).shared ≡ pos 0 = ap (λ (r : Record). r.shared) (get_d_replicate 1025 blank o) in
    let b : sum_of (part o) (replicate 256 None) ≡ pos 0 = sum_replicate (part o) 256 None (part_none o) in
    ap (λ (z : ℤ). z +ℤ sum_of (part o) (replicate 256 None)) a ∙ ap (λ (z : ℤ). pos 0 +ℤ z) b

started_nowhere : (cores epoch k o : ℕ) → 1 ≤ o → Has (started cores epoch) k o → ⊥
started_nowhere cores epoch k o some h =
    let e : object_in (get_or {A = Option Delta} (replicate 256 None) k None) ≡ 0 = ap object_in (get_d_replicate 256 None k) in
    omega (arith, sym e ∙ h)

pub started_sound : (cores epoch : ℕ) → cores ≤ 16 → Sound (started cores epoch)
started_sound cores epoch few = record {
  ready = record {
    room = length-replicate 1025 blank;
    wide = length-replicate {A = Option Delta} 256 None;
    within = each_replicate (λ k s. unsigned_abs (change_in s) ≤ 100) 256 None (λ k. omega arith);
    named = each_replicate (λ k s. is_some s ≡ true → 1 ≤ object_in s) 256 None (λ k e. absurd (both_ways false refl e));
    known = each_replicate (λ k s. object_in s ≤ 1024) 256 None (λ k. omega arith);
    few = λ o. rw (started_total cores epoch o) (omega arith);
    cores = few;
  };
  held = λ k o some h. absurd (started_nowhere cores epoch k o some h);
  least = λ o. rw (started_total cores epoch o) refl;
  quiet = λ o some pend. absurd (both_ways false refl (sym (ap pending (get_d_replicate 1025 blank o)) ∙ pend));
  served = λ k o some h. absurd (started_nowhere cores epoch k o some h);
  after = λ c e. absurd (both_ways _ (none_member c) e);
}
