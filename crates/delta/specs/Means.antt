-- What each step does to the meaning.
use Rattle.std.specs.Prelude.{◌≡◌, ℕ, ◌+◌, ◌-◌, ◌%◌, ◌<◌, ◌≤◌, Bool, true, false, ◌≢◌, ◌⊎◌, length, ℤ, pos, ◌+ℤ◌, is_some, Some, None, unsigned_abs, refl}
use Rattle.std.proofs.Common.{sym, ◌∙◌, ap, subst, inl, inr, ⊎_elim, arith}
use Rattle.std.proofs.Math.Path.{fun_ext}
use Rattle.std.proofs.lemmas.Int.{ints}
use Rattle.std.proofs.lemmas.Bool.{cond-true, cond-false, cases_eq, cases_Bool, both_ways}
use Rattle.counter.specs.Meaning.{Meaning, how_many, put_at, with_holders, begun, given, has_folded, Judged}
use Rattle.counter.specs.Clocks.{clock_meaning, clock_folds, clock_started}
use Rattle.counter.specs.ClocksLemmas.{started_means, folds_means}
use Rattle.counter.specs.Meanings.{put_is}
use Rattle.ledger.specs.declared.slot.Delta.{Delta}
use Rattle.ledger.specs.declared.slot.Move.{Move}
use Rattle.ledger.specs.declared.slot.Move.TheVariants.{Gain, Loss}
use Rattle.ledger.specs.declared.record.Record.{Record}
use Rattle.ledger.specs.Slots.{place, by_of}
use Rattle.ledger.specs.Records.{blank, given_to, spared, after_fold, verdict, after_judge}
use Rattle.ledger.specs.States.{State, record_at, slot_at, total, put_record, reported, fold_slot, fold_first, slot_of, make_room, moved, shift, spare_at, judge_at, started, fold_all}
use Rattle.counter.proofs.Lists.{get_d_replicate}
use Rattle.ledger.proofs.Folding.{place_fits, fold_cases, reported_total, object_known, object_named, first_keeps}
use Rattle.ledger.proofs.Rooms.{Room, room_cases, room_made}
use Rattle.delta.specs.Safety.{used, pending, holders_in, delta_meaning, Sound}
use Rattle.delta.specs.Facts.{after_fold_used, after_fold_pending, spared_pending, judge_shared, judge_spares, judge_frees, due_used}
use Rattle.delta.specs.Safe.{fold_sound, room_sound, moved_here, moved_other, MayMove, moved_sound, record_here, record_other, total_same, total_other, spare_sound, given_total, verdict_none}

-- The holders of an object

pub used_holders : (st : State) (o : ℕ) → used (record_at st o) ≡ true → holders_in st o ≡ Some (unsigned_abs (total st o))
used_holders st o u = cond-true (used (record_at st o)) (Some (unsigned_abs (total st o))) None u

pub free_holders : (st : State) (o : ℕ) → used (record_at st o) ≡ false → holders_in st o ≡ None
free_holders st o u = cond-false (used (record_at st o)) (Some (unsigned_abs (total st o))) None u

-- an object in use
pub inuse_used : (st : State) (o : ℕ) → is_some (holders_in st o) ≡ true → used (record_at st o) ≡ true
inuse_used st o h =
    ⊎_elim (λ e. e) (λ (e : used (record_at st o) ≡ false). absurd (both_ways false refl (sym (ap is_some (free_holders st o e)) ∙ h)))
    (cases_Bool (used (record_at st o)))

-- one that is held
pub held_used : (st : State) (o : ℕ) → 1 ≤ how_many (holders_in st o) → used (record_at st o) ≡ true
held_used st o h =
    ⊎_elim (λ e. e) (λ (e : used (record_at st o) ≡ false). absurd (omega (arith, ap how_many (free_holders st o e))))
    (cases_Bool (used (record_at st o)))

pub free_used : (st : State) (o : ℕ) → holders_in st o ≡ None → used (record_at st o) ≡ false
free_used st o h =
    ⊎_elim (λ (e : used (record_at st o) ≡ true). let held = used_holders st o e in absurd cc) (λ e. e)
    (cases_Bool (used (record_at st o)))

pub many_holders : (st : State) (o : ℕ) → used (record_at st o) ≡ true → how_many (holders_in st o) ≡ unsigned_abs (total st o)
many_holders st o u = ap how_many (used_holders st o u)

-- in use, and nobody holds it
pub unheld_parts : (st : State) (o : ℕ) → holders_in st o ≡ Some 0 → (used (record_at st o) ≡ true) × (total st o ≡ pos 0)
unheld_parts st o z =
    let u = inuse_used st o (ap is_some z) in
    let held = used_holders st o u in
    let n : unsigned_abs (total st o) ≡ 0 = cc in
    (u, omega (arith, ints, n))

same_holders : (st t : State) (o : ℕ) → used (record_at t o) ≡ used (record_at st o) → total t o ≡ total st o → holders_in t o ≡ holders_in st o
same_holders st t o u n = rw (u, n) refl

-- Folding means nothing

reported_used : (core k : ℕ) (st : State) (d : Delta) → slot_at st k ≡ Some d → Sound st → (o : ℕ) →
    used (record_at (reported core k (Some d) st) o) ≡ used (record_at st o)
reported_used core k st d is sound o =
    let j = d.object in
    let r = after_fold core st.clock.epoch d.change (record_at st j) in
    ⊎_elim
    (λ (e : o ≡ j).
    ap (λ (x : ℕ). used (record_at (put_record j r st) x)) e ∙ ap used (record_here j r st (object_known k d st sound.ready is))
    ∙ after_fold_used core st.clock.epoch d.change (record_at st j)
    ∙ sym (ap (λ (x : ℕ). used (record_at st x)) e ∙ sound.held k j (object_named k d st sound.ready is) (ap (λ s. Rattle.ledger.specs.Slots.object_in s) is)))
    (λ (ne : o ≢ j). ap used (record_other j o r st ne))
    (cases_eq o j)

pub fold_means : (core i : ℕ) (st : State) → core < 16 → i < 16 → Sound st → delta_meaning (fold_slot core i st) ≡ delta_meaning st
fold_means core i st hc hi sound =
    fold_cases (λ t. delta_meaning t ≡ delta_meaning st) core i st (λ _. refl)
    (λ d is. ap (clock_meaning st.clock) (fun_ext (λ o.
    same_holders st (reported core (place core i) (Some d) st) o (reported_used core (place core i) st d is sound o)
    (reported_total core (place core i) st d (place_fits core i _ hc hi sound.ready.wide) sound.ready is o))))

pub first_means : (core i : ℕ) (st : State) → core < 16 → i ≤ 16 → Sound st → delta_meaning (fold_first core i st) ≡ delta_meaning st
first_means core i st hc hi sound =
    (first_keeps (λ t. Sound t × (delta_meaning t ≡ delta_meaning st)) core i st
    (λ j t lt p. (fold_sound core j t hc (omega arith) p.0, fold_means core j t hc (omega arith) p.0 ∙ p.1)) (sound, refl)).1

pub room_means : (way : Move) (core o : ℕ) (st : State) → core < 16 → Sound st → delta_meaning (make_room way core o st) ≡ delta_meaning st
room_means way core o st hc sound =
    room_cases (λ t. delta_meaning t ≡ delta_meaning st) way core o st (λ _. fold_means core (o % 16) st hc (omega arith) sound) (λ _. refl)

pub fold_all_means : (core : ℕ) (st : State) → core < 16 → Sound st → delta_meaning (fold_all core st) ≡ has_folded core (delta_meaning st)
fold_all_means core st hc sound =
    let same : holders_in (fold_first core 16 st) ≡ holders_in st = ap (λ (m : Meaning). m.holders) (first_means core 16 st hc (omega arith) sound) in
    ap (clock_meaning (clock_folds core st.clock)) same ∙ folds_means core st.clock (holders_in st)

-- A change moves

-- one holder more or fewer
abbrev shifted : Move → ℕ → ℕ
shifted Gain n = n + 1
shifted Loss n = n - 1

abbrev shifts : Move → ℕ → Meaning → Meaning
shifts way o m = with_holders (put_at o (Some (shifted way (how_many (m.holders o)))) m.holders) m

shifted_is : (way : Move) (z : ℤ) → z ≡ pos (unsigned_abs z) → (z +ℤ by_of way) ≡ pos (unsigned_abs (z +ℤ by_of way)) → unsigned_abs (z +ℤ by_of way) ≡ shifted way (unsigned_abs z)
shifted_is Gain z e f = omega (arith, ints)
shifted_is Loss z e f = omega (arith, ints)

pub moved_means : (way : Move) (core o : ℕ) (st : State) → Sound st → MayMove way core o st → delta_meaning (moved way core o st) ≡ shifts way o (delta_meaning st)
moved_means way core o st sound may =
    let lp : slot_of core o < length st.rows = place_fits core (o % 16) _ (omega (arith, sound.ready.cores, may.serves)) (omega arith) sound.ready.wide in
    let t = moved way core o st in
    ap (clock_meaning st.clock) (fun_ext (put_is o _ (holders_in st) (holders_in t)
    (used_holders t o may.inuse
    ∙ ap (λ (z : ℤ). Some (unsigned_abs z)) (moved_here way core o st lp may.room)
    ∙ ap Some (shifted_is way (total st o) (sound.least o) may.least ∙ ap (shifted way) (sym (many_holders st o may.inuse))))
    (λ x ne. same_holders st t x refl (moved_other way core o st x lp may.room ne))))

-- the state in which the change moves
room_state : (way : Move) (core o : ℕ) (st : State) → core < st.clock.cores → Sound st →
    Sound (make_room way core o st) × (delta_meaning (make_room way core o st) ≡ delta_meaning st) × Room way o (slot_at (make_room way core o st) (slot_of core o))
room_state way core o st serves sound =
    let hc : core < 16 = omega (arith, sound.ready.cores) in
    (room_sound way core o st hc sound, room_means way core o st hc sound, room_made way core o st hc sound.ready)

-- what the count becomes is in range
abbrev pub InRange : Move → ℕ → Type 0
InRange Gain n = n < 65536
InRange Loss n = 1 ≤ n

in_range : (way : Move) (z : ℤ) → z ≡ pos (unsigned_abs z) → unsigned_abs z ≤ 65536 → InRange way (unsigned_abs z) →
    (unsigned_abs (z +ℤ by_of way) ≤ 65536) × (z +ℤ by_of way ≡ pos (unsigned_abs (z +ℤ by_of way)))
in_range Gain z least few range = (omega (arith, ints), omega (arith, ints))
in_range Loss z least few range = (omega (arith, ints), omega (arith, ints))

-- the change of an object in use may move where there is room, unless it is pending without holders since an earlier epoch
pub shift_may : (way : Move) (core o : ℕ) (st : State) → Sound st → core < st.clock.cores → 1 ≤ o → o ≤ 1024 → used (record_at st o) ≡ true → InRange way (unsigned_abs (total st o)) →
    (pending (record_at (make_room way core o st) o) ≡ true → (1 ≤ unsigned_abs (total st o)) ⊎ ((record_at (make_room way core o st) o).listed ≡ st.clock.epoch)) →
    MayMove way core o (make_room way core o st)
shift_may way core o st sound serves some known u range fresh =
    let t = make_room way core o st in
    let r = room_state way core o st serves sound in
    let cores : t.clock.cores ≡ st.clock.cores = ap (λ (m : Meaning). m.cores) r.1 in
    let epoch : t.clock.epoch ≡ st.clock.epoch = ap (λ (m : Meaning). m.epoch) r.1 in
    let same : holders_in t o ≡ holders_in st o = ap (λ (m : Meaning). m.holders o) r.1 in
    let ut = inuse_used t o (ap is_some (same ∙ used_holders st o u)) in
    let after = used_holders t o ut in
    let before = used_holders st o u in
    let n : unsigned_abs (total t o) ≡ unsigned_abs (total st o) = cc in
    let z = in_range way (total t o) (r.0.least o) (r.0.ready.few o) (subst (InRange way) (sym n) range) in
    record {
      serves = omega (arith, cores);
      some = some;
      known = known;
      room = r.2;
      inuse = ut;
      fresh = λ p. ⊎_elim (λ (h : 1 ≤ unsigned_abs (total st o)). inl (omega (arith, n))) (λ e. inr (e ∙ sym epoch)) (fresh p);
      few = z.0;
      least = z.1;
    }

pub shift_sound : (way : Move) (core o : ℕ) (st : State) → Sound st → core < st.clock.cores → MayMove way core o (make_room way core o st) → Sound (shift way core o st)
shift_sound way core o st sound serves may = moved_sound way core o (make_room way core o st) (room_state way core o st serves sound).0 may

pub shift_means : (way : Move) (core o : ℕ) (st : State) → Sound st → core < st.clock.cores → MayMove way core o (make_room way core o st) →
    delta_meaning (shift way core o st) ≡ shifts way o (delta_meaning st)
shift_means way core o st sound serves may =
    let r = room_state way core o st serves sound in
    moved_means way core o (make_room way core o st) r.0 may ∙ ap (shifts way o) r.1

-- up and down, where someone holds the object
pub held_shift : (way : Move) (core o : ℕ) (st : State) → Sound st → core < st.clock.cores → 1 ≤ o → o ≤ 1024 → 1 ≤ how_many (holders_in st o) → InRange way (how_many (holders_in st o)) →
    MayMove way core o (make_room way core o st)
held_shift way core o st sound serves some known held range =
    let u = held_used st o held in
    let n = many_holders st o u in
    shift_may way core o st sound serves some known u (subst (InRange way) n range) (λ _. inl (omega (arith, n)))

-- Revival

-- where the condemned mark is gone, the object is pending only if making room has listed it just now
room_fresh : (core o : ℕ) (st : State) → core < 16 → Sound st → (pending (record_at st o) ≢ true) →
    pending (record_at (make_room Gain core o st) o) ≡ true → (record_at (make_room Gain core o st) o).listed ≡ st.clock.epoch
room_fresh core o st hc sound not =
    room_cases (λ t. pending (record_at t o) ≡ true → (record_at t o).listed ≡ st.clock.epoch) Gain core o st
    (λ _. fold_cases (λ t. pending (record_at t o) ≡ true → (record_at t o).listed ≡ st.clock.epoch) core (o % 16) st
    (λ _ p. absurd (not p))
    (λ d is p.
    let j = d.object in
    let r = after_fold core st.clock.epoch d.change (record_at st j) in
    ⊎_elim
    (λ (e : o ≡ j).
    let now : record_at (put_record j r st) o ≡ r = ap (record_at (put_record j r st)) e ∙ record_here j r st (object_known _ d st sound.ready is) in
    ap (λ (q : Record). q.listed) now ∙ (after_fold_pending core st.clock.epoch d.change (record_at st j) (sym (ap pending now) ∙ p)).1)
    (λ (ne : o ≢ j). absurd (not (sym (ap pending (record_other j o r st ne)) ∙ p)))
    (cases_eq o j)))
    (λ _ p. absurd (not p))

pub spare_means : (o : ℕ) (st : State) → o ≤ 1024 → Sound st → delta_meaning (spare_at o st) ≡ delta_meaning st
spare_means o st known sound =
    let lt : o < length st.records = omega (arith, sound.ready.room) in
    let r = spared (record_at st o) in
    ap (clock_meaning st.clock) (fun_ext (λ x. same_holders st (spare_at o st) x
    (⊎_elim
    (λ (e : x ≡ o). ap (λ (y : ℕ). used (record_at (put_record o r st) y)) e ∙ ap used (record_here o r st lt) ∙ sym (ap (λ (y : ℕ). used (record_at st y)) e))
    (λ (ne : x ≢ o). ap used (record_other o x r st ne))
    (cases_eq x o))
    (total_same o x r st lt refl)))

pub revive_may : (core o : ℕ) (st : State) → Sound st → core < st.clock.cores → 1 ≤ o → o ≤ 1024 → is_some (holders_in st o) ≡ true → how_many (holders_in st o) < 65536 →
    MayMove Gain core o (make_room Gain core o (spare_at o st))
revive_may core o st sound serves some known inuse room =
    let t = spare_at o st in
    let hc : core < 16 = omega (arith, sound.ready.cores) in
    let st' = spare_sound o st some known sound in
    let same : holders_in t o ≡ holders_in st o = ap (λ (m : Meaning). m.holders o) (spare_means o st known sound) in
    let u = inuse_used t o (ap is_some same ∙ inuse) in
    let n : unsigned_abs (total t o) ≡ how_many (holders_in st o) = sym (many_holders t o u) ∙ ap how_many same in
    let not : pending (record_at t o) ≡ true → ⊥ =
    λ p. spared_pending (record_at st o) (sym (ap pending (record_here o (spared (record_at st o)) st (omega (arith, sound.ready.room)))) ∙ p) in
    shift_may Gain core o t st' serves some known u (omega (arith, n))
    (λ p. inr (room_fresh core o t hc st' not p))

-- Give

pub give_means : (o n : ℕ) (st : State) → 1 ≤ o → o ≤ 1024 → 1 ≤ n → Sound st → used (record_at st o) ≡ false →
    delta_meaning (put_record o (given_to n (record_at st o)) st) ≡ given o n (delta_meaning st)
give_means o n st some known any sound free =
    let r = given_to n (record_at st o) in
    let t = put_record o r st in
    let lt : o < length st.records = omega (arith, sound.ready.room) in
    let u : used (record_at t o) ≡ true = ap used (record_here o r st lt) ∙ given_used n any in
    ap (clock_meaning st.clock) (fun_ext (put_is o (Some n) (holders_in st) (holders_in t)
    (used_holders t o u ∙ ap (λ (z : ℤ). Some (unsigned_abs z)) (given_total o n st some known sound free))
    (λ x ne. same_holders st t x (ap used (record_other o x r st ne)) (total_other o x r st ne))))
  where
    given_used : (n : ℕ) → 1 ≤ n → used (given_to n (record_at st o)) ≡ true
    given_used n any = grind arith

-- Judge

pub judge_means : (core o : ℕ) (st : State) (dead : Bool) → 1 ≤ o → o ≤ 1024 → Sound st → dead ≡ verdict core st.clock.epoch (record_at st o) →
    Judged (delta_meaning st) o dead (delta_meaning (judge_at core o st))
judge_means core o st true some known sound is =
    let r = record_at st o in
    let a = after_judge core st.clock.epoch r in
    let t = judge_at core o st in
    let lt : o < length st.records = omega (arith, sound.ready.room) in
    let dead = verdict_none core o st sound some (sym is) in
    let u : used r ≡ true = due_used core st.clock.epoch r (Rattle.std.proofs.lemmas.Bool.and_parts _ _ (sym is)).0 in (
      used_holders st o u ∙ ap (λ (z : ℤ). Some (unsigned_abs z)) dead.0,
      ap (clock_meaning st.clock) (fun_ext (put_is o None (holders_in st) (holders_in t)
          (free_holders t o (ap used (record_here o a st lt) ∙ judge_frees core st.clock.epoch r (sym is)))
          (λ x ne. same_holders st t x (ap used (record_other o x a st ne)) (total_other o x a st ne)))),
    )
judge_means core o st false some known sound is =
    let r = record_at st o in
    let a = after_judge core st.clock.epoch r in
    let lt : o < length st.records = omega (arith, sound.ready.room) in
    ap (clock_meaning st.clock) (fun_ext (λ x. same_holders st (judge_at core o st) x
    (⊎_elim
    (λ (e : x ≡ o). ap (λ (y : ℕ). used (record_at (put_record o a st) y)) e ∙ ap used (record_here o a st lt) ∙ judge_spares core st.clock.epoch r (sym is) ∙ sym (ap (λ (y : ℕ). used (record_at st y)) e))
    (λ (ne : x ≢ o). ap used (record_other o x a st ne))
    (cases_eq x o))
    (total_same o x a st lt (judge_shared core st.clock.epoch r))))

-- Start

pub started_is : (cores epoch : ℕ) → delta_meaning (started cores epoch) ≡ begun cores epoch
started_is cores epoch =
    ap (clock_meaning (clock_started cores epoch)) (fun_ext (λ o. free_holders (started cores epoch) o (ap used (get_d_replicate 1025 blank o))))
    ∙ started_means cores epoch (λ _. None)
