-- Every operation, where it may come and in its turn, keeps every object of the kind on time.
use Rattle.std.specs.Prelude.{◌≡◌, ℕ, ◌+◌, ◌-◌, ◌<◌, ◌≤◌, Bool, true, false, cond, ◌≢◌, length, is_some, Some, None, Option, refl}
use Rattle.std.proofs.Common.{sym, ◌∙◌, ap, subst, ⊎_elim, arith}
use Rattle.std.proofs.lemmas.Bool.{cases_eq, both_ways}
use Rattle.counter.specs.Meaning.{Meaning, how_many, put_at, has_folded, Judged, Operation}
use Rattle.counter.specs.Meaning.Operation.{Give, Up, Down, Revive, Fold, Judge, Close}
use Rattle.counter.specs.Operations.{Object, Allowed, Does}
use Rattle.counter.specs.Timeline.{Timeline, note_judgement, note_epoch, noted, InTurn}
use Rattle.counter.specs.Clocks.{clock_meaning, clock_marked, clock_turned, last_to_close}
use Rattle.counter.specs.ClocksLemmas.{last_means}
use Rattle.counter.specs.Meanings.{put_here, put_elsewhere, judged_other}
use Rattle.ledger.specs.declared.slot.Move.{Move}
use Rattle.ledger.specs.declared.slot.Move.TheVariants.{Gain, Loss}
use Rattle.ledger.specs.declared.record.Record.{Record}
use Rattle.ledger.specs.Records.{blank, given_to, spared}
use Rattle.ledger.specs.States.{State, StateSteps, record_at, put_record, put_clock, make_room, shift, spare_at, judge_at, started, state_after}
use Rattle.counter.proofs.Lists.{get_d_replicate}
use Rattle.delta.specs.Safety.{used, holders_in, delta_meaning, Sound}
use Rattle.delta.specs.Promptness.{Seen, Due, Punctual, OnTime}
use Rattle.delta.specs.Safe.{all_folded}
use Rattle.delta.specs.Means.{unheld_parts, free_holders}
use Rattle.delta.specs.Keeps.{keeps_meaning}
use Rattle.delta.specs.Prompt.{InTime, StateInTime, unlisted_intime, same_intime, write_intime, room_intime, mark_intime, judge_state, judge_sees, closed_timed, turned_timed, due_bound, due_new, due_room, due_all, due_moved, due_write, due_judge, due_closed, due_turned}

-- the two sides of being on time
abbrev in_time : (st : State) (o e : ℕ) (judged : ℕ → Bool) → Punctual st o e judged → StateInTime judged st o
in_time st o e judged p = (p.timed, p.seen)

abbrev punctual : (st : State) (o e : ℕ) (judged : ℕ → Bool) → StateInTime judged st o → (holders_in st o ≡ Some 0 → Due st o e) → Punctual st o e judged
punctual st o e judged t d = record { timed = t.0; seen = t.1; due = d }

-- an object that has holders is not without
held_not : (f : ℕ → Option ℕ) (o n : ℕ) → f o ≡ Some (n + 1) → f o ≢ Some 0
held_not f o n e z = let is : n + 1 ≡ 0 = cc in omega arith

-- the holders of object o after holders were put at x
put_not : (x o n : ℕ) (f : ℕ → Option ℕ) → o ≡ x → put_at x (Some (n + 1)) f o ≢ Some 0
put_not x o n f e z = held_not (put_at x (Some (n + 1)) f) o n (ap (put_at x (Some (n + 1)) f) e ∙ put_here x (Some (n + 1)) f) z

put_back : (x o : ℕ) (v : Option ℕ) (f : ℕ → Option ℕ) → o ≢ x → put_at x v f o ≡ Some 0 → f o ≡ Some 0
put_back x o v f ne z = sym (put_elsewhere x v f o ne) ∙ z

-- a change moves: of the object itself only a loss can leave it without holders
shift_onward : (way : Move) (core x : ℕ) (st : State) (o e : ℕ) (judged : ℕ → Bool) → core < st.clock.cores → 1 ≤ o → o ≢ x →
    (holders_in (shift way core x st) o ≡ Some 0 → holders_in st o ≡ Some 0) → Punctual st o e judged → Punctual (shift way core x st) o e judged
shift_onward way core x st o e judged lc some ne back p =
    punctual (shift way core x st) o e judged (room_intime judged way core x st o lc (in_time st o e judged p))
    (λ z. due_moved way core x (make_room way core x st) o e ne (due_room way core x st o e some (p.due (back z))))

shift_here : (way : Move) (core x : ℕ) (st : State) (o e e' : ℕ) (judged : ℕ → Bool) → core < st.clock.cores →
    (holders_in (shift way core x st) o ≡ Some 0 → Due (shift way core x st) o e') → Punctual st o e judged → Punctual (shift way core x st) o e' judged
shift_here way core x st o e e' judged lc due p = punctual (shift way core x st) o e' judged (room_intime judged way core x st o lc (in_time st o e judged p)) due

-- the record of an object is written
write_onward : (x : ℕ) (r : Record) (st : State) (o e : ℕ) (judged : ℕ → Bool) → o ≢ x → (InTime judged st.clock (record_at st x) → InTime judged st.clock r) →
    (holders_in (put_record x r st) o ≡ Some 0 → holders_in st o ≡ Some 0) → Punctual st o e judged → Punctual (put_record x r st) o e judged
write_onward x r st o e judged ne f back p =
    punctual (put_record x r st) o e judged (write_intime judged x r st o f (in_time st o e judged p)) (λ z. due_write x r st o e ne (p.due (back z)))

give_onward : (x n : ℕ) (st : State) (o e : ℕ) (judged : ℕ → Bool) → 1 ≤ n →
    holders_in (put_record x (given_to n (record_at st x)) st) ≡ put_at x (Some n) (holders_in st) →
    Punctual st o e judged → Punctual (put_record x (given_to n (record_at st x)) st) o e judged
give_onward x n st o e judged any is p =
    let r = given_to n (record_at st x) in
    let at : (q : ℕ) → holders_in (put_record x r st) q ≡ put_at x (Some n) (holders_in st) q = λ q. ap (λ (f : ℕ → Option ℕ). f q) is in
    let new : InTime judged st.clock (record_at st x) → InTime judged st.clock r = λ _. unlisted_intime judged st.clock r refl in
    ⊎_elim
    (λ (e1 : o ≡ x). punctual (put_record x r st) o e judged (write_intime judged x r st o new (in_time st o e judged p))
    (λ z.
    let now = at o ∙ ap (put_at x (Some n) (holders_in st)) e1 ∙ put_here x (Some n) (holders_in st) in
    let zero_n : n ≡ 0 = cc in
    absurd (omega arith)))
    (λ (ne : o ≢ x). write_onward x r st o e judged ne new (λ z. put_back x o (Some n) (holders_in st) ne (sym (at o) ∙ z)) p)
    (cases_eq o x)

gain_onward : (core x : ℕ) (st : State) (o e : ℕ) (judged : ℕ → Bool) → core < st.clock.cores → 1 ≤ o →
    holders_in (shift Gain core x st) ≡ put_at x (Some (how_many (holders_in st x) + 1)) (holders_in st) →
    Punctual st o e judged → Punctual (shift Gain core x st) o e judged
gain_onward core x st o e judged lc some is p =
    let n = how_many (holders_in st x) in
    let at : (q : ℕ) → holders_in (shift Gain core x st) q ≡ put_at x (Some (n + 1)) (holders_in st) q = λ q. ap (λ (f : ℕ → Option ℕ). f q) is in
    ⊎_elim
    (λ (e1 : o ≡ x). shift_here Gain core x st o e e judged lc (λ z. absurd (put_not x o n (holders_in st) e1 (sym (at o) ∙ z))) p)
    (λ (ne : o ≢ x). shift_onward Gain core x st o e judged lc some ne (λ z. put_back x o _ (holders_in st) ne (sym (at o) ∙ z)) p)
    (cases_eq o x)

loss_onward : (core x : ℕ) (st : State) (o : ℕ) (since : ℕ → ℕ) (judged : ℕ → Bool) → core < st.clock.cores → 1 ≤ o →
    delta_meaning (shift Loss core x st) ≡ clock_meaning st.clock (put_at x (Some (how_many (holders_in st x) - 1)) (holders_in st)) →
    Punctual st o (since o) judged → Punctual (shift Loss core x st) o (put_at x st.clock.epoch since o) judged
loss_onward core x st o since judged lc some is p =
    let t = shift Loss core x st in
    let v : Option ℕ = Some (how_many (holders_in st x) - 1) in
    let at : (q : ℕ) → holders_in t q ≡ put_at x v (holders_in st) q = λ q. ap (λ (m : Meaning). m.holders q) is in
    let epoch : t.clock.epoch ≡ st.clock.epoch = ap (λ (m : Meaning). m.epoch) is in
    ⊎_elim
    (λ (e1 : o ≡ x).
    let now : put_at x st.clock.epoch since o ≡ st.clock.epoch = ap (put_at x st.clock.epoch since) e1 ∙ put_here x st.clock.epoch since in
    shift_here Loss core x st o (since o) _ judged lc (λ z. due_new t o _ (omega (arith, now, epoch))) p)
    (λ (ne : o ≢ x).
    subst (λ (e : ℕ). Punctual t o e judged) (sym (put_elsewhere x st.clock.epoch since o ne))
    (shift_onward Loss core x st o (since o) judged lc some ne (λ z. put_back x o v (holders_in st) ne (sym (at o) ∙ z)) p))
    (cases_eq o x)

-- a revival clears the condemned mark first: of the object itself only the listing matters then
revive_onward : (core x : ℕ) (st : State) (o e : ℕ) (judged : ℕ → Bool) → core < st.clock.cores → 1 ≤ o →
    holders_in (shift Gain core x (spare_at x st)) ≡ put_at x (Some (how_many (holders_in st x) + 1)) (holders_in st) →
    Punctual st o e judged → Punctual (shift Gain core x (spare_at x st)) o e judged
revive_onward core x st o e judged lc some is p =
    let n = how_many (holders_in st x) in
    let u = spare_at x st in
    let t = shift Gain core x u in
    let at : (q : ℕ) → holders_in t q ≡ put_at x (Some (n + 1)) (holders_in st) q = λ q. ap (λ (f : ℕ → Option ℕ). f q) is in
    let kept : InTime judged st.clock (record_at st x) → InTime judged st.clock (spared (record_at st x)) =
    same_intime judged st.clock (record_at st x) (spared (record_at st x)) refl refl in
    let listed : StateInTime judged u o = write_intime judged x (spared (record_at st x)) st o kept (in_time st o e judged p) in
    punctual t o e judged (room_intime judged Gain core x u o lc listed)
    (λ z. ⊎_elim
    (λ (e1 : o ≡ x). absurd (put_not x o n (holders_in st) e1 (sym (at o) ∙ z)))
    (λ (ne : o ≢ x).
    due_moved Gain core x (make_room Gain core x u) o e ne
    (due_room Gain core x u o e some (due_write x (spared (record_at st x)) st o e ne (p.due (put_back x o _ (holders_in st) ne (sym (at o) ∙ z))))))
    (cases_eq o x))

fold_onward : (core : ℕ) (st : State) (o e : ℕ) (judged : ℕ → Bool) → core < st.clock.cores → 1 ≤ o → Sound st →
    delta_meaning (state_after (Fold core) st) ≡ has_folded core (delta_meaning st) → Punctual st o e judged → Punctual (state_after (Fold core) st) o e judged
fold_onward core st o e judged lc some sound is p =
    punctual (state_after (Fold core) st) o e judged (mark_intime judged core st o lc (in_time st o e judged p))
    (λ z. due_all core st o e (omega (arith, sound.ready.cores)) some sound.ready (p.due (sym (ap (λ (m : Meaning). m.holders o) is) ∙ z)))

-- what has no holders after a judgement had none before
judged_back : (m n : Meaning) (x : ℕ) (dead : Bool) (o : ℕ) → Judged m x dead n → n.holders o ≡ Some 0 → m.holders o ≡ Some 0
judged_back m n x false o j z = sym (ap (λ (k : Meaning). k.holders o) j) ∙ z
judged_back m n x true o j z =
    ⊎_elim
    (λ (e : o ≡ x). let now = ap (λ (k : Meaning). k.holders o) j.1 ∙ ap (put_at x None m.holders) e ∙ put_here x None m.holders in absurd cc)
    (λ (ne : o ≢ x). put_back x o None m.holders ne (sym (ap (λ (k : Meaning). k.holders o) j.1) ∙ z))
    (cases_eq o x)

judge_onward : (core x : ℕ) (dead : Bool) (st : State) (o e : ℕ) (p : Timeline) → x ≤ 1024 → Sound st → Judged (delta_meaning st) x dead (delta_meaning (judge_at core x st)) →
    Punctual st o e (λ c. p.judged c o) → Punctual (judge_at core x st) o e (λ c. (note_judgement core x p).judged c o)
judge_onward core x dead st o e p known sound is on =
    let lt : x < length st.records = omega (arith, sound.ready.room) in
    let t = judge_at core x st in
    let before = judge_state (λ c. p.judged c o) core x st o (in_time st o e (λ c. p.judged c o) on) in
    record {
      timed = before.0;
      seen = λ c j. ⊎_elim
          (λ (e1 : o ≡ x). ⊎_elim
          (λ (e2 : c ≡ core). subst (λ (q : ℕ). Seen st.clock q (record_at t o)) (sym e2) (subst (λ (q : ℕ). Seen st.clock core (record_at t q)) (sym e1) (judge_sees core x st lt)))
          (λ (ne : c ≢ core). before.1 c (sym (ap (λ (f : ℕ → Bool). f o) (put_elsewhere core (put_at x true (p.judged core)) p.judged c ne)) ∙ j))
          (cases_eq c core))
          (λ (ne : o ≢ x). before.1 c (sym (judged_other core x c o p ne) ∙ j))
          (cases_eq o x);
      due = λ z.
          let was = judged_back (delta_meaning st) (delta_meaning t) x dead o is z in
          due_judge core x st o e lt on.timed was (unheld_parts t o z).0 (on.due was);
    }

close_onward : (core : ℕ) (st : State) (o e : ℕ) (judged : ℕ → ℕ → Bool) (last : Bool) → 1 ≤ o → Sound st → last ≡ last_to_close core st.clock →
    Rattle.model.specs.CoreSets.member st.clock.folded.bits core ≡ true → judged core o ≡ true →
    Punctual st o e (λ c. judged c o) → Punctual (put_clock (cond last (clock_turned st.clock) (clock_marked core st.clock)) st) o e (λ c. cond last (λ _ _. false) judged c o)
close_onward core st o e judged false some sound is f mine p = record {
  timed = closed_timed core st.clock (record_at st o) (p.seen core mine) p.timed;
  seen = p.seen;
  due = λ z. due_closed core st o e (p.due z);
}
close_onward core st o e judged true some sound is f mine p = record {
  timed = turned_timed core st.clock (record_at st o) (sym is) (closed_timed core st.clock (record_at st o) (p.seen core mine) p.timed);
  seen = λ c j. absurd (both_ways false refl j);
  due = λ z. due_turned st o e some sound (all_folded core st sound f (sym is)) p.timed z (p.due z);
}

close_timeline : (core : ℕ) (last : Bool) (st : State) (o : ℕ) (p : Timeline) → 1 ≤ o → Sound st → last ≡ last_to_close core st.clock →
    Rattle.model.specs.CoreSets.member st.clock.folded.bits core ≡ true → p.judged core o ≡ true → Punctual st o (p.since o) (λ c. p.judged c o) →
    Punctual (put_clock (cond last (clock_turned st.clock) (clock_marked core st.clock)) st) o ((cond last (note_epoch p) p).since o) (λ c. (cond last (note_epoch p) p).judged c o)
close_timeline core true st o p some sound is f mine on = close_onward core st o (p.since o) p.judged true some sound is f mine on
close_timeline core false st o p some sound is f mine on = close_onward core st o (p.since o) p.judged false some sound is f mine on

after_onward : (capacity : ℕ) (revives : Bool) (st : State) (op : Operation) (p : Timeline) → capacity ≤ 1024 → Allowed capacity revives (delta_meaning st) op → Sound st →
    Does op (delta_meaning st) (delta_meaning (state_after op st)) → InTurn capacity op p → OnTime capacity st p → OnTime capacity (state_after op st) (noted op (delta_meaning st) p)
after_onward capacity revives st (Give x n) p small may sound is turn on o obj =
    give_onward x n st o (p.since o) (λ c. p.judged c o) may.2 (ap (λ (m : Meaning). m.holders) is) (on o obj)
after_onward capacity revives st (Up c x) p small may sound is turn on o obj =
    gain_onward c x st o (p.since o) (λ i. p.judged i o) may.1 obj.0 (ap (λ (m : Meaning). m.holders) is) (on o obj)
after_onward capacity revives st (Down c x) p small may sound is turn on o obj =
    loss_onward c x st o p.since (λ i. p.judged i o) may.1 obj.0 is (on o obj)
after_onward capacity revives st (Revive c x) p small may sound is turn on o obj =
    revive_onward c x st o (p.since o) (λ i. p.judged i o) may.1 obj.0 (ap (λ (m : Meaning). m.holders) is) (on o obj)
after_onward capacity revives st (Fold c) p small may sound is turn on o obj =
    fold_onward c st o (p.since o) (λ i. p.judged i o) may obj.0 sound is (on o obj)
after_onward capacity revives st (Judge c x dead) p small may sound is turn on o obj =
    judge_onward c x dead st o (p.since o) p (omega (arith, may.0.1)) sound is (on o obj)
after_onward capacity revives st (Close c) p small may sound is turn on o obj =
    let b = last_to_close c st.clock in
    subst (λ (last : Bool). Punctual (state_after (Close c) st) o ((cond last (note_epoch p) p).since o) (λ i. (cond last (note_epoch p) p).judged i o)) (last_means c st.clock (holders_in st))
    (close_timeline c b st o p obj.0 sound refl may.1 (turn o obj) (on o obj))

pub keeps_time : (capacity : ℕ) (revives : Bool) (st u : State) (op : Operation) (p : Timeline) → capacity ≤ 1024 → Allowed capacity revives (delta_meaning st) op → StateSteps st op u → Sound st →
    InTurn capacity op p → OnTime capacity st p → OnTime capacity u (noted op (delta_meaning st) p)
keeps_time capacity revives st u op p small may step sound turn on =
    let is : Does op (delta_meaning st) (delta_meaning (state_after op st)) =
    subst (λ (t : State). Does op (delta_meaning st) (delta_meaning t)) step.tables (keeps_meaning capacity revives st u op small may step sound) in
    subst (λ (t : State). OnTime capacity t (noted op (delta_meaning st) p)) (sym step.tables) (after_onward capacity revives st op p small may sound is turn on)

-- at the start nothing is listed and nothing is in use
pub started_time : (capacity cores epoch : ℕ) (p : Timeline) → OnTime capacity (started cores epoch) p
started_time capacity cores epoch p o obj =
    let is = get_d_replicate 1025 blank o in
    let none : is_some (record_at (started cores epoch) o).list ≡ false = ap (λ (r : Record). is_some r.list) is in
    punctual (started cores epoch) o (p.since o) (λ c. p.judged c o) (unlisted_intime (λ c. p.judged c o) (started cores epoch).clock (record_at (started cores epoch) o) none)
    (λ z. let free = free_holders (started cores epoch) o (ap used is) in absurd cc)

pub bound : (capacity : ℕ) (st : State) (p : Timeline) → OnTime capacity st p → (o : ℕ) → Object capacity o → holders_in st o ≡ Some 0 → st.clock.epoch ≤ p.since o + 5
bound capacity st p on o obj z = due_bound st o (p.since o) (on o obj).timed z ((on o obj).due z)
