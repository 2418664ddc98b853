-- The plain count keeps its meaning, and judges every object without holders in the epoch after the loss.
use Rattle.std.specs.Prelude.{◌≡◌, ℕ, ◌<◌, ◌≤◌, Bool, true, false, cond, ◌≢◌, length, Some, None, Option, refl}
use Rattle.std.proofs.Common.{sym, ap, subst, ◌∙◌, ⊎_elim, arith, get_or-set_same, get_or-set_other}
use Rattle.std.proofs.Math.Path.{fun_ext}
use Rattle.std.proofs.lemmas.Bool.{eqb-true, cases_eq, cases_lt, both_ways}
use Rattle.counter.specs.Meaning.{put_at, with_holders, Operation}
use Rattle.counter.specs.Meaning.Operation.{Give, Up, Down, Revive, Fold, Judge, Close}
use Rattle.counter.specs.Operations.{Allowed, Does}
use Rattle.counter.specs.Timeline.{Timeline, note_loss, note_judgement, note_epoch, noted, InTurn, Swept}
use Rattle.counter.specs.Clocks.{clock_meaning, clock_turned, clock_marked, last_to_close}
use Rattle.counter.specs.Plain.{Table, count_at, table_meaning, unheld, put_count, at_clock, table_after, TableSteps, TableTimely}
use Rattle.counter.specs.ClocksLemmas.{folds_means, closes_means, last_means}
use Rattle.counter.specs.Meanings.{put_here, put_elsewhere, put_is, judged_other}

-- a table in which one count was written
count_here : (o : ℕ) (x : Option ℕ) (t : Table) → o < length t.counts → count_at (put_count o x t) o ≡ x
count_here o x t lt = get_or-set_same t.counts o x None lt

count_other : (o q : ℕ) (x : Option ℕ) (t : Table) → q ≢ o → count_at (put_count o x t) q ≡ count_at t q
count_other o q x t ne = get_or-set_other t.counts o q x None ne

count_means : (o : ℕ) (x : Option ℕ) (t : Table) → o < length t.counts →
    table_meaning (put_count o x t) ≡ with_holders (put_at o x (count_at t)) (table_meaning t)
count_means o x t lt =
    ap (clock_meaning t.clock) (fun_ext (put_is o x (count_at t) (count_at (put_count o x t)) (count_here o x t lt) (λ q ne. count_other o q x t ne)))

-- an object without holders is one that the answer finds
unheld_is : (x : Option ℕ) → true ≡ unheld x → x ≡ Some 0
unheld_is None e = absurd (both_ways false refl (sym e))
unheld_is (Some n) e = ap Some (eqb-true n 0 (sym e))

held_not : (x : Option ℕ) → false ≡ unheld x → x ≢ Some 0
held_not x e z = both_ways (unheld x) (sym e) (ap unheld z)

-- The meaning

pub plain_means : (capacity : ℕ) (revives : Bool) (t u : Table) (op : Operation) → capacity < length t.counts →
    Allowed capacity revives (table_meaning t) op → TableSteps t op u → Does op (table_meaning t) (table_meaning u)
plain_means capacity revives t u (Give o n) room may step = ap table_meaning step.tables ∙ count_means o _ t (omega (arith, may.0.1))
plain_means capacity revives t u (Up c o) room may step = ap table_meaning step.tables ∙ count_means o _ t (omega (arith, may.0.1))
plain_means capacity revives t u (Down c o) room may step = ap table_meaning step.tables ∙ count_means o _ t (omega (arith, may.0.1))
plain_means capacity revives t u (Revive c o) room may step = ap table_meaning step.tables ∙ count_means o _ t (omega (arith, may.0.1))
plain_means capacity revives t u (Fold c) room may step = ap table_meaning step.tables ∙ folds_means c t.clock (count_at t)
plain_means capacity revives t u (Judge c o true) room may step =
    (unheld_is (count_at t o) step.answer, ap table_meaning step.tables ∙ count_means o None t (omega (arith, may.0.1)))
plain_means capacity revives t u (Judge c o false) room may step = ap table_meaning step.tables
plain_means capacity revives t u (Close c) room may step = ap table_meaning step.tables ∙ closes_means c t.clock (count_at t)

-- The time

-- an object that now has holders is not without
held_timely : (capacity o n : ℕ) (t : Table) (p : Timeline) → o < length t.counts → 1 ≤ n → TableTimely capacity t p →
    TableTimely capacity (put_count o (Some n) t) p
held_timely capacity o n t p lt some timely q is z =
    ⊎_elim
    (λ (e : q ≡ o).
    let now = ap (count_at (put_count o (Some n) t)) e ∙ count_here o (Some n) t lt in
    let was : n ≡ 0 = cc in
    absurd (omega arith))
    (λ (ne : q ≢ o). let s = timely q is (sym (count_other o q (Some n) t ne) ∙ z) in record { soon = s.soon; unseen = s.unseen })
    (cases_eq q o)

loss_timely : (capacity o n : ℕ) (t : Table) (p : Timeline) → TableTimely capacity t p →
    TableTimely capacity (put_count o (Some n) t) (note_loss o t.clock.epoch p)
loss_timely capacity o n t p timely q is z =
    let epoch = t.clock.epoch in
    ⊎_elim
    (λ (e : q ≡ o).
    let now : put_at o epoch p.since q ≡ epoch = ap (put_at o epoch p.since) e ∙ put_here o epoch p.since in
    record { soon = omega (arith, now); unseen = λ lt. absurd (omega (arith, now)) })
    (λ (ne : q ≢ o).
    let s = timely q is (sym (count_other o q (Some n) t ne) ∙ z) in
    let was : put_at o epoch p.since q ≡ p.since q = put_elsewhere o epoch p.since q ne in
    record { soon = omega (arith, was, s.soon); unseen = λ lt. s.unseen (omega (arith, was)) })
    (cases_eq q o)

-- after a judgement, what has no holders is another object
judge_leaves : (o q : ℕ) (dead : Bool) (t : Table) → o < length t.counts → dead ≡ unheld (count_at t o) →
    count_at (cond dead (put_count o None t) t) q ≡ Some 0 → (q ≢ o) × (count_at t q ≡ Some 0)
judge_leaves o q true t lt answer z =
    let ne : q ≢ o = λ e. (let now = ap (count_at (put_count o None t)) e ∙ count_here o None t lt in cc) in
    (ne, sym (count_other o q None t ne) ∙ z)
judge_leaves o q false t lt answer z = (λ e. held_not (count_at t o) answer (ap (count_at t) (sym e) ∙ z), z)

same_epoch : (dead : Bool) (o : ℕ) (t : Table) → (cond dead (put_count o None t) t).clock.epoch ≡ t.clock.epoch
same_epoch true o t = refl
same_epoch false o t = refl

judge_timely : (capacity c o : ℕ) (dead : Bool) (t : Table) (p : Timeline) → o < length t.counts → dead ≡ unheld (count_at t o) → TableTimely capacity t p →
    TableTimely capacity (cond dead (put_count o None t) t) (note_judgement c o p)
judge_timely capacity c o dead t p lt answer timely q is z =
    let left = judge_leaves o q dead t lt answer z in
    let s = timely q is left.1 in
    let epoch : (cond dead (put_count o None t) t).clock.epoch ≡ t.clock.epoch = same_epoch dead o t in
    record {
      soon = omega (arith, epoch, s.soon);
      unseen = λ lost d. judged_other c o d q p left.0 ∙ s.unseen (omega (arith, epoch)) d;
    }

-- a core that has judged every object has found each that lost its last holder before this epoch
close_timely : (capacity c : ℕ) (last : Bool) (t : Table) (p : Timeline) → Swept capacity c p → TableTimely capacity t p →
    TableTimely capacity (at_clock (cond last (clock_turned t.clock) (clock_marked c t.clock)) t) (cond last (note_epoch p) p)
close_timely capacity c false t p swept timely q is z = let s = timely q is z in record { soon = s.soon; unseen = s.unseen }
close_timely capacity c true t p swept timely q is z =
    let s = timely q is z in
    let fresh : t.clock.epoch ≤ p.since q =
    ⊎_elim (λ (lt : p.since q < t.clock.epoch). absurd (both_ways _ (s.unseen lt c) (swept q is))) (λ (le : t.clock.epoch ≤ p.since q). le)
    (cases_lt (p.since q) t.clock.epoch) in
    record { soon = omega (arith, fresh); unseen = λ _ d. refl }

pub plain_onward : (capacity : ℕ) (revives : Bool) (t u : Table) (op : Operation) (p : Timeline) → capacity < length t.counts →
    Allowed capacity revives (table_meaning t) op → TableSteps t op u → InTurn capacity op p → TableTimely capacity t p →
    TableTimely capacity u (noted op (table_meaning t) p)
plain_onward capacity revives t u (Give o n) p room may step turn timely =
    subst (λ (v : Table). TableTimely capacity v p) (sym step.tables) (held_timely capacity o n t p (omega (arith, may.0.1)) may.2 timely)
plain_onward capacity revives t u (Up c o) p room may step turn timely =
    subst (λ (v : Table). TableTimely capacity v p) (sym step.tables) (held_timely capacity o _ t p (omega (arith, may.0.1)) (omega arith) timely)
plain_onward capacity revives t u (Down c o) p room may step turn timely =
    subst (λ (v : Table). TableTimely capacity v (note_loss o t.clock.epoch p)) (sym step.tables) (loss_timely capacity o _ t p timely)
plain_onward capacity revives t u (Revive c o) p room may step turn timely =
    subst (λ (v : Table). TableTimely capacity v p) (sym step.tables) (held_timely capacity o _ t p (omega (arith, may.0.1)) (omega arith) timely)
plain_onward capacity revives t u (Fold c) p room may step turn timely =
    subst (λ (v : Table). TableTimely capacity v p) (sym step.tables) (λ q is z. let s = timely q is z in record { soon = s.soon; unseen = s.unseen })
plain_onward capacity revives t u (Judge c o dead) p room may step turn timely =
    subst (λ (v : Table). TableTimely capacity v (note_judgement c o p)) (sym step.tables) (judge_timely capacity c o dead t p (omega (arith, may.0.1)) step.answer timely)
plain_onward capacity revives t u (Close c) p room may step turn timely =
    subst (λ (v : Table). TableTimely capacity v (noted (Close c) (table_meaning t) p)) (sym step.tables)
    (subst (λ (b : Bool). TableTimely capacity (table_after (Close c) t) (cond b (note_epoch p) p)) (last_means c t.clock (count_at t))
    (close_timely capacity c (last_to_close c t.clock) t p turn timely))
