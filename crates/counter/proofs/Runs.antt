-- What holds of one operation holds of a run.
use Rattle.std.proofs.Common.{◌≡◌, ℕ, Bool, ◌≢◌, List, [], ◌∷◌, sym, refl, ap, ◌∙◌, subst, ⊎_elim, arith}
use Rattle.std.proofs.lemmas.Bool.{cases_eq, cond_both}
use Rattle.model.specs.CoreSets.{all_below}
use Rattle.counter.specs.Meaning.{Meaning, how_many, has_closed, Operation}
use Rattle.counter.specs.Meaning.Operation.{Give, Up, Down, Revive, Fold, Judge, Close}
use Rattle.counter.specs.Operations.{Allowed}
use Rattle.counter.specs.Timeline.{Timeline, noted, note_epoch, InTurn, Prompt}
use Rattle.counter.specs.Runs.{Run, Unheld, PromptOverRuns}
use Rattle.counter.specs.Meanings.{put_here, put_elsewhere}

-- being on time lasts
run_timely : {S : Type 0} (meaning : S → Meaning) (steps : S → Operation → S → Type 0) (timely : S → Timeline → Type 0) (capacity : ℕ) (revives : Bool) →
    ((s t : S) (op : Operation) (p : Timeline) → Allowed capacity revives (meaning s) op → steps s op t → InTurn capacity op p → timely s p → timely t (noted op (meaning s) p)) →
    (P : Meaning → Type 0) (ops : List Operation) (s t : S) (p q : Timeline) → Run meaning steps capacity revives P ops s p t q → timely s p → timely t q
unfolding Run
run_timely meaning steps timely capacity revives onward P [] s t p q run on =
    subst (λ x. timely t x) (sym run.2) (subst (λ x. timely x p) (sym run.1) on)
run_timely meaning steps timely capacity revives onward P (op ∷ ops) s t p q run on =
    run_timely meaning steps timely capacity revives onward P ops run.0 t (noted op (meaning s) p) q run.5
    (onward s run.0 op p run.2 run.4 run.3 on)

-- an object without holders loses none, so the epoch of its last loss stays
since_stays : (capacity : ℕ) (revives : Bool) (m : Meaning) (op : Operation) (p : Timeline) (o : ℕ) → Allowed capacity revives m op → Unheld o m → (noted op m p).since o ≡ p.since o
since_stays capacity revives m (Give x n) p o may z = refl
since_stays capacity revives m (Up c x) p o may z = refl
since_stays capacity revives m (Down c x) p o may z =
    ⊎_elim
    (λ (e : o ≡ x).
    let none : how_many (m.holders x) ≡ 0 = ap (λ (i : ℕ). how_many (m.holders i)) (sym e) ∙ ap how_many z in
    absurd (omega (arith, may.2, none)))
    (λ (ne : o ≢ x). put_elsewhere x m.epoch p.since o ne)
    (cases_eq o x)
since_stays capacity revives m (Revive c x) p o may z = refl
since_stays capacity revives m (Fold c) p o may z = refl
since_stays capacity revives m (Judge c x dead) p o may z = refl
since_stays capacity revives m (Close c) p o may z =
    cond_both (all_below m.cores (has_closed c m).closed) (note_epoch p) p (λ (q : Timeline). q.since o ≡ p.since o) (λ _. refl) (λ _. refl)

run_since : {S : Type 0} (meaning : S → Meaning) (steps : S → Operation → S → Type 0) (capacity : ℕ) (revives : Bool) (o : ℕ)
    (ops : List Operation) (s t : S) (p q : Timeline) → Run meaning steps capacity revives (Unheld o) ops s p t q → q.since o ≡ p.since o
unfolding Run
run_since meaning steps capacity revives o [] s t p q run = ap (λ (x : Timeline). x.since o) run.2
run_since meaning steps capacity revives o (op ∷ ops) s t p q run =
    run_since meaning steps capacity revives o ops run.0 t (noted op (meaning s) p) q run.5 ∙ since_stays capacity revives (meaning s) op p o run.2 run.1

-- what holds of every meaning on the way holds of the last
run_last : {S : Type 0} (meaning : S → Meaning) (steps : S → Operation → S → Type 0) (capacity : ℕ) (revives : Bool) (P : Meaning → Type 0)
    (ops : List Operation) (s t : S) (p q : Timeline) → Run meaning steps capacity revives P ops s p t q → P (meaning t)
unfolding Run
run_last meaning steps capacity revives P [] s t p q run = subst (λ x. P (meaning x)) (sym run.1) run.0
run_last meaning steps capacity revives P (op ∷ ops) s t p q run = run_last meaning steps capacity revives P ops run.0 t (noted op (meaning s) p) q run.5

pub prompt_over_runs : {S : Type 0} (meaning : S → Meaning) (steps : S → Operation → S → Type 0) (timely : S → Timeline → Type 0) (prompt : Type 0) (capacity : ℕ) (revives : Bool) →
    ((s t : S) (op : Operation) (p : Timeline) → Allowed capacity revives (meaning s) op → steps s op t → InTurn capacity op p → timely s p → timely t (noted op (meaning s) p)) →
    (prompt → (s : S) (p : Timeline) → timely s p → Prompt capacity (meaning s) p) →
    PromptOverRuns meaning steps timely prompt capacity revives 5
prompt_over_runs meaning steps timely prompt capacity revives onward bound keeps earlier later c o s u v t p q r begin run may step rest =
    let at_loss = run_timely meaning steps timely capacity revives onward _ earlier s u p q run (begin p) in
    let after = onward u v (Down c o) q may step tt at_loss in
    let now = run_timely meaning steps timely capacity revives onward (Unheld o) later v t _ r rest after in
    let since : r.since o ≡ (meaning u).epoch = run_since meaning steps capacity revives o later v t _ r rest ∙ put_here o (meaning u).epoch q.since in
    let unheld : Unheld o (meaning t) = run_last meaning steps capacity revives (Unheld o) later v t _ r rest in
    let le = bound keeps t r now o may.0 unheld in
    omega (arith, since, le)
