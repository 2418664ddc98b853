-- What a judgement and a close leave as it was, for callers that go on after one.
use Rattle.std.specs.Prelude.{◌≡◌, ℕ, Bool, true, false, ◌≢◌, None, ◌==◌, refl}
use Rattle.std.proofs.Common.{sym, ap, ◌∙◌, ⊎_elim}
use Rattle.std.proofs.lemmas.Bool.{eq-eqb, ne_eqb, cases_eq, cond-true, cond-false, cond_both}
use Rattle.model.specs.CoreSets.{all_below}
use Rattle.counter.specs.Timeline.{Timeline, note_judgement}
use Rattle.counter.specs.Meaning.{Meaning, put_at, with_holders, has_closed, next_epoch, closes, Judged}

-- a function with x put at k
pub put_here : {X : Type 0} (k : ℕ) (x : X) (f : ℕ → X) → put_at k x f k ≡ x
put_here k x f = cond-true (k == k) x (f k) (eq-eqb k k refl)

pub put_elsewhere : {X : Type 0} (k : ℕ) (x : X) (f : ℕ → X) (q : ℕ) → q ≢ k → put_at k x f q ≡ f q
put_elsewhere k x f q ne = cond-false (q == k) x (f q) (ne_eqb q k ne)

-- a function that is x at k and f elsewhere
pub put_is : {X : Type 0} (k : ℕ) (x : X) (f g : ℕ → X) → g k ≡ x → ((q : ℕ) → q ≢ k → g q ≡ f q) → (q : ℕ) → g q ≡ put_at k x f q
put_is k x f g here rest q =
    ⊎_elim
    (λ (e : q ≡ k). ap g e ∙ here ∙ sym (cond-true (q == k) x (f q) (eq-eqb q k e)))
    (λ (ne : q ≢ k). rest q ne ∙ sym (put_elsewhere k x f q ne))
    (cases_eq q k)

-- a judgement leaves all but the holders: the cores, the epoch and the marks
pub judged_rest : (m : Meaning) (o : ℕ) (dead : Bool) (n : Meaning) → Judged m o dead n → n ≡ with_holders n.holders m
judged_rest m o true n j = rw j.1 refl
judged_rest m o false n j = rw j refl

-- the holders of the other objects
pub judged_others : (m : Meaning) (o : ℕ) (dead : Bool) (n : Meaning) → Judged m o dead n → (q : ℕ) → q ≢ o → n.holders q ≡ m.holders q
judged_others m o true n j q ne = ap (λ (x : Meaning). x.holders q) j.1 ∙ put_elsewhere o None m.holders q ne
judged_others m o false n j q ne = ap (λ (x : Meaning). x.holders q) j

-- a close changes no holders and no cores in service
pub closes_holders : (c : ℕ) (m : Meaning) → (closes c m).holders ≡ m.holders
closes_holders c m =
    cond_both (all_below m.cores (has_closed c m).closed) (next_epoch m) (has_closed c m) (λ (n : Meaning). n.holders ≡ m.holders) (λ _. refl) (λ _. refl)

pub closes_cores : (c : ℕ) (m : Meaning) → (closes c m).cores ≡ m.cores
closes_cores c m =
    cond_both (all_below m.cores (has_closed c m).closed) (next_epoch m) (has_closed c m) (λ (n : Meaning). n.cores ≡ m.cores) (λ _. refl) (λ _. refl)

-- what is noted of object o tells nothing new of another
pub judged_other : (c o d q : ℕ) (p : Timeline) → q ≢ o → (note_judgement c o p).judged d q ≡ p.judged d q
judged_other c o d q p ne =
    ⊎_elim
    (λ (e : d ≡ c).
    ap (λ (f : ℕ → Bool). f q) (ap (put_at c (put_at o true (p.judged c)) p.judged) e ∙ put_here c (put_at o true (p.judged c)) p.judged)
    ∙ put_elsewhere o true (p.judged c) q ne ∙ ap (λ (i : ℕ). p.judged i q) (sym e))
    (λ (apart : d ≢ c). ap (λ (f : ℕ → Bool). f q) (put_elsewhere c (put_at o true (p.judged c)) p.judged d apart))
    (cases_eq d c)
