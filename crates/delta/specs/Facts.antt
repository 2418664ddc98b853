-- Facts about one record: what folding a change and judging leave.
use Rattle.std.specs.Prelude.{◌≡◌, ℕ, ◌+◌, ◌≤◌, true, false, not, ◌&&◌, ℤ, pos, negsuc, ◌+ℤ◌, is_some, Some, None, Option, ◌==◌, ◌≢◌, nat_le, refl}
use Rattle.std.proofs.Common.{sym, ap, ◌∙◌, arith}
use Rattle.std.proofs.lemmas.Bool.{eqb-true, eq-eqb, ne_eqb, lt-leb, le-leb, and_parts, and_from, and_left, or_from, or_left, cond_both, both_ways}
use Rattle.counter.specs.declared.epoch.Clock.{Clock}
use Rattle.ledger.specs.declared.record.Record.{Record}
use Rattle.ledger.specs.Records.{is_zero, with_shared, spared, enlisted, unlisted, after_fold, lists, on_list_of, is_due, firm, verdict, after_judge}
use Rattle.ledger.proofs.Folding.{settled_cases}
use Rattle.delta.specs.Safety.{used, pending, folded_since}

pub is_zero_is : (z : ℤ) → is_zero z ≡ true → z ≡ pos 0
is_zero_is (pos n) e = ap pos (eqb-true n 0 e)
is_zero_is (negsuc n) e = absurd (both_ways false refl e)

pub zero_is : (z : ℤ) → z ≡ pos 0 → is_zero z ≡ true
zero_is z e = ap is_zero e

pub on_some : (l : Option ℕ) (core : ℕ) → lists l core ≡ true → is_some l ≡ true
on_some (Some c) core e = refl
on_some None core e = absurd (both_ways false refl e)

-- a list is some core's
pub some_on : (l : Option ℕ) → is_some l ≡ true → (P : Type 0) → ((c : ℕ) → lists l c ≡ true → P) → P
some_on (Some c) e P f = f c (eq-eqb c c refl)
some_on None e P f = absurd (both_ways false refl e)

-- Folding

-- an object of which a change is reported stays in use
pub after_fold_used : (core epoch : ℕ) (d : ℤ) (r : Record) → used (after_fold core epoch d r) ≡ true
after_fold_used core epoch d r =
    settled_cases (λ q. used q ≡ true) core epoch (with_shared (r.shared +ℤ d) r) (λ listed. rw listed refl) (λ _ _. refl) (λ none more. rw (none, more) refl)

-- and if it is pending then, it was listed just now
pub after_fold_pending : (core epoch : ℕ) (d : ℤ) (r : Record) → pending (after_fold core epoch d r) ≡ true →
    ((after_fold core epoch d r).shared ≡ pos 0) × ((after_fold core epoch d r).listed ≡ epoch)
after_fold_pending core epoch d r =
    settled_cases (λ q. pending q ≡ true → (q.shared ≡ pos 0) × (q.listed ≡ epoch)) core epoch (with_shared (r.shared +ℤ d) r)
    (λ _ p. absurd (both_ways false refl (and_parts (is_some r.list) false p).1))
    (λ _ zero p. (is_zero_is (r.shared +ℤ d) zero, refl))
    (λ none _ p. absurd (both_ways _ none (and_parts (is_some r.list) _ p).0))

-- a revived object is not pending
pub spared_pending : (r : Record) → pending (spared r) ≢ true
spared_pending r p = both_ways false refl (and_parts (not r.disturbed) false (and_parts (is_some r.list) (not r.disturbed && false) p).1).1

-- Cores that have folded since the listing

pub since_late : (k : Clock) (r : Record) (c : ℕ) → r.listed + 2 ≤ k.epoch → folded_since k r c ≡ true
unfolding folded_since
since_late k r c h = or_left (nat_le (r.listed + 2) k.epoch) _ (le-leb (r.listed + 2) k.epoch h)

pub since_fresh : (k : Clock) (r : Record) (c : ℕ) → r.listed ≡ k.epoch → folded_since k r c ≡ false
unfolding folded_since
since_fresh k r c e =
    or_from (nat_le (r.listed + 2) k.epoch) _ (lt-leb (r.listed + 2) k.epoch (omega arith))
    (and_left (r.listed + 1 == k.epoch) _ (ne_eqb (r.listed + 1) k.epoch (omega arith)))

-- Judging

-- the four ways of a judgement
pub judge_cases : (P : Record → Type 0) (core epoch : ℕ) (r : Record) →
    (is_due core epoch r ≡ false → P r) →
    (is_due core epoch r ≡ true → is_zero r.shared ≡ false → P (spared (unlisted r))) →
    (is_due core epoch r ≡ true → is_zero r.shared ≡ true → firm r ≡ false → P (enlisted core epoch r)) →
    (is_due core epoch r ≡ true → is_zero r.shared ≡ true → firm r ≡ true → P (unlisted r)) → P (after_judge core epoch r)
judge_cases P core epoch r early busy again dead =
    cond_both (is_due core epoch r) _ r P
    (λ d. cond_both (is_zero r.shared) _ (spared (unlisted r)) P
    (λ z. cond_both (firm r) (unlisted r) (enlisted core epoch r) P (λ f. dead d z f) (λ f. again d z f))
    (λ z. busy d z))
    (λ d. early d)

pub judge_shared : (core epoch : ℕ) (r : Record) → (after_judge core epoch r).shared ≡ r.shared
judge_shared core epoch r = judge_cases (λ q. q.shared ≡ r.shared) core epoch r (λ _. refl) (λ _ _. refl) (λ _ _ _. refl) (λ _ _ _. refl)

pub due_used : (core epoch : ℕ) (r : Record) → is_due core epoch r ≡ true → used r ≡ true
due_used core epoch r d = or_left (is_some r.list) _ (on_some r.list core (and_parts (on_list_of core r) (nat_le (r.listed + 2) epoch) d).0)

-- a judgement that does not find the object dead leaves it in use, or free
pub judge_spares : (core epoch : ℕ) (r : Record) → verdict core epoch r ≡ false → used (after_judge core epoch r) ≡ used r
judge_spares core epoch r v =
    judge_cases (λ q. used q ≡ used r) core epoch r (λ _. refl) (λ d z. (rw z refl) ∙ sym (due_used core epoch r d)) (λ d z f. sym (due_used core epoch r d))
    (λ d z f. absurd (both_ways _ v (and_from (is_due core epoch r) _ d (and_from (is_zero r.shared) (firm r) z f))))

-- one that does leaves it free
pub judge_frees : (core epoch : ℕ) (r : Record) → verdict core epoch r ≡ true → used (after_judge core epoch r) ≡ false
judge_frees core epoch r v =
    let p = and_parts (is_due core epoch r) (is_zero r.shared && firm r) v in
    let q = and_parts (is_zero r.shared) (firm r) p.1 in
    judge_cases (λ x. used x ≡ false) core epoch r (λ d. absurd (both_ways _ d p.0)) (λ d z. absurd (both_ways _ z q.0)) (λ d z f. absurd (both_ways _ f q.1))
    (λ d z f. rw z refl)
