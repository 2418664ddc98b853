-- The law of the sum: one slot changes, and the sum changes by the difference. And lists in which one element was written.
use Rattle.std.proofs.Common.{◌≡◌, ℕ, zero, suc, ◌*◌, ◌<◌, ◌≤◌, eqb, List, [], ◌∷◌, length, get_or, set, replicate, ℤ, pos, ◌+ℤ◌, nat_abs, None, Option, sym, refl, subst, arith}
use borrow.Author.Differences.{ints}
use Rattle.std.proofs.lemmas.Bool.{eq-eqb, ne_eqb, cond-true, cond-false, cond_both}
use Rattle.counter.proofs.Lists.{get_d_replicate}
use Rattle.ledger.specs.declared.slot.Delta.{Delta}
use Rattle.ledger.specs.Slots.{sum_of, part, object_in, change_in}

-- one element changed changes the sum by the difference
pub sum_set : {X : Type 0} (f : X → ℤ) (xs : List X) (k : ℕ) (y d : X) → k < length xs →
    sum_of f (set xs k y) +ℤ f (get_or xs k d) ≡ sum_of f xs +ℤ f y
unfolding sum_of
sum_set f [] k y d h = absurd (omega arith)
sum_set f (x ∷ xs) zero y d h = omega (arith, ints)
sum_set f (x ∷ xs) (suc k) y d h = let e = sum_set f xs k y d (omega arith) in omega (arith, ints, e)

pub sum_replicate : {X : Type 0} (f : X → ℤ) (n : ℕ) (x : X) → f x ≡ pos 0 → sum_of f (replicate n x) ≡ pos 0
unfolding sum_of
sum_replicate f zero x e = refl
sum_replicate f (suc n) x e = let r = sum_replicate f n x e in omega (arith, ints, r, e)

-- what holds of each element at its place, after one was written
pub each_set : {X : Type 0} (P : ℕ → X → Type 0) (xs : List X) (i : ℕ) (y d : X) →
    ((k : ℕ) → P k (get_or xs k d)) → P i y → (k : ℕ) → P k (get_or (set xs i y) k d)
each_set P [] i y d all here k = all k
each_set P (x ∷ xs) zero y d all here zero = here
each_set P (x ∷ xs) zero y d all here (suc k) = all (suc k)
each_set P (x ∷ xs) (suc i) y d all here zero = all 0
each_set P (x ∷ xs) (suc i) y d all here (suc k) = each_set (λ j. P (suc j)) xs i y d (λ j. all (suc j)) here k

pub each_replicate : {X : Type 0} (P : ℕ → X → Type 0) (n : ℕ) (x : X) → ((k : ℕ) → P k x) → (k : ℕ) → P k (get_or (replicate n x) k x)
each_replicate P n x h k = subst (P k) (sym (get_d_replicate n x k)) (h k)

-- the part of a slot that has the object, and of one that has it not
pub part_same : (o : ℕ) (s : Option Delta) → object_in s ≡ o → part o s ≡ change_in s
part_same o s e = cond-true (eqb (object_in s) o) (change_in s) (pos 0) (eq-eqb (object_in s) o e)

pub part_other : (o : ℕ) (s : Option Delta) → (object_in s ≡ o → ⊥) → part o s ≡ pos 0
part_other o s ne = cond-false (eqb (object_in s) o) (change_in s) (pos 0) (ne_eqb (object_in s) o ne)

pub part_none : (o : ℕ) → part o None ≡ pos 0
part_none o = cond_both (eqb 0 o) (pos 0) (pos 0) (λ z. z ≡ pos 0) (λ _. refl) (λ _. refl)

-- no slot has the object: the slots change nothing of it
pub sum_none : (o : ℕ) (rows : List (Option Delta)) → ((k : ℕ) → object_in (get_or rows k None) ≡ o → ⊥) → sum_of (part o) rows ≡ pos 0
unfolding sum_of
sum_none o [] h = refl
sum_none o (s ∷ rows) h =
    let one = part_other o s (h 0) in
    let more = sum_none o rows (λ k. h (suc k)) in
    omega (arith, ints, one, more)

-- the slots change no count by more than a hundred each
pub sum_small : (o : ℕ) (rows : List (Option Delta)) → ((k : ℕ) → nat_abs (change_in (get_or rows k None)) ≤ 100) →
    nat_abs (sum_of (part o) rows) ≤ 100 * length rows
unfolding sum_of
sum_small o [] h = omega arith
sum_small o (s ∷ rows) h =
    let more = sum_small o rows (λ k. h (suc k)) in
    let one : nat_abs (part o s) ≤ 100 = cond_both (eqb (object_in s) o) (change_in s) (pos 0) (λ z. nat_abs z ≤ 100) (λ _. h 0) (λ _. omega arith) in
    omega (arith, ints, more, one)
