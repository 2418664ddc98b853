-- Holders after a write.
use Rattle.std.proofs.Common.{◌≡◌, ℕ, zero, suc, ◌+◌, ◌<◌, ◌≤◌, cond, eqb, List, sym, refl, ap, ⊎_elim, arith}
use Rattle.std.proofs.lemmas.Bool.{cases_eq, cond_both}
use Rattle.tree.specs.declared.slot.Slot.{Slot}
use Rattle.tree.specs.declared.slot.Slot.TheVariants.{Vacant, Child, Value}
use Rattle.tree.specs.Nodes.{slot_at}
use Rattle.tree.specs.Holders.{taken, held, holders}

pub held_same : (xs ys : List Slot) (n k : ℕ) → ((t : ℕ) → t < k → slot_at ys n t ≡ slot_at xs n t) → held ys n k ≡ held xs n k
unfolding held
held_same xs ys n zero h = refl
held_same xs ys n (suc k) h =
    let a = held_same xs ys n k (λ t ht. h t (omega arith)) in
    let b = ap taken (h k (omega arith)) in
    omega (arith, a, b)

pub held_gain : (xs ys : List Slot) (n s k : ℕ) → s < k → taken (slot_at xs n s) ≡ 0 → taken (slot_at ys n s) ≡ 1 →
    ((t : ℕ) → t < k → (t ≡ s → ⊥) → slot_at ys n t ≡ slot_at xs n t) → held ys n k ≡ held xs n k + 1
unfolding held
held_gain xs ys n s zero hs was is h = absurd (omega arith)
held_gain xs ys n s (suc k) hs was is h = ⊎_elim
    (λ (e : s ≡ k).
    let a = held_same xs ys n k (λ t ht. h t (omega arith) (λ x. omega (arith, x, e, ht))) in
    let u = ap (λ (i : ℕ). taken (slot_at xs n i)) e in
    let v = ap (λ (i : ℕ). taken (slot_at ys n i)) e in
    omega (arith, a, u, v, was, is))
    (λ (ne : s ≡ k → ⊥).
    let a = held_gain xs ys n s k (omega arith) was is (λ t ht. h t (omega arith)) in
    let b = ap taken (h k (omega arith) (λ x. ne (sym x))) in
    omega (arith, a, b))
    (cases_eq s k)

pub held_none : (xs : List Slot) (n k : ℕ) → ((t : ℕ) → t < k → slot_at xs n t ≡ Vacant) → held xs n k ≡ 0
unfolding held
held_none xs n zero h = refl
held_none xs n (suc k) h =
    let a = held_none xs n k (λ t ht. h t (omega arith)) in
    let b = ap taken (h k (omega arith)) in
    omega (arith, a, b)

pub holders_same : (xs ys : List Slot) (n : ℕ) → ((t : ℕ) → t < 64 → slot_at ys n t ≡ slot_at xs n t) → holders ys n ≡ holders xs n
holders_same xs ys n h = ap (λ (x : ℕ). cond (eqb n 1) 1 0 + x) (held_same xs ys n 64 h)

pub holders_gain : (xs ys : List Slot) (n s : ℕ) → s < 64 → taken (slot_at xs n s) ≡ 0 → taken (slot_at ys n s) ≡ 1 →
    ((t : ℕ) → t < 64 → (t ≡ s → ⊥) → slot_at ys n t ≡ slot_at xs n t) → holders ys n ≡ holders xs n + 1
holders_gain xs ys n s hs was is h = let a = held_gain xs ys n s 64 hs was is h in omega (arith, a)

taken_small : (x : Slot) → taken x ≤ 1
taken_small Vacant = omega arith
taken_small (Child k) = omega arith
taken_small (Value e) = omega arith

held_small : (xs : List Slot) (n k : ℕ) → held xs n k ≤ k
unfolding held
held_small xs n zero = omega arith
held_small xs n (suc k) = let a = held_small xs n k in let b = taken_small (slot_at xs n k) in omega (arith, a, b)

pub holders_small : (xs : List Slot) (n : ℕ) → holders xs n ≤ 65
holders_small xs n =
    let a = held_small xs n 64 in
    let b : cond (eqb n 1) 1 0 ≤ 1 = cond_both (eqb n 1) 1 0 (λ (x : ℕ). x ≤ 1) (λ _. omega arith) (λ _. omega arith) in
    omega (arith, a, b)
