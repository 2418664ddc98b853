-- One slot of the arena is set.
use Rattle.std.proofs.Common.{◌≡◌, ℕ, ◌+◌, ◌*◌, ◌<◌, ◌⊎◌, List, length, get_or, set, ap, ◌∙◌, inl, inr, ⊎_elim, arith, get_or-set_other, get_or-set_same}
use Rattle.std.proofs.lemmas.Bool.{cases_eq}
use Rattle.tree.specs.declared.slot.Slot.{Slot}
use Rattle.tree.specs.declared.slot.Slot.TheVariants.{Vacant}
use Rattle.tree.specs.Nodes.{slot_at}

pub put_same : (xs : List Slot) (n s : ℕ) (w : Slot) → length xs ≡ 4160 → n < 65 → s < 64 → slot_at (set xs (n * 64 + s) w) n s ≡ w
put_same xs n s w wide hn hs = get_or-set_same xs (n * 64 + s) w Vacant (omega arith)

pub put_other : (xs : List Slot) (n s : ℕ) (w : Slot) → s < 64 → (m t : ℕ) → t < 64 → (m ≡ n → t ≡ s → ⊥) → slot_at (set xs (n * 64 + s) w) m t ≡ slot_at xs m t
put_other xs n s w hs m t ht ne = get_or-set_other xs (n * 64 + s) (m * 64 + t) w Vacant (λ e. ne (omega arith) (omega arith))

-- what stands at m t after the write at n s
pub put_cases : (xs : List Slot) (n s : ℕ) (w : Slot) → length xs ≡ 4160 → n < 65 → s < 64 → (m t : ℕ) → t < 64 →
    ((m ≡ n) × (t ≡ s) × (slot_at (set xs (n * 64 + s) w) m t ≡ w)) ⊎ ((m ≡ n → t ≡ s → ⊥) × (slot_at (set xs (n * 64 + s) w) m t ≡ slot_at xs m t))
put_cases xs n s w wide hn hs m t ht =
    ⊎_elim
    (λ (e : m ≡ n). ⊎_elim
    (λ (f : t ≡ s). inl (e, f, ap (λ (i : ℕ). get_or (set xs (n * 64 + s) w) i Vacant) (omega arith) ∙ put_same xs n s w wide hn hs))
    (λ (f : t ≡ s → ⊥). inr (λ _ g. f g, put_other xs n s w hs m t ht (λ _ g. f g)))
    (cases_eq t s))
    (λ (e : m ≡ n → ⊥). inr (λ g _. e g, put_other xs n s w hs m t ht (λ g _. e g)))
    (cases_eq m n)
