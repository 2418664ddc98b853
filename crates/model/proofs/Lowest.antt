-- The lowest page that fits is the one that the definition finds.
use Rattle.std.proofs.Common.{◌≡◌, ℕ, zero, suc, ◌+◌, ◌<◌, ◌≤◌, Bool, true, false, cond, Some, None, Option, refl, ap, ◌∙◌, ⊎_elim, arith}
use Rattle.std.proofs.lemmas.Bool.{cases_eq}
use Rattle.model.specs.Flat.{lowest, Lowest}

both_ways : {b : Bool} → b ≡ true → b ≡ false → ⊥
both_ways p q = let z : ◌≡◌ {A = ℕ} 0 1 = cc in omega arith

later : (f : ℕ → Bool) (first last : ℕ) (r : Option ℕ) → f first ≡ false → Lowest f first last r → Lowest f (first + 1) last r
later f first last None isnt h = λ q a b. h q (omega arith) b
later f first last (Some p) isnt h =
    let ne : p ≡ first → ⊥ = λ e. both_ways h.2 (ap f e ∙ isnt) in
    (omega (arith, h.0), h.1, h.2, λ q a b. h.3 q (omega arith) b)

found : (f : ℕ → Bool) (first last : ℕ) (r : Option ℕ) → first < last → f first ≡ true → Lowest f first last r → r ≡ Some first
found f first last None lt does h = absurd (both_ways does (h first (omega arith) lt))
found f first last (Some p) lt does h = ⊎_elim
    (λ (e : p ≡ first). ap Some e)
    (λ (ne : p ≡ first → ⊥). absurd (both_ways does (h.3 first (omega arith) (omega (arith, h.0)))))
    (cases_eq p first)

none_of : (f : ℕ → Bool) (first last : ℕ) (r : Option ℕ) → last ≤ first → Lowest f first last r → r ≡ None
none_of f first last None le h = refl
none_of f first last (Some p) le h = absurd (omega (arith, h.0, h.1))

split : (f : ℕ → Bool) (first last : ℕ) (r rest : Option ℕ) → first < last → (f first ≡ false → r ≡ rest) → Lowest f first last r → (b : Bool) → f first ≡ b → r ≡ cond b (Some first) rest
split f first last r rest lt more h true p = found f first last r lt p h
split f first last r rest lt more h false p = more p

pub lowest_is : (f : ℕ → Bool) (count first last : ℕ) (r : Option ℕ) → first + count ≡ last → Lowest f first last r → r ≡ lowest f first count
unfolding lowest
lowest_is f zero first last r e h = none_of f first last r (omega arith) h
lowest_is f (suc count) first last r e h =
    split f first last r (lowest f (first + 1) count) (omega arith)
    (λ isnt. lowest_is f count (first + 1) last r (omega arith) (later f first last r isnt h)) h (f first) refl

-- where nothing is found, nothing in the range fits
step_none : (b : Bool) (first : ℕ) (rest : Option ℕ) → cond b (Some first) rest ≡ None → (b ≡ false) × (rest ≡ None)
step_none true first rest e = absurd (let z : ◌≡◌ {A = ℕ} 0 1 = cc in omega arith)
step_none false first rest e = (refl, e)

pub lowest_none : (f : ℕ → Bool) (count first : ℕ) → lowest f first count ≡ None → (q : ℕ) → first ≤ q → q < first + count → f q ≡ false
unfolding lowest
lowest_none f zero first e q lo hi = absurd (omega arith)
lowest_none f (suc count) first e q lo hi =
    let s = step_none (f first) first (lowest f (first + 1) count) e in
    ⊎_elim
    (λ (same : q ≡ first). ap f same ∙ s.0)
    (λ (ne : q ≡ first → ⊥). lowest_none f count (first + 1) s.1 q (omega arith) (omega arith))
    (cases_eq q first)
