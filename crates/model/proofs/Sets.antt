-- Laws of sets of cores, at any width.
use Rattle.std.proofs.Common.{MatchBool, length, zero-add, ◌≡◌, ℕ, zero, suc, ◌+◌, ◌-◌, ◌/◌, ◌%◌, ◌^◌, ◌<◌, ◌≤◌, Bool, true, false, not, ◌&&◌, ◌||◌, eqb, ◌≢◌, sym, refl, ap, ◌∙◌, subst, ⊎_elim, lt_of_lt_of_le, mod-lt, mul_comm, one-mul, pow-suc, div-one, add-one, arith, pow_pos, pow_mono, pow-add, shr-shr, shr_lt}
use native.Mathlib.Nat.{div-eq_of_lt}
use Rattle.std.specs.List.{AllWithin, HoldsAt, range_with_len}
use Rattle.std.proofs.lemmas.List.FromFn.{length-range_with_len, get_or-range_with_len}
use lib.Bits.{bit_or, bit_xor, or_shr, or_mod, xor_shr, xor_mod}
use lib.Pow.{pow-lt, shl-shr}
use Rattle.std.proofs.lemmas.Bool.{eq-eqb, ne_eqb, cases_eq, cases_order, cases_Bool, and_from, and_left, and_right, both_ways}
use Rattle.model.specs.CoreSets.{member, Joined, Left, United, Nobody, all_below, Each}

two : zero < 2
two = omega arith

-- one digit of a union
or_digit : (x y : ℕ) → x < 2 → y < 2 → eqb (bit_or x y) 1 ≡ (eqb x 1 || eqb y 1)
or_digit zero zero h k = refl
or_digit zero (suc zero) h k = refl
or_digit zero (suc (suc y)) h k = absurd (omega arith)
or_digit (suc zero) zero h k = refl
or_digit (suc zero) (suc zero) h k = refl
or_digit (suc zero) (suc (suc y)) h k = absurd (omega arith)
or_digit (suc (suc x)) y h k = absurd (omega arith)

-- one digit of a difference
xor_digit : (x y : ℕ) → x < 2 → y < 2 → (eqb x 1 ≡ true → eqb y 1 ≡ true → eqb (bit_xor x y) 1 ≡ false) × (eqb y 1 ≡ false → eqb (bit_xor x y) 1 ≡ eqb x 1)
xor_digit zero zero h k = (λ p q. absurd (both_ways false refl p), λ _. refl)
xor_digit zero (suc zero) h k = (λ p q. absurd (both_ways false refl p), λ p. absurd (both_ways true p refl))
xor_digit zero (suc (suc y)) h k = absurd (omega arith)
xor_digit (suc zero) zero h k = (λ p q. absurd (both_ways false refl q), λ _. refl)
xor_digit (suc zero) (suc zero) h k = (λ _ _. refl, λ p. absurd (both_ways true p refl))
xor_digit (suc zero) (suc (suc y)) h k = absurd (omega arith)
xor_digit (suc (suc x)) y h k = absurd (omega arith)

-- the union of two sets has the cores of either
pub or_member : (a b : ℕ) → United a b (bit_or a b)
or_member a b c =
    let x = a / 2 ^ c in
    let y = b / 2 ^ c in
    ap (λ (n : ℕ). eqb (n % 2) 1) (or_shr a b c) ∙ ap (λ (n : ℕ). eqb n 1) (or_mod x y 1)
    ∙ or_digit (x % 2) (y % 2) (mod-lt x two) (mod-lt y two)

xor_digit_of : (a b c : ℕ) → member (bit_xor a b) c ≡ eqb (bit_xor (a / 2 ^ c % 2) (b / 2 ^ c % 2)) 1
xor_digit_of a b c = ap (λ (n : ℕ). eqb (n % 2) 1) (xor_shr a b c) ∙ ap (λ (n : ℕ). eqb n 1) (xor_mod (a / 2 ^ c) (b / 2 ^ c) 1)

-- a set of numbers below 2 ^ w has no core from w on
pub past_member : (w bits c : ℕ) → bits < 2 ^ w → w ≤ c → member bits c ≡ false
past_member w bits c h le = ap (λ (n : ℕ). eqb (n % 2) 1) (div-eq_of_lt {n = bits} {m = 2 ^ c} (lt_of_lt_of_le h (pow_mono le)))

pub none_member : Nobody 0
none_member c = past_member 0 0 c (omega arith) (omega arith)

above_digit : (c d : ℕ) → 2 ^ (c + suc d) / 2 ^ c % 2 ≡ 0
above_digit c d =
    ap (λ (n : ℕ). n / 2 ^ c % 2) (pow-add 2 c (suc d) ∙ mul_comm (2 ^ c) (2 ^ suc d))
    ∙ ap (λ (n : ℕ). n % 2) (shl-shr (2 ^ suc d) c ∙ pow-suc 2 d) ∙ omega arith

-- one core alone
pub one_member : (k c : ℕ) → member (2 ^ k) c ≡ eqb c k
one_member k c =
    ⊎_elim
    (λ (e : c ≡ k).
    ap (λ (j : ℕ). member (2 ^ k) j) e
    ∙ ap (λ (n : ℕ). eqb (n % 2) 1) (ap (λ (n : ℕ). n / 2 ^ k) (sym (one-mul (2 ^ k))) ∙ shl-shr 1 k) ∙ sym (eq-eqb c k e))
    (⊎_elim
    (λ (lt : c < k).
    let is : k ≡ c + suc (k - suc c) = omega arith in
    ap (λ (j : ℕ). eqb (2 ^ j / 2 ^ c % 2) 1) is ∙ ap (λ (n : ℕ). eqb n 1) (above_digit c (k - suc c))
    ∙ sym (ne_eqb c k (λ e. omega arith)))
    (λ (gt : k < c). past_member c (2 ^ k) c (pow-lt gt) (omega arith) ∙ sym (ne_eqb c k (λ e. omega arith))))
    (cases_order c k)

-- a set with one core more
pub join_member : (bits k : ℕ) → Joined bits k (bit_or bits (2 ^ k))
join_member bits k c = or_member bits (2 ^ k) c ∙ ap (λ (t : Bool). member bits c || t) (one_member k c)

kept : (k c : ℕ) (t : Bool) → eqb c k ≡ false → t ≡ (t && not (eqb c k))
kept k c true e = sym (ap not e)
kept k c false e = refl

-- a set without one that is in it
pub leave_member : (bits k : ℕ) → member bits k ≡ true → Left bits k (bit_xor bits (2 ^ k))
leave_member bits k isin c =
    let x = bits / 2 ^ c % 2 in
    let y = 2 ^ k / 2 ^ c % 2 in
    let law = xor_digit x y (mod-lt (bits / 2 ^ c) two) (mod-lt (2 ^ k / 2 ^ c) two) in
    ⊎_elim
    (λ (e : c ≡ k).
    xor_digit_of bits (2 ^ k) c
    ∙ law.0 (ap (member bits) e ∙ isin) (one_member k c ∙ eq-eqb c k e)
    ∙ sym (and_right (member bits c) (not (eqb c k)) (ap not (eq-eqb c k e))))
    (λ (ne : c ≢ k).
    xor_digit_of bits (2 ^ k) c ∙ law.1 (one_member k c ∙ ne_eqb c k ne) ∙ kept k c (member bits c) (ne_eqb c k ne))
    (cases_eq c k)

-- a set without one that is not in it is the same set
pub absent_member : (bits k : ℕ) → member bits k ≡ false → Left bits k bits
absent_member bits k out c =
    ⊎_elim
    (λ (e : c ≡ k). ap (member bits) e ∙ out ∙ sym (and_left (member bits c) (not (eqb c k)) (ap (member bits) e ∙ out)))
    (λ (ne : c ≢ k). kept k c (member bits c) (ne_eqb c k ne))
    (cases_eq c k)

-- core c of the rest is the next core of the whole
rest_member : (bits c : ℕ) → member (bits / 2) c ≡ member bits (1 + c)
rest_member bits c = ap (λ (n : ℕ). eqb (n % 2) 1) (shr-shr bits 1 c)

low_digit : (a b : ℕ) → a < 2 → b < 2 → eqb a 1 ≡ eqb b 1 → a ≡ b
low_digit zero zero h k e = refl
low_digit zero (suc zero) h k e = absurd (both_ways false refl (e ∙ refl))
low_digit zero (suc (suc b)) h k e = absurd (omega arith)
low_digit (suc zero) zero h k e = absurd (both_ways false refl (sym e))
low_digit (suc zero) (suc zero) h k e = refl
low_digit (suc zero) (suc (suc b)) h k e = absurd (omega arith)
low_digit (suc (suc a)) b h k e = absurd (omega arith)

-- sets below 2 ^ w with the same cores are one
pub same_set : (w a b : ℕ) → a < 2 ^ w → b < 2 ^ w → ((c : ℕ) → member a c ≡ member b c) → a ≡ b
same_set zero a b ha hb same = omega arith
same_set (suc w) a b ha hb same =
    let low : a % 2 ≡ b % 2 = low_digit (a % 2) (b % 2) (mod-lt a two) (mod-lt b two)
    (ap (λ (n : ℕ). eqb (n % 2) 1) (sym (div-one a)) ∙ same 0 ∙ ap (λ (n : ℕ). eqb (n % 2) 1) (div-one b)) in
    let high : a / 2 ≡ b / 2 = same_set w (a / 2) (b / 2)
    (shr_lt w 1 (subst (λ (n : ℕ). a < 2 ^ n) (sym (add-one w)) ha)) (shr_lt w 1 (subst (λ (n : ℕ). b < 2 ^ n) (sym (add-one w)) hb))
    (λ c. rest_member a c ∙ same (1 + c) ∙ sym (rest_member b c)) in
    omega arith

-- only the empty set has no core
pub nobody_zero : (w bits : ℕ) → bits < 2 ^ w → Nobody bits → bits ≡ 0
nobody_zero w bits h none = same_set w bits 0 h (pow_pos w) (λ c. none c ∙ sym (none_member c))

pub all_none : (f : ℕ → Bool) → all_below 0 f ≡ true
unfolding all_below
all_none f = refl

pub all_more : (i : ℕ) (f : ℕ → Bool) → all_below i f ≡ true → f i ≡ true → all_below (i + 1) f ≡ true
unfolding all_below
all_more i f a b = rw add-one (and_from (all_below i f) (f i) a b)

pub all_not : (i n : ℕ) (f : ℕ → Bool) → i < n → f i ≡ false → all_below n f ≡ false
unfolding all_below
all_not i zero f lt e = absurd (omega arith)
all_not i (suc n) f lt e =
    ⊎_elim
    (λ (is : i ≡ n). and_right (all_below n f) (f n) (sym (ap f is) ∙ e))
    (λ (ne : i ≢ n). and_left (all_below n f) (f n) (all_not i n f (omega arith) e))
    (cases_eq i n)

-- all_below is true exactly if f is true at each number below
pub all_each : (n : ℕ) (f : ℕ → Bool) → all_below n f ≡ true → Each n f
all_each n f all c lt =
    ⊎_elim (λ e. e) (λ (e : f c ≡ false). absurd (both_ways (all_below n f) (all_not c n f lt e) all)) (cases_Bool (f c))

pub each_all : (n : ℕ) (f : ℕ → Bool) → Each n f → all_below n f ≡ true
unfolding all_below
each_all zero f each = refl
each_all (suc n) f each = and_from (all_below n f) (f n) (each_all n f (λ c lt. each c (omega arith))) (each n (omega arith))

-- what a look through the numbers below n finds is what all_below says
pub all_found : (r : Bool) (n : ℕ) (f : ℕ → Bool)
    → MatchBool r (AllWithin (λ k. f k ≡ true) (range_with_len 0 n) 0 (length (range_with_len 0 n))) ((k : ℕ) × (k < length (range_with_len 0 n)) × HoldsAt (λ k. f k ≡ false) (range_with_len 0 n) k)
    → r ≡ all_below n f
all_found true n f all =
    sym (each_all n f (λ c lt. subst (λ (k : ℕ). f k ≡ true) (get_or-range_with_len 0 n c 0 lt ∙ zero-add c) (all c 0 (omega arith) (omega (arith, lt, length-range_with_len 0 n)))))
all_found false n f one =
    let lt : one.0 < n = omega (arith, one.1, length-range_with_len 0 n) in
    sym (all_not one.0 n f lt (subst (λ (k : ℕ). f k ≡ false) (get_or-range_with_len 0 n one.0 0 lt ∙ zero-add one.0) (one.2 0)))
