-- How the children that a fill draws are counted.
use Rattle.std.proofs.Common.{◌≡◌, ℕ, suc, ◌+◌, ◌-◌, ◌*◌, ◌/◌, ◌%◌, ◌<◌, ◌≤◌, max, min, cond, eqb, ltb, ◌⊎◌, List, sym, refl, ap, ◌∙◌, subst, inl, inr, ⊎_elim, arith, suc-mul, mul-le-mul_right, div-mul-le_self, mul-div_cancel}
use Rattle.std.proofs.lemmas.Bool.{cases_lt, lt-ltb, le-ltb, eq-eqb, ne_eqb, cond-true, cond-false}
use Rattle.std.proofs.Math.Nat.{lt-div-mul-add}
use Rattle.std.proofs.lemmas.Nat.{div_below, le-div}
use Rattle.tree.specs.declared.slot.Slot.{Slot}
use Rattle.tree.specs.declared.slot.Slot.TheVariants.{Vacant, Child, Value}
use Rattle.tree.specs.Nodes.{slot_at}
use Rattle.tree.specs.Need.{part, at_ends, need_by, root_part, need}

-- one block, or two and what is between
module _ (size : ℕ) (some : 0 < size) (g : ℕ → ℕ → ℕ) (first last : ℕ) where
  pub ends_none : last ≤ first → at_ends size g first last ≡ 0
  unfolding at_ends
  ends_none h = cond-false (ltb first last) _ _ (le-ltb first last h)

  opened : first < last →
      at_ends size g first last
      ≡ g first (min last (first / size * size + size)) + cond (eqb (first / size) ((last - 1) / size)) 0 (g ((last - 1) / size * size) last)
  unfolding at_ends
  opened h = cond-true (ltb first last) _ _ (lt-ltb first last h)

  pub ends_one : first < last → (last - 1) / size ≡ first / size → at_ends size g first last ≡ g first last
  ends_one h e =
      let top : last - 1 < (last - 1) / size * size + size = lt-div-mul-add some in
      let same = ap (λ (b : ℕ). b * size + size) e in
      let stop : min last (first / size * size + size) ≡ last = omega (arith, top, same) in
      let a = ap (g first) stop in
      let b = cond-true (eqb (first / size) ((last - 1) / size)) 0 (g ((last - 1) / size * size) last) (eq-eqb (first / size) ((last - 1) / size) (sym e)) in
      omega (arith, opened h, a, b)

  pub ends_two : first < last → first / size * size + size < last → at_ends size g first last ≡ g first (first / size * size + size) + g ((last - 1) / size * size) last
  ends_two h lt =
      let stop : min last (first / size * size + size) ≡ first / size * size + size = omega (arith, lt) in
      let a = ap (g first) stop in
      let top : last - 1 < (last - 1) / size * size + size = lt-div-mul-add some in
      let ne : first / size ≡ (last - 1) / size → ⊥ = λ e. omega (arith, ap (λ (b : ℕ). b * size) e, top, lt) in
      let b = cond-false (eqb (first / size) ((last - 1) / size)) 0 (g ((last - 1) / size * size) last) (ne_eqb (first / size) ((last - 1) / size) ne) in
      omega (arith, opened h, a, b)

div_between : (size q x : ℕ) → 0 < size → q * size ≤ x → x < q * size + size → x / size ≡ q
div_between size q x some lo hi =
    let next : suc q * size ≡ q * size + size = suc-mul q size in
    let below = div_below x size (suc q) some (subst (λ (y : ℕ). x < y) (sym next) hi) in
    omega (arith, le-div q x size some lo, below)

less : {a b : ℕ} → a ≤ b → (a ≡ b → ⊥) → suc a ≤ b
less h ne = omega (arith, h, ne)

le_or_lt : (a b : ℕ) → (a ≤ b) ⊎ (b < a)
le_or_lt a b = ⊎_elim inr inl (cases_lt b a)

-- the first block, and the blocks after it, where a whole block counts nothing
pub ends_split : (size : ℕ) (some : 0 < size) (g : ℕ → ℕ → ℕ) (first last stop : ℕ) → ((a : ℕ) → a / size * size ≡ a → g a (a + size) ≡ 0) →
    first < last → stop ≡ min last (first / size * size + size) → at_ends size g first last ≡ g first stop + at_ends size g stop last
ends_split size some g first last stop whole h is =
    let q = first / size in
    let low : q * size ≤ first = div-mul-le_self first size in
    ⊎_elim
    (λ (short : last ≤ q * size + size).
    let e : stop ≡ last = omega (arith, short, is) in
    let one = ends_one size some g first last h (div_between size q (last - 1) some (omega (arith, low, h)) (omega (arith, short, h))) in
    omega (arith, one, ends_none size some g stop last (omega (arith, e)), ap (g first) e))
    (λ (long : q * size + size < last).
    let e : stop ≡ q * size + size = omega (arith, long, is) in
    let more : stop < last = omega (arith, e, long) in
    let at : stop / size ≡ suc q = ap (λ (x : ℕ). x / size) (e ∙ sym (suc-mul q size)) ∙ mul-div_cancel (suc q) some in
    let even : stop / size * size ≡ stop = ap (λ (x : ℕ). x * size) at ∙ suc-mul q size ∙ sym e in
    let two = ends_two size some g first last h long in
    let a = ap (g first) e in
    ⊎_elim
    (λ (short : last ≤ stop / size * size + size).
    let same : (last - 1) / size ≡ stop / size = div_between size (stop / size) (last - 1) some (omega (arith, even, more)) (omega (arith, short, more)) in
    let b = ap (λ (x : ℕ). g x last) (ap (λ (x : ℕ). x * size) same ∙ even) in
    omega (arith, two, a, ends_one size some g stop last more same, b))
    (λ (longer : stop / size * size + size < last).
    let b = ap (λ (x : ℕ). g stop (x + size)) even in
    omega (arith, two, a, ends_two size some g stop last more longer, b, whole stop even))
    (le_or_lt last (stop / size * size + size)))
    (le_or_lt last (q * size + size))

-- equal counts of the parts, equal counts
pub ends_same : (size : ℕ) (some : 0 < size) (g h : ℕ → ℕ → ℕ) (first last : ℕ) → ((a z : ℕ) → first ≤ a → a < z → z ≤ last → g a z ≡ h a z) →
    at_ends size g first last ≡ at_ends size h first last
ends_same size some g h first last same = ⊎_elim
    (λ (lt : first < last).
    let q = first / size in
    let low : q * size ≤ first = div-mul-le_self first size in
    ⊎_elim
    (λ (short : last ≤ q * size + size).
    let e = div_between size q (last - 1) some (omega (arith, low, lt)) (omega (arith, short, lt)) in
    ends_one size some g first last lt e ∙ same first last (omega arith) lt (omega arith) ∙ sym (ends_one size some h first last lt e))
    (λ (long : q * size + size < last).
    let next : suc q * size ≡ q * size + size = suc-mul q size in
    let up = mul-le-mul_right size (le-div (suc q) (last - 1) size some (omega (arith, next, long))) in
    let top : (last - 1) / size * size ≤ last - 1 = div-mul-le_self (last - 1) size in
    let over : first < q * size + size = lt-div-mul-add some in
    let a = same first (q * size + size) (omega arith) over (omega (arith, long)) in
    let b = same ((last - 1) / size * size) last (omega (arith, up, next, over)) (omega (arith, top, lt)) (omega arith) in
    omega (arith, ends_two size some g first last lt long, ends_two size some h first last lt long, a, b))
    (le_or_lt last (q * size + size)))
    (λ (no : last ≤ first). ends_none size some g first last no ∙ sym (ends_none size some h first last no))
    (cases_lt first last)

-- under a middle node a whole block draws none
part_64 : (x : Slot) → part x 64 ≡ 0
part_64 Vacant = refl
part_64 (Child k) = refl
part_64 (Value e) = refl

pub need_split : (f : ℕ → Slot) (first last stop : ℕ) → first < last → stop ≡ min last (first / 64 * 64 + 64) →
    need_by f first last ≡ part (f (first / 64)) (stop - first) + need_by f stop last
need_split f first last stop = ends_split 64 (omega arith) (λ a z. part (f (a / 64)) (z - a)) first last stop
    (λ a _. let e : a + 64 - a ≡ 64 = omega arith in ap (part (f (a / 64))) e ∙ part_64 (f (a / 64)))

pub need_same : (f g : ℕ → Slot) (first last : ℕ) → ((x : ℕ) → first < last → first / 64 ≤ x → x ≤ (last - 1) / 64 → f x ≡ g x) → need_by f first last ≡ need_by g first last
need_same f g first last same = ends_same 64 (omega arith) (λ a z. part (f (a / 64)) (z - a)) (λ a z. part (g (a / 64)) (z - a)) first last
    (λ a z lo some hi. ap (λ (s : Slot). part s (z - a)) (same (a / 64) (omega arith) (omega arith) (omega arith)))

-- the same over the root
root_4096 : (xs : List Slot) (x : Slot) (a : ℕ) → a / 4096 * 4096 ≡ a → root_part xs x a (a + 4096) ≡ 0
root_4096 xs Vacant a even = cond-true (eqb (a + 4096 - a) 4096) _ _ (eq-eqb (a + 4096 - a) 4096 (omega arith))
root_4096 xs (Child m) a even =
    let f : ℕ → Slot = λ x. slot_at xs m (x % 64) in
    let u : part (f (a / 64)) (a / 64 * 64 + 64 - a) ≡ part (f (a / 64)) 64 = ap (part (f (a / 64))) (omega (arith, even)) in
    let b = (a + 4096 - 1) / 64 * 64 in
    let v : part (f (b / 64)) (a + 4096 - b) ≡ part (f (b / 64)) 64 = ap (part (f (b / 64))) (omega (arith, even)) in
    omega (arith, ends_two 64 (omega arith) (λ x y. part (f (x / 64)) (y - x)) a (a + 4096) (omega arith) (omega (arith, even)), u, v, part_64 (f (a / 64)), part_64 (f (b / 64)))
root_4096 xs (Value e) a even = refl

pub root_split : (xs : List Slot) (first last stop : ℕ) → first < last → stop ≡ min last (first / 4096 * 4096 + 4096) →
    need xs first last ≡ root_part xs (slot_at xs 1 (first / 4096)) first stop + need xs stop last
root_split xs first last stop = ends_split 4096 (omega arith) (λ a z. root_part xs (slot_at xs 1 (a / 4096)) a z) first last stop
    (λ a even. root_4096 xs (slot_at xs 1 (a / 4096)) a even)

-- equal slots under the root, equal needs
abbrev pub Alike : List Slot → List Slot → ℕ → Type 0
Alike xs ys b = (slot_at ys 1 b ≡ slot_at xs 1 b) × ((m t : ℕ) → slot_at xs 1 b ≡ Child m → t < 64 → slot_at ys m t ≡ slot_at xs m t)

module _ (xs ys : List Slot) where
  part_by : (b : ℕ) (x : Slot) → slot_at xs 1 b ≡ x → ((m t : ℕ) → slot_at xs 1 b ≡ Child m → t < 64 → slot_at ys m t ≡ slot_at xs m t) → (first last : ℕ) → root_part ys x first last ≡ root_part xs x first last
  part_by b Vacant e h first last = refl
  part_by b (Value v) e h first last = refl
  part_by b (Child m) e h first last = need_same (λ x. slot_at ys m (x % 64)) (λ x. slot_at xs m (x % 64)) first last (λ x _ _ _. h m (x % 64) e (omega arith))

  pub root_same : (first last : ℕ) → ((b : ℕ) → first < last → first / 4096 ≤ b → b ≤ (last - 1) / 4096 → Alike xs ys b) → need ys first last ≡ need xs first last
  root_same first last same = ends_same 4096 (omega arith) (λ a z. root_part ys (slot_at ys 1 (a / 4096)) a z) (λ a z. root_part xs (slot_at xs 1 (a / 4096)) a z) first last
      (λ a z lo some hi.
      let h = same (a / 4096) (omega arith) (omega arith) (omega arith) in
      ap (λ (x : Slot). root_part ys x a z) h.0 ∙ part_by (a / 4096) (slot_at xs 1 (a / 4096)) refl h.1 a z)

pub one_before : (end block : ℕ) → end ≡ block + 1 → end - 1 ≡ block
one_before end block e = omega (arith, e)

-- how the code counts, by the parts of the range in the blocks b and c
module _ (size : ℕ) (some : 0 < size) (f : ℕ → ℕ → ℕ) (first last b c : ℕ) (h : first < last) (eb : b ≡ first / size) (ec : c ≡ (last - 1) / size) where
  low : first / size * size ≤ first
  low = div-mul-le_self first size

  first_part : (a z r : ℕ) → a ≡ max first (b * size) → z ≡ min last (b * size + size) → r ≡ f a z → r ≡ f first (min last (first / size * size + size))
  first_part a z r ea ez is =
      let at : a ≡ first = omega (arith, ea, ap (λ (x : ℕ). x * size) eb, low) in
      let to : z ≡ min last (first / size * size + size) = ez ∙ ap (λ (x : ℕ). min last (x * size + size)) eb in
      is ∙ ap (λ (x : ℕ). f x z) at ∙ ap (f first) to

  pub one_end : (a z r : ℕ) → a ≡ max first (b * size) → z ≡ min last (b * size + size) → r ≡ f a z → b ≡ c → r ≡ at_ends size f first last
  one_end a z r ea ez is same =
      let e : first / size ≡ (last - 1) / size = sym eb ∙ same ∙ ec in
      let none = cond-true (eqb (first / size) ((last - 1) / size)) 0 (f ((last - 1) / size * size) last) (eq-eqb (first / size) ((last - 1) / size) e) in
      omega (arith, opened size some f first last h, first_part a z r ea ez is, none)

  pub two_ends : (a z r p q s : ℕ) → a ≡ max first (b * size) → z ≡ min last (b * size + size) → r ≡ f a z → (b ≡ c → ⊥) →
      p ≡ max first (c * size) → q ≡ min last (c * size + size) → s ≡ f p q → r + s ≡ at_ends size f first last
  two_ends a z r p q s ea ez is ne ep eq it =
      let apart : first / size ≡ (last - 1) / size → ⊥ = λ e. ne (eb ∙ e ∙ sym ec) in
      let both = cond-false (eqb (first / size) ((last - 1) / size)) 0 (f ((last - 1) / size * size) last) (ne_eqb (first / size) ((last - 1) / size) apart) in
      let under : first / size ≤ (last - 1) / size = le-div (first / size) (last - 1) size some (omega (arith, low, h)) in
      let next : suc (first / size) * size ≡ first / size * size + size = suc-mul (first / size) size in
      let up : suc (first / size) * size ≤ (last - 1) / size * size = mul-le-mul_right size (less under apart) in
      let over : first < first / size * size + size = lt-div-mul-add some in
      let top : last - 1 < (last - 1) / size * size + size = lt-div-mul-add some in
      let same = ap (λ (x : ℕ). x * size) ec in
      let at : p ≡ (last - 1) / size * size = omega (arith, ep, same, up, next, over) in
      let to : q ≡ last = omega (arith, eq, same, top) in
      omega (arith, opened size some f first last h, first_part a z r ea ez is, both, it ∙ ap (λ (x : ℕ). f x q) at ∙ ap (f ((last - 1) / size * size)) to)
