-- What operations make of a counter, one after another.
use Rattle.std.proofs.Common.{◌≡◌, ℕ, suc, ◌+◌, true, eqb, List, [], ◌∷◌, ◌++◌, is_some, Some, None, Option, sym, refl, ap, ◌∙◌, subst, arith}
use Rattle.std.proofs.lemmas.Bool.{eq-eqb, ne_eqb, cond-true, cond-false}
use Rattle.counter.specs.Meaning.{Meaning, Operation, how_many, given, raised, put_at}
use Rattle.counter.specs.Meaning.Operation.{Revive}
use Rattle.tree.specs.Fill.{revivals}
use Rattle.tree.specs.Holders.{Changed, Aside, Follows}

put_changed : (i : ℕ) (v : Option ℕ) (f : ℕ → Option ℕ) → Changed i v f (put_at i v f)
put_changed i v f = record {
  here = cond-true (eqb i i) v (f i) (eq-eqb i i refl);
  rest = λ j ne. cond-false (eqb j i) v (f j) (ne_eqb j i ne);
}

pub given_changed : (o k : ℕ) (m n : Meaning) → n ≡ given o k m → Changed o (Some k) m.holders n.holders
given_changed o k m n e = subst (λ (x : Meaning). Changed o (Some k) m.holders x.holders) (sym e) (put_changed o (Some k) m.holders)

pub raised_changed : (o : ℕ) (m n : Meaning) → n ≡ raised o m → Changed o (Some (how_many (m.holders o) + 1)) m.holders n.holders
raised_changed o m n e =
    subst (λ (x : Meaning). Changed o (Some (how_many (m.holders o) + 1)) m.holders x.holders) (sym e) (put_changed o (Some (how_many (m.holders o) + 1)) m.holders)

pub given_aside : (o k : ℕ) (m n : Meaning) → n ≡ given o k m → Aside m n
given_aside o k m n e = record {
  cores = ap (λ (x : Meaning). x.cores) e;
  epoch = ap (λ (x : Meaning). x.epoch) e;
  folded = ap (λ (x : Meaning). x.folded) e;
  closed = ap (λ (x : Meaning). x.closed) e;
}

pub raised_aside : (o : ℕ) (m n : Meaning) → n ≡ raised o m → Aside m n
raised_aside o m n e = record {
  cores = ap (λ (x : Meaning). x.cores) e;
  epoch = ap (λ (x : Meaning). x.epoch) e;
  folded = ap (λ (x : Meaning). x.folded) e;
  closed = ap (λ (x : Meaning). x.closed) e;
}

pub aside_none : (m : Meaning) → Aside m m
aside_none m = record { cores = refl; epoch = refl; folded = refl; closed = refl }

pub aside_then : (l m n : Meaning) → Aside l m → Aside m n → Aside l n
aside_then l m n a b = record { cores = b.cores ∙ a.cores; epoch = b.epoch ∙ a.epoch; folded = b.folded ∙ a.folded; closed = b.closed ∙ a.closed }

-- a node gains a slot more
pub changed_more : (i k : ℕ) (f g h : ℕ → Option ℕ) → Changed i (Some (how_many (f i) + k)) f g → Changed i (Some (how_many (g i) + 1)) g h → Changed i (Some (how_many (f i) + (k + 1))) f h
changed_more i k f g h a b =
    let e : how_many (g i) + 1 ≡ how_many (f i) + (k + 1) = omega (arith, ap how_many a.here) in
    record { here = b.here ∙ ap Some e; rest = λ j ne. b.rest j ne ∙ a.rest j ne }

module _ {S : Type 0} (steps : S → Operation → S → Type 0) where
  pub follows_none : (s : S) → Follows steps [] s s
  unfolding Follows
  follows_none s = refl

  pub follows_one : (o : Operation) (s t : S) → steps s o t → Follows steps (o ∷ []) s t
  unfolding Follows
  follows_one o s t h = (t, h, refl)

  pub follows_then : (os ps : List Operation) (s u t : S) → Follows steps os s u → Follows steps ps u t → Follows steps (os ++ ps) s t
  unfolding Follows
  follows_then [] ps s u t a b = subst (λ (x : S). Follows steps ps x t) a b
  follows_then (o ∷ os) ps s u t a b = (a.0, a.1, follows_then os ps a.0 u t a.2 b)

pub some_amount : (x : Option ℕ) → is_some x ≡ true → x ≡ Some (how_many x)
some_amount None e = absurd (let z : ◌≡◌ {A = ℕ} 0 1 = cc in omega arith)
some_amount (Some n) e = refl

pub changed_none : (i : ℕ) (f : ℕ → Option ℕ) → is_some (f i) ≡ true → Changed i (Some (how_many (f i) + 0)) f f
changed_none i f e =
    let z : how_many (f i) ≡ how_many (f i) + 0 = omega arith in
    record { here = some_amount (f i) e ∙ ap Some z; rest = λ j _. refl }

-- one revival more
pub revivals_more : (core n k : ℕ) → revivals core n (k + 1) ≡ revivals core n k ++ (Revive core n ∷ [])
unfolding revivals
revivals_more core n k = let e : k + 1 ≡ suc k = omega arith in ap (revivals core n) e

pub revivals_none : (core n : ℕ) → revivals core n 0 ≡ []
unfolding revivals
revivals_none core n = refl
