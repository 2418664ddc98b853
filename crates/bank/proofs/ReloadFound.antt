use Rattle.std.proofs.Common.{◌≡◌, ℕ, zero, suc, ◌+◌, ◌<◌, true, cond, not, eqb, ◌≢◌, List, [], ◌∷◌, length, get_or, set, is_some, Some, None, Option, refl, sym, ◌∙◌, ap, arith}
use Rattle.std.proofs.lemmas.Bool.Decides.{nat_tests}
use Rattle.std.proofs.lemmas.Bool.{and_parts}
use Rattle.bank.specs.declared.translation.Translation.{Translation}
use Rattle.std.specs.List.{position, position_from}
use Rattle.std.proofs.lemmas.Iterator.Adapters.{position_from-zero}
use Rattle.std.proofs.lemmas.List.Quantifiers.{position-Some}
use Rattle.bank.specs.ReloadEntries.{own, once, paged, has_page, Rewritten, Taken, Vacated, Displaces}

-- the slot has not the page
abbrev pub Lacks : Option Translation → ℕ → Type 0
Lacks None p = Unit {0}
Lacks (Some e) p = e.page ≢ p

none_from : (p i : ℕ) (es : List (Option Translation)) → position_from (has_page p) i es ≡ None → own es p ≡ None
none_from p i [] h = refl
none_from p i (None ∷ es) h = none_from p (i + 1) es h
none_from p i (Some e ∷ es) h =
    let rest : position_from (has_page p) (i + 1) es ≡ None = grind (arith, nat_tests) in
    let more = none_from p (i + 1) es rest in
    grind (arith, nat_tests)

has_entry : (p : ℕ) (o : Option Translation) → has_page p o ≡ true → (e : Translation) × (o ≡ Some e) × (e.page ≡ p)
has_entry p None h = grind arith
has_entry p (Some e) h = (e, refl, grind (arith, nat_tests))

-- where no slot has the page, it is not found
pub nowhere : (p : ℕ) (es : List (Option Translation)) → None ≡ position (has_page p) es → own es p ≡ None
nowhere p es is = none_from p 0 es (sym (is ∙ position_from-zero (has_page p) es))

-- the slot at i, one of eight, has an entry of the page
pub record Stands (p i : ℕ) (es : List (Option Translation)) : Type 0 where
  pub within : i < 8
  pub has : has_page p (get_or es i None) ≡ true
  pub entry : Translation
  pub at : get_or es i None ≡ Some entry
  pub is : entry.page ≡ p

pub found : (p i : ℕ) (es : List (Option Translation)) → length es ≡ 8 → Some i ≡ position (has_page p) es → Stands p i es
found p i es full is =
    let first = position-Some (has_page p) es i None (sym is) in
    let e = has_entry p (get_or es i None) first.1 in
    record { within = omega (arith, full, first.0); has = first.1; entry = e.0; at = e.1; is = e.2 }

-- an entry that stands is found
pub held_own : (es : List (Option Translation)) (i : ℕ) (t : Translation) → once es ≡ true → get_or es i None ≡ Some t → own es t.page ≡ Some t.frame
held_own [] i t single at = grind arith
held_own (None ∷ es) zero t single at = grind arith
held_own (None ∷ es) (suc i) t single at = held_own es i t single at
held_own (Some s ∷ es) zero t single at = grind (arith, nat_tests)
held_own (Some s ∷ es) (suc i) t single at =
    let parts = and_parts (not (is_some (own es s.page))) (once es) single in
    let more = held_own es i t parts.1 at in
    grind (arith, nat_tests)

-- a page that neither the old entry nor the new one has is found as before
pub others_own : (es : List (Option Translation)) (i : ℕ) (e : Option Translation) (q : ℕ) → Lacks (get_or es i None) q → Lacks e q → own (set es i e) q ≡ own es q
others_own [] i e q old new = refl
others_own (None ∷ es) zero None q old new = refl
others_own (None ∷ es) zero (Some t) q old new = grind (arith, nat_tests)
others_own (Some s ∷ es) zero None q old new = grind (arith, nat_tests)
others_own (Some s ∷ es) zero (Some t) q old new = grind (arith, nat_tests)
others_own (None ∷ es) (suc i) e q old new = others_own es i e q old new
others_own (Some s ∷ es) (suc i) e q old new = ap (λ r. cond (eqb s.page q) (Some s.frame) r) (others_own es i e q old new)

-- where the entry at i held the page, a change of it to one that lacks the page leaves none
pub left_none : (es : List (Option Translation)) (i : ℕ) (e : Option Translation) (t : Translation) → once es ≡ true → get_or es i None ≡ Some t → Lacks e t.page → own (set es i e) t.page ≡ None
left_none [] i e t single at new = grind arith
left_none (None ∷ es) zero e t single at new = grind arith
left_none (None ∷ es) (suc i) e t single at new = left_none es i e t single at new
left_none (Some s ∷ es) zero None t single at new =
    let parts = and_parts (not (is_some (own es s.page))) (once es) single in
    grind (arith, nat_tests)
left_none (Some s ∷ es) zero (Some u) t single at new =
    let parts = and_parts (not (is_some (own es s.page))) (once es) single in
    grind (arith, nat_tests)
left_none (Some s ∷ es) (suc i) e t single at new =
    let parts = and_parts (not (is_some (own es s.page))) (once es) single in
    let here = held_own es i t parts.1 at in
    let more = left_none es i e t parts.1 at new in
    grind (arith, nat_tests)

-- a page that is not found is not found after a change to an entry that lacks it
pub none_stays : (es : List (Option Translation)) (i : ℕ) (e : Option Translation) (q : ℕ) → own es q ≡ None → Lacks e q → own (set es i e) q ≡ None
none_stays [] i e q old new = refl
none_stays (None ∷ es) zero None q old new = old
none_stays (None ∷ es) zero (Some t) q old new = grind (arith, nat_tests)
none_stays (Some s ∷ es) zero None q old new = grind (arith, nat_tests)
none_stays (Some s ∷ es) zero (Some t) q old new = grind (arith, nat_tests)
none_stays (None ∷ es) (suc i) e q old new = none_stays es i e q old new
none_stays (Some s ∷ es) (suc i) e q old new =
    let rest : own es q ≡ None = grind (arith, nat_tests) in
    let more = none_stays es i e q rest new in
    grind (arith, nat_tests)

-- where no other entry has its page, a newcomer is found
pub here_own : (es : List (Option Translation)) (i : ℕ) (u : Translation) → i < length es → own (set es i None) u.page ≡ None → own (set es i (Some u)) u.page ≡ Some u.frame
here_own [] i u within alone = grind arith
here_own (e ∷ es) zero u within alone = grind (arith, nat_tests)
here_own (None ∷ es) (suc i) u within alone = here_own es i u (grind arith) alone
here_own (Some s ∷ es) (suc i) u within alone =
    let rest : own (set es i None) u.page ≡ None = grind (arith, nat_tests) in
    let more = here_own es i u (grind arith) rest in
    grind (arith, nat_tests)

-- and no page stands twice
pub once_set : (es : List (Option Translation)) (i : ℕ) (u : Translation) → once es ≡ true → own (set es i None) u.page ≡ None → once (set es i (Some u)) ≡ true
once_set [] i u single alone = refl
once_set (None ∷ es) zero u single alone = grind (arith, nat_tests)
once_set (Some s ∷ es) zero u single alone =
    let parts = and_parts (not (is_some (own es s.page))) (once es) single in
    grind (arith, nat_tests)
once_set (None ∷ es) (suc i) u single alone = once_set es i u single alone
once_set (Some s ∷ es) (suc i) u single alone =
    let parts = and_parts (not (is_some (own es s.page))) (once es) single in
    let rest : own (set es i None) u.page ≡ None = grind (arith, nat_tests) in
    let gone : own es s.page ≡ None = grind (arith, nat_tests) in
    let apart : u.page ≢ s.page = grind (arith, nat_tests) in
    let more = once_set es i u parts.1 rest in
    let still = none_stays es i (Some u) s.page gone apart in
    grind (arith, nat_tests)

pub once_none : (es : List (Option Translation)) (i : ℕ) → once es ≡ true → once (set es i None) ≡ true
once_none [] i single = refl
once_none (None ∷ es) zero single = single
once_none (Some s ∷ es) zero single = (and_parts (not (is_some (own es s.page))) (once es) single).1
once_none (None ∷ es) (suc i) single = once_none es i single
once_none (Some s ∷ es) (suc i) single =
    let parts = and_parts (not (is_some (own es s.page))) (once es) single in
    let gone : own es s.page ≡ None = grind (arith, nat_tests) in
    let more = once_none es i parts.1 in
    let still = none_stays es i None s.page gone tt in
    grind (arith, nat_tests)

-- what bounds the page of each entry bounds it after a change
pub pages_set : (es : List (Option Translation)) (i : ℕ) (e : Option Translation) (n : ℕ) → ((k : ℕ) → paged (get_or es k None) < n) → paged e < n → (k : ℕ) → paged (get_or (set es i e) k None) < n
pages_set [] i e n old new k = old k
pages_set (x ∷ es) zero e n old new zero = new
pages_set (x ∷ es) zero e n old new (suc k) = old (suc k)
pages_set (x ∷ es) (suc i) e n old new zero = old zero
pages_set (x ∷ es) (suc i) e n old new (suc k) = pages_set es i e n (λ j. old (suc j)) new k

-- the entry that stands is the one that is found
pub here_hit : {p i : ℕ} {es : List (Option Translation)} (s : Stands p i es) → once es ≡ true → own es p ≡ Some s.entry.frame
here_hit {p} {i} {es} s single =
    let h = held_own es i s.entry single s.at in
    let is = s.is in
    grind arith

-- where the one entry of a page is out, no other has it
pub alone_hit : {p i : ℕ} {es : List (Option Translation)} → Stands p i es → once es ≡ true → own (set es i None) p ≡ None
alone_hit {p} {i} {es} s single =
    let h = left_none es i None s.entry single s.at tt in
    let is = s.is in
    grind arith

pub others_hit : {p i : ℕ} {es : List (Option Translation)} → Stands p i es → (e : Option Translation) (q : ℕ) → q ≢ p → Lacks e q → own (set es i e) q ≡ own es q
others_hit {p} {i} {es} s e q ne new =
    let is = s.is in
    others_own es i e q (simp s.at (grind arith)) new

displaces_by : (es : List (Option Translation)) (i : ℕ) (u : Translation) (e : Option Translation) → once es ≡ true → own es u.page ≡ None → get_or es i None ≡ e → Displaces u.page e es (set es i (Some u))
displaces_by es i u None single alone at = λ q ne. others_own es i (Some u) q (simp at tt) (grind arith)
displaces_by es i u (Some t) single alone at =
    let here = held_own es i t single at in
    let apart : t.page ≢ u.page = grind arith in
    (apart, here, left_none es i (Some u) t single at (grind arith), λ q ne nt. others_own es i (Some u) q (simp at (grind arith)) (grind arith))

-- what a newcomer displaces
pub displaces : (es : List (Option Translation)) (i : ℕ) (u : Translation) → once es ≡ true → own es u.page ≡ None → Displaces u.page (get_or es i None) es (set es i (Some u))
displaces es i u single alone = displaces_by es i u (get_or es i None) single alone refl

-- its slot is written with x
rewritten : {p i : ℕ} {es : List (Option Translation)} → Stands p i es → (x : Option Translation) → Rewritten p x es (set es i x)
rewritten {p} {i} {es} s x = record { at = i; within = s.within; was = s.has; writes = refl }

-- a page that has an entry is replaced in place
pub replaced : (u : Translation) {i : ℕ} {es : List (Option Translation)} → Stands u.page i es → (turn : ℕ) → once es ≡ true → Taken u None es (set es i (Some u)) turn turn
replaced u {i} {es} s turn single = simp (here_hit s single) (record { place = rewritten s (Some u); stays = refl; nothing = refl })

-- a page that has an entry is emptied there
pub vacated : {p i : ℕ} {es : List (Option Translation)} → Stands p i es → once es ≡ true → Vacated p es (set es i None)
vacated {p} {i} {es} s single = simp (here_hit s single) (rewritten s None)
