use Rattle.std.proofs.Common.{◌≡◌, ℕ, zero, suc, ◌<◌, ◌≢◌, ◌⊎◌, List, [], ◌∷◌, length, get_or, set, Some, None, Option, refl, inl, inr, arith}
use Rattle.std.proofs.lemmas.List.{get_or-map}
use Rattle.std.proofs.lemmas.Bool.{cases_eq}
use Rattle.bank.specs.Meaning.{Dropped}
use Rattle.bank.specs.declared.translation.Translation.{Translation}
use Rattle.bank.specs.declared.reload_row.ReloadRow.{ReloadRow}
use Rattle.bank.specs.ReloadEntries.{own, paged, Displaces}
use Rattle.bank.specs.ReloadRows.{entries_of, turn_of, held, Displaced}

pub entries_same : (rows : List ReloadRow) (c : ℕ) (r : ReloadRow) → c < length rows → entries_of (set rows c r) c ≡ r.entries
entries_same [] c r h = grind arith
entries_same (x ∷ rows) zero r h = refl
entries_same (x ∷ rows) (suc c) r h = entries_same rows c r (grind arith)

entries_other : (rows : List ReloadRow) (c : ℕ) (r : ReloadRow) (d : ℕ) → d ≢ c → entries_of (set rows c r) d ≡ entries_of rows d
entries_other [] c r d ne = refl
entries_other (x ∷ rows) zero r zero ne = grind arith
entries_other (x ∷ rows) zero r (suc d) ne = refl
entries_other (x ∷ rows) (suc c) r zero ne = refl
entries_other (x ∷ rows) (suc c) r (suc d) ne = entries_other rows c r d (grind arith)

-- the entries and the turn of a core, as its row has them
pub entries_read : (rows : List ReloadRow) (c : ℕ) (d : ReloadRow) → c < length rows → entries_of rows c ≡ (get_or rows c d).entries
entries_read rows c d h = get_or-map (λ r. r.entries) rows c d [] h

pub turn_read : (rows : List ReloadRow) (c : ℕ) (d : ReloadRow) → c < length rows → turn_of rows c ≡ (get_or rows c d).turn
turn_read rows c d h = get_or-map (λ r. r.turn) rows c d 0 h

-- what is kept of a row's pages is kept of the pairs
kept : (rows : List ReloadRow) (c : ℕ) (es : List (Option Translation)) (r : ReloadRow) (P : ℕ → Type 0) → c < length rows → entries_of rows c ≡ es →
    ((q : ℕ) → P q → own r.entries q ≡ own es q) → (d q : ℕ) → (d ≡ c → P q) → (d ≡ c) ⊎ (d ≡ c → ⊥) → held (set rows c r) d q ≡ held rows d q
kept rows c es r P h is was d q p (inl same) =
    let e = entries_same rows c r h in
    let o = was q (p same) in
    grind arith
kept rows c es r P h is was d q p (inr other) = let e = entries_other rows c r d other in grind arith

pub dropped : (rows : List ReloadRow) (c p : ℕ) (es : List (Option Translation)) (r : ReloadRow) → c < length rows → entries_of rows c ≡ es →
    own r.entries p ≡ None → ((q : ℕ) → q ≢ p → own r.entries q ≡ own es q) → Dropped c p (held rows) (held (set rows c r))
dropped rows c p es r h is here was =
    let e = entries_same rows c r h in
    record {
      here = grind arith;
      rest = λ d q apart. kept rows c es r (λ q. q ≢ p) h is was d q apart (cases_eq d c);
    }

pub displaced : (rows : List ReloadRow) (c p : ℕ) (es : List (Option Translation)) (r : ReloadRow) (out : Option Translation) → c < length rows → entries_of rows c ≡ es →
    Displaces p out es r.entries → paged out < 262144 → Displaced c p out (held rows) (held (set rows c r))
displaced rows c p es r None h is was small = λ d q apart. kept rows c es r (λ q. q ≢ p) h is was d q apart (cases_eq d c)
displaced rows c p es r (Some t) h is was small =
    let e = entries_same rows c r h in (
      small,
      was.0,
      (grind arith),
      (grind arith),
      λ d q apart more. kept rows c es r (λ q. (q ≢ p) × (q ≢ t.page)) h is (λ q a. was.3 q a.0 a.1) d q (λ same. (apart same, more same)) (cases_eq d c),
    )
