-- The entries of one core in the reload buffer, and what exactly an operation makes of them.
use Rattle.std.specs.Prelude.{◌≡◌, ℕ, ◌+◌, ◌%◌, ◌<◌, Bool, true, false, cond, not, ◌&&◌, ◌≢◌, List, [], ◌∷◌, is_some, Some, None, Option, MatchOption, ◌==◌, slice_index_or, slice_set}
use Rattle.bank.specs.declared.translation.Translation.{Translation}

-- the frame that the entries have for a page
abbrev pub own : List (Option Translation) → ℕ → Option ℕ
own [] p = None
own (None ∷ es) p = own es p
own (Some e ∷ es) p = cond (e.page == p) (Some e.frame) (own es p)

-- no page stands twice
abbrev pub once : List (Option Translation) → Bool
once [] = true
once (None ∷ es) = once es
once (Some e ∷ es) = not (is_some (own es e.page)) && once es

-- the page of a slot, and 0 where it is empty
abbrev pub paged : Option Translation → ℕ
paged None = 0
paged (Some e) = e.page

-- whether a slot has the page
abbrev pub has_page : ℕ → Option Translation → Bool
has_page p None = false
has_page p (Some e) = e.page == p

-- the slot of the page, one of eight, is written with x, and all others stay
pub record Rewritten (p : ℕ) (x : Option Translation) (old new : List (Option Translation)) : Type 0 where
  pub at : ℕ
  pub within : at < 8
  pub was : has_page p (slice_index_or old at None) ≡ true
  pub writes : new ≡ slice_set old at x

-- a page that has an entry gets its frame in place: the turn stays, and nothing is displaced
pub record Replaced (e : Translation) (out : Option Translation) (old new : List (Option Translation)) (turn next : ℕ) : Type 0 where
  pub place : Rewritten e.page (Some e) old new
  pub stays : next ≡ turn
  pub nothing : out ≡ None

-- a newcomer takes the slot whose turn it is: the turn goes on by one modulo 8, and what the slot had is displaced
pub record Entered (e : Translation) (out : Option Translation) (old new : List (Option Translation)) (turn next : ℕ) : Type 0 where
  pub writes : new ≡ slice_set old turn (Some e)
  pub goes_on : next ≡ (turn + 1) % 8
  pub displaced : out ≡ slice_index_or old turn None

-- what taking e in makes of the entries and the turn of a core
abbrev pub Taken : Translation → Option Translation → List (Option Translation) → List (Option Translation) → ℕ → ℕ → Type 0
Taken e out old new turn next = MatchOption (own old e.page) (Entered e out old new turn next) (λ _. Replaced e out old new turn next)

-- what dropping the page makes of the entries of a core: its slot, if it has one, is emptied
abbrev pub Vacated : ℕ → List (Option Translation) → List (Option Translation) → Type 0
Vacated p old new = MatchOption (own old p) (new ≡ old) (λ _. Rewritten p None old new)

-- what becomes of the frames of the other pages where p is taken in and out is displaced
abbrev pub Displaces : ℕ → Option Translation → List (Option Translation) → List (Option Translation) → Type 0
Displaces p None old new = (q : ℕ) → q ≢ p → own new q ≡ own old q
Displaces p (Some e) old new =
    (e.page ≢ p) × (own old e.page ≡ Some e.frame) × (own new e.page ≡ None) ×
    ((q : ℕ) → q ≢ p → q ≢ e.page → own new q ≡ own old q)
