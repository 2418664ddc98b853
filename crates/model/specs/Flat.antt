-- The flat page map, and what set up, map and look are on it.
use Rattle.std.specs.Prelude.{◌≡◌, ℕ, zero, suc, ◌+◌, ◌<◌, ◌≤◌, Bool, true, false, cond, ◌&&◌, Some, None, Option, nat_le, nat_lt}
use Rattle.model.specs.Pages.{PageState, fresh, look_answer}

-- what each page is
abbrev pub Flat : Type 0
Flat = ℕ → PageState

-- set up: every page is vacant
abbrev pub all_vacant : Flat
all_vacant q = None

-- the page q is one of the `count` pages from `first`
abbrev pub inside : ℕ → ℕ → ℕ → Bool
inside first count q = nat_le first q && nat_lt q (first + count)

-- map: the pages of the range are mapped with the label, and all others are as they were
abbrev pub map_range : ℕ → ℕ → ℕ → Flat → Flat
map_range first count label m q = cond (inside first count q) (Some (fresh label)) (m q)

-- look: what is told of a page
abbrev pub look_at : ℕ → Flat → ℕ
look_at page m = look_answer (m page)

-- the lowest of the `count` numbers from `first` that f says yes to
unfoldable pub lowest : (ℕ → Bool) → ℕ → ℕ → Option ℕ
lowest f first zero = None
lowest f first (suc count) = cond (f first) (Some first) (lowest f (first + 1) count)

-- the law of it: the one that was found is in the range and fits, and none below it does
abbrev pub Lowest : (ℕ → Bool) → ℕ → ℕ → Option ℕ → Type 0
Lowest f first last None = (q : ℕ) → first ≤ q → q < last → f q ≡ false
Lowest f first last (Some p) = (first ≤ p) × (p < last) × (f p ≡ true) × ((q : ℕ) → first ≤ q → q < p → f q ≡ false)
