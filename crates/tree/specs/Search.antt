-- What is looked for in a range of pages.
use Rattle.std.specs.Prelude.{◌≡◌, ℕ, ◌<◌, ◌≤◌, Bool, false, Some, None}
use Rattle.model.specs.declared.page.Mapping.{Mapping}
use Rattle.model.specs.Pages.{PageState}
use Rattle.tree.specs.declared.table.Tree.{Tree}
use Rattle.tree.specs.Nodes.{shows}

-- what is said of a page by what it has in use decides a test of its state, which no vacant page passes
abbrev pub Tells : (Mapping → Bool → Type 0) → (PageState → Bool) → Type 0
Tells says test = (test None ≡ false) × ((m : Mapping) (r : Bool) → says m r → r ≡ test (Some m))

-- whether a page of a tree passes
abbrev pub found_at : (PageState → Bool) → Tree → ℕ → Bool
found_at test t q = test (shows t q)

-- no page from `first` and below both bounds passes
abbrev pub Clear : (PageState → Bool) → Tree → ℕ → ℕ → ℕ → Type 0
Clear test t first last bound = (q : ℕ) → first ≤ q → q < last → q < bound → found_at test t q ≡ false
