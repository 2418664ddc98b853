-- Tables in which each pair of core and page has one entry.
use Rattle.std.specs.Prelude.{◌≡◌, ℕ, Bool, true, false, cond, List, replicate, Some, None, Option, slice_index_or, slice_set}
use Rattle.bank.specs.Meaning.{Apart, Operation}
use Rattle.bank.specs.Meaning.Operation.{Install, DropPage, Clear}

-- of n entries: where a pair has its one, what stands there for a pair with its frame, which pair an entry is of, and the frame that it gives
pub record Layout (n : ℕ) (E : Type 0) : Type 0 where
  pub place : ℕ → ℕ → ℕ
  pub made : ℕ → ℕ → ℕ → E
  pub is_of : E → ℕ → ℕ → Bool
  pub gives : E → ℕ

-- what a layout owes: what is made for a pair with its frame is of that pair and gives the frame, and nothing is of two pairs of one place
pub record Lawful {n : ℕ} {E : Type 0} (L : Layout n E) : Type 0 where
  pub own : (c p f : ℕ) → L.is_of (L.made c p f) c p ≡ true
  pub frame : (c p f : ℕ) → L.gives (L.made c p f) ≡ f
  pub alone : (e : E) (c p d q : ℕ) → L.is_of e c p ≡ true → L.place d q ≡ L.place c p → Apart c p d q → L.is_of e d q ≡ false

-- an entry is of this very pair
abbrev pub holds : {n : ℕ} {E : Type 0} → Layout n E → Option E → ℕ → ℕ → Bool
holds L None c p = false
holds L (Some e) c p = L.is_of e c p

-- the frame that an entry has for a pair
abbrev pub frame_in : {n : ℕ} {E : Type 0} → Layout n E → Option E → ℕ → ℕ → Option ℕ
frame_in L None c p = None
frame_in L (Some e) c p = cond (L.is_of e c p) (Some (L.gives e)) None

-- the frame that a core has for a page
abbrev pub shown : {n : ℕ} {E : Type 0} → Layout n E → List (Option E) → ℕ → ℕ → Option ℕ
shown L entries c p = frame_in L (slice_index_or entries (L.place c p) None) c p

-- every entry is empty
abbrev pub Vacant : {n : ℕ} {E : Type 0} → Layout n E → List (Option E) → Type 0
Vacant {n} L entries = entries ≡ replicate n None

-- the entries after a pair was dropped: its entry is emptied only if it is of this very pair
abbrev pub without : {n : ℕ} {E : Type 0} → Layout n E → List (Option E) → ℕ → ℕ → List (Option E)
without L entries c p = cond (holds L (slice_index_or entries (L.place c p) None) c p) (slice_set entries (L.place c p) None) entries

-- what exactly one operation makes of the entries
abbrev pub Stepped : {n : ℕ} {E : Type 0} → Layout n E → List (Option E) → Operation → List (Option E) → Type 0
Stepped L old (Install c p f) new = new ≡ slice_set old (L.place c p) (Some (L.made c p f))
Stepped L old (DropPage c p) new = new ≡ without L old c p
Stepped L old Clear new = Vacant L new
