-- The rows of all cores in the reload buffer, and what exactly an operation makes of them and of the bank below.
use Rattle.std.specs.Prelude.{◌≡◌, ℕ, ◌<◌, ◌≢◌, List, [], map, replicate, Some, None, Option, MatchOption, slice_index, slice_index_or, slice_set}
use Rattle.std.specs.Option.{option_or}
use Rattle.bank.specs.Meaning.{Apart, Operation}
use Rattle.bank.specs.Meaning.Operation.{Install, DropPage, Clear}
use Rattle.bank.specs.declared.translation.Translation.{Translation}
use Rattle.bank.specs.declared.reload_row.ReloadRow.{ReloadRow}
use Rattle.bank.specs.ReloadEntries.{own, Taken, Vacated}

-- the entries of a core
abbrev pub entries_of : List ReloadRow → ℕ → List (Option Translation)
entries_of rows c = slice_index_or (map (λ r. r.entries) rows) c []

-- the turn of a core
abbrev pub turn_of : List ReloadRow → ℕ → ℕ
turn_of rows c = slice_index (map (λ r. r.turn) rows) c

-- the frame that a core's own entries have for a page
abbrev pub held : List ReloadRow → ℕ → ℕ → Option ℕ
held rows c p = own (entries_of rows c) p

-- the first where it shows a frame, else the second
abbrev pub over : (ℕ → ℕ → Option ℕ) → (ℕ → ℕ → Option ℕ) → ℕ → ℕ → Option ℕ
over above below c p = option_or (above c p) (below c p)

-- all sixteen rows have eight empty entries, and every turn is 0
pub record Bare (rows : List ReloadRow) : Type 0 where
  pub entries : map (λ r. r.entries) rows ≡ replicate 16 (replicate 8 None)
  pub turns : map (λ r. r.turn) rows ≡ replicate 16 0

-- what becomes of the other pairs where (c, p) is taken in and out is displaced
abbrev pub Displaced : ℕ → ℕ → Option Translation → (old new : ℕ → ℕ → Option ℕ) → Type 0
Displaced c p None old new = (d q : ℕ) → Apart c p d q → new d q ≡ old d q
Displaced c p (Some e) old new =
    (e.page < 262144) × (e.page ≢ p) × (old c e.page ≡ Some e.frame) × (new c e.page ≡ None) ×
    ((d q : ℕ) → Apart c p d q → Apart c e.page d q → new d q ≡ old d q)

-- exactly what taking e in makes of the rows: only the core's row changes
pub record Took (c : ℕ) (e : Translation) (out : Option Translation) (old new : List ReloadRow) : Type 0 where
  pub row : ReloadRow
  pub writes : new ≡ slice_set old c row
  pub takes : Taken e out (entries_of old c) row.entries (turn_of old c) row.turn

-- exactly what dropping the page makes of the rows: only the core's row changes, and its turn stays
pub record Vacates (c p : ℕ) (old new : List ReloadRow) : Type 0 where
  pub row : ReloadRow
  pub writes : new ≡ slice_set old c row
  pub vacates : Vacated p (entries_of old c) row.entries
  pub stays : row.turn ≡ turn_of old c

-- install: the rows take e in, and what they displace is installed below, else the bank below is as it was
pub record Reloads (B : Type 0) (steps : B → Operation → B → Type 0) (c : ℕ) (e : Translation) (old new : List ReloadRow) (below under : B) : Type 0 where
  pub out : Option Translation
  pub takes : Took c e out old new
  pub down : MatchOption out (under ≡ below) (λ d. steps below (Install c d.page d.frame) under)

-- drop: the page leaves the rows and the bank below
pub record Drops (B : Type 0) (steps : B → Operation → B → Type 0) (c p : ℕ) (old new : List ReloadRow) (below under : B) : Type 0 where
  pub vacates : Vacates c p old new
  pub down : steps below (DropPage c p) under

-- clear: the rows are bare, and the bank below is cleared
pub record Clears (B : Type 0) (steps : B → Operation → B → Type 0) (new : List ReloadRow) (below under : B) : Type 0 where
  pub bare : Bare new
  pub down : steps below Clear under

-- what exactly one operation makes of the rows and of the bank below, whose own steps are given
abbrev pub Steps : (B : Type 0) → (B → Operation → B → Type 0) → List ReloadRow → B → Operation → List ReloadRow → B → Type 0
Steps B steps old below (Install c p f) new under = Reloads B steps c (record { page = p; frame = f }) old new below under
Steps B steps old below (DropPage c p) new under = Drops B steps c p old new below under
Steps B steps old below Clear new under = Clears B steps new below under
