-- Runs of a counter: operations in their order, each where it may come, and the bound over all of them.
use Rattle.std.specs.Prelude.{◌≡◌, ℕ, ◌+◌, ◌≤◌, Bool, List, [], ◌∷◌, Some}
use Rattle.counter.specs.Meaning.{Meaning, Operation}
use Rattle.counter.specs.Meaning.Operation.{Down}
use Rattle.counter.specs.Operations.{Allowed}
use Rattle.counter.specs.Timeline.{Timeline, noted, InTurn}

-- The operations lead a counter from s to t and what is known of time from p to q; each core closes only once every object was judged for it,
-- and P holds of every meaning on the way.
unfoldable pub Run : {S : Type 0} → (S → Meaning) → (S → Operation → S → Type 0) → ℕ → Bool → (Meaning → Type 0) → List Operation → S → Timeline → S → Timeline → Type 0
Run meaning steps capacity revives P [] s p t q = P (meaning s) × (t ≡ s) × (q ≡ p)
Run {S} meaning steps capacity revives P (op ∷ ops) s p t q =
    (u : S)
    × P (meaning s) × Allowed capacity revives (meaning s) op × InTurn capacity op p × steps s op u
    × Run meaning steps capacity revives P ops u (noted op (meaning s) p) t q

-- nothing is asked of the meanings on the way
abbrev pub Any : Meaning → Type 0
Any m = Unit {0}

-- the object is in use, and nobody holds it
abbrev pub Unheld : ℕ → Meaning → Type 0
Unheld o m = m.holders o ≡ Some 0

-- The bound: from a start, after any operations, an object loses its last holder, and gains none by any operations after that.
-- Then the epoch is at most so many past that of the loss. With five: once it reads six past, the object is no longer in use.
abbrev pub PromptOverRuns : {S : Type 0} → (S → Meaning) → (S → Operation → S → Type 0) → (S → Timeline → Type 0) → Type 0 → ℕ → Bool → ℕ → Type 0
PromptOverRuns {S} meaning steps timely prompt capacity revives most =
    prompt → (earlier later : List Operation) (c o : ℕ) (s u v t : S) (p q r : Timeline) →
    ((x : Timeline) → timely s x) → Run meaning steps capacity revives Any earlier s p u q →
    Allowed capacity revives (meaning u) (Down c o) → steps u (Down c o) v →
    Run meaning steps capacity revives (Unheld o) later v (noted (Down c o) (meaning u) q) t r →
    (meaning t).epoch ≤ (meaning u).epoch + most
