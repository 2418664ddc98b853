-- What a bank means: a partial map from core and page to frame.
use Rattle.std.specs.Prelude.{◌≡◌, ℕ, ◌⊎◌, Some, None, Option, ◌≢◌}

-- the pair (d, q) is another one than (c, p)
abbrev pub Apart : ℕ → ℕ → ℕ → ℕ → Type 0
Apart c p d q = d ≡ c → q ≢ p

-- install: the pair shows the frame, and every other pair is as before or gone
pub record Installed (c p f : ℕ) (old new : ℕ → ℕ → Option ℕ) : Type 0 where
  pub here : new c p ≡ Some f
  pub rest : (d q : ℕ) → Apart c p d q → (new d q ≡ old d q) ⊎ (new d q ≡ None)

-- drop: the pair is gone, and every other pair is as before
pub record Dropped (c p : ℕ) (old new : ℕ → ℕ → Option ℕ) : Type 0 where
  pub here : new c p ≡ None
  pub rest : (d q : ℕ) → Apart c p d q → new d q ≡ old d q

-- clear: every pair is gone
abbrev pub Empty : (ℕ → ℕ → Option ℕ) → Type 0
Empty new = (d q : ℕ) → new d q ≡ None

-- an operation that changes a bank, with its core, page and frame
pub data Operation : Type 0 where
  Install : ℕ → ℕ → ℕ → Operation
  DropPage : ℕ → ℕ → Operation
  Clear : Operation
