-- One more page.
use Rattle.std.proofs.Common.{◌≡◌, ℕ, suc, ◌+◌, Bool, refl, ap, arith}
use Rattle.statement.specs.Counts.{one, count_below}

pub count_none : (f : ℕ → Bool) → count_below 0 f ≡ 0
unfolding count_below
count_none f = refl

pub count_more : (f : ℕ → Bool) (n : ℕ) → count_below (n + 1) f ≡ count_below n f + one (f n)
unfolding count_below
count_more f n = let e : n + 1 ≡ suc n = omega arith in ap (λ (k : ℕ). count_below k f) e

pub ruleset counting = (count_none, count_more)
