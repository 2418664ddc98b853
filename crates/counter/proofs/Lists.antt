-- A list of one value, read at any place.
use Rattle.std.proofs.Common.{◌≡◌, ℕ, zero, suc, get_or, replicate, refl}

pub get_d_replicate : {X : Type 0} (n : ℕ) (x : X) (k : ℕ) → get_or (replicate n x) k x ≡ x
get_d_replicate zero x k = refl
get_d_replicate (suc n) x zero = refl
get_d_replicate (suc n) x (suc k) = get_d_replicate n x k
