-- Pools of numbered objects.
use Rattle.std.specs.Prelude.{ℕ, ◌+◌, ◌-◌, ◌<◌, ◌≤◌, cond, replicate, nat_lt, slice_index}
use Rattle.tree.specs.declared.pool.Pool.{Pool}

-- all of the objects 1 to `size`, none returned yet
abbrev pub full : (n : ℕ) → ℕ → Pool n
full n size = record { returned = replicate n 0; count = 0; next = 1; size = size }

-- the object that a draw gives: the one returned last, else the next new one
abbrev pub next_object : {n : ℕ} → Pool n → ℕ
next_object p = cond (nat_lt 0 p.count) (slice_index p.returned (p.count - 1)) p.next

-- the pool after a draw
abbrev pub drawn : {n : ℕ} → Pool n → Pool n
drawn p =
    record {
      returned = p.returned;
      count = p.count - 1;
      next = cond (nat_lt 0 p.count) p.next (p.next + 1);
      size = p.size;
    }

-- how many objects can be drawn
abbrev pub unused : {n : ℕ} → Pool n → ℕ
unused p = p.count + (p.size + 1 - p.next)

-- how many objects are out
abbrev pub in_use : {n : ℕ} → Pool n → ℕ
in_use p = p.size - unused p

-- the numbers of a pool are in its bounds, and only objects that were new once have come back
pub record Ready (n : ℕ) (p : Pool n) : Type 0 where
  pub few : p.size ≤ n
  pub small : n < 65535
  pub past : p.next ≤ p.size + 1
  pub fit : p.count ≤ n
  pub less : p.count < p.next
