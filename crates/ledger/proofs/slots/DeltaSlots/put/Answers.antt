use Rattle.std.proofs.Common.{◌≡◌, ◌%◌, ◌≤◌, true, nat_abs, is_some, Some, None, arith}
use Rattle.ledger.specs.Slots.{object_in, change_in}
use Rattle.ledger.proofs.Sums.{each_set}
use Rattle.ledger.proofs.slots.DeltaSlots.put.Goals as goal

pub invariant_of-self : goal.invariant_of-self
invariant_of-self c =
    let s = c.args.self.now in
    let new = Some c.args.delta in
    let fits = c.requires in
    record {
      within = each_set (λ k s. nat_abs (change_in s) ≤ 100) s.rows _ new None s.within fits.within;
      named = each_set (λ k s. is_some s ≡ true → 1 ≤ object_in s) s.rows _ new None s.named (λ e. fits.named);
      known = each_set (λ k s. object_in s ≤ 1024) s.rows _ new None s.known fits.known;
      homed = each_set (λ k s. 1 ≤ object_in s → object_in s % 16 ≡ k % 16) s.rows _ new None s.homed (λ h. omega (arith, fits.homed));
    }
