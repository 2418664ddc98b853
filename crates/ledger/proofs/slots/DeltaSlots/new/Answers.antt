use Rattle.std.proofs.Common.{◌≡◌, ◌%◌, ◌≤◌, true, false, nat_abs, is_some, None, refl, arith}
use Rattle.std.proofs.lemmas.Bool.{both_ways}
use Rattle.ledger.specs.Slots.{object_in, change_in}
use Rattle.ledger.proofs.Sums.{each_replicate}
use Rattle.ledger.proofs.slots.DeltaSlots.new.Goals as goal

pub invariant_of-result : goal.invariant_of-result
invariant_of-result c = record {
  within = each_replicate (λ k s. nat_abs (change_in s) ≤ 100) 256 None (λ k. omega arith);
  named = each_replicate (λ k s. is_some s ≡ true → 1 ≤ object_in s) 256 None (λ k e. absurd (both_ways false refl e));
  known = each_replicate (λ k s. object_in s ≤ 1024) 256 None (λ k. omega arith);
  homed = each_replicate (λ k s. 1 ≤ object_in s → object_in s % 16 ≡ k % 16) 256 None (λ k h. absurd (omega arith));
}
