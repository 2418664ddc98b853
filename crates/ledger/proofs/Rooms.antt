-- Room for a change in the slot of an object.
use Rattle.std.proofs.Common.{◌≡◌, ℕ, ◌%◌, ◌<◌, ◌≤◌, true, false, not, eqb, ◌⊎◌, ℤ, ◌+ℤ◌, nat_abs, Some, None, Option, refl, inl, inr, arith}
use borrow.Author.Differences.{ints}
use Rattle.std.proofs.lemmas.Bool.{eqb-true, or_parts, not-false, cond_both}
use Rattle.ledger.specs.declared.slot.Delta.{Delta}
use Rattle.ledger.specs.declared.slot.Move.{Move}
use Rattle.ledger.specs.declared.slot.Move.TheVariants.{Gain, Loss}
use Rattle.ledger.specs.Slots.{object_in, change_in, by_of}
use Rattle.ledger.specs.States.{State, Ready, slot_at, slot_of, fold_slot, at_limit, is_full, make_room}
use Rattle.ledger.proofs.Folding.{place_fits, fold_empties}

-- a slot with room for a change of object o
pub record Room (way : Move) (o : ℕ) (s : Option Delta) : Type 0 where
  pub low : nat_abs (change_in s +ℤ by_of way) ≤ 100
  pub own : (object_in s ≡ o) ⊎ (s ≡ None)

-- a change that is not at the limit can move
can_move : (way : Move) (z : ℤ) → nat_abs z ≤ 100 → at_limit way z ≡ false → nat_abs (z +ℤ by_of way) ≤ 100
can_move Gain z h e = grind (arith, ints)
can_move Loss z h e = grind (arith, ints)

room_kept : (way : Move) (o : ℕ) (s : Option Delta) → nat_abs (change_in s) ≤ 100 → is_full way o s ≡ false → Room way o s
room_kept Gain o None h e = record { low = omega (arith, ints); own = inr refl }
room_kept Loss o None h e = record { low = omega (arith, ints); own = inr refl }
room_kept way o (Some d) h e =
    let parts = or_parts (not (eqb d.object o)) (at_limit way d.change) e in
    record { low = can_move way d.change h parts.1; own = inl (eqb-true d.object o (not-false (eqb d.object o) parts.0)) }

room_empty : (way : Move) (o : ℕ) (s : Option Delta) → s ≡ None → Room way o s
room_empty Gain o s e = record { low = rw e (omega (arith, ints)); own = inr e }
room_empty Loss o s e = record { low = rw e (omega (arith, ints)); own = inr e }

-- a slot is folded where it is full, and left where it is not
pub room_cases : (P : State → Type 0) (way : Move) (core o : ℕ) (st : State) →
    (is_full way o (slot_at st (slot_of core o)) ≡ true → P (fold_slot core (o % 16) st)) → (is_full way o (slot_at st (slot_of core o)) ≡ false → P st) →
    P (make_room way core o st)
unfolding make_room
room_cases P way core o st full left = cond_both (is_full way o (slot_at st (slot_of core o))) (fold_slot core (o % 16) st) st P full left

-- there is room then
pub room_made : (way : Move) (core o : ℕ) (st : State) → core < 16 → Ready st → Room way o (slot_at (make_room way core o st) (slot_of core o))
room_made way core o st hc ready =
    room_cases (λ t. Room way o (slot_at t (slot_of core o))) way core o st
    (λ _. room_empty way o _ (fold_empties core (o % 16) st (place_fits core (o % 16) _ hc (omega arith) ready.wide)))
    (λ e. room_kept way o _ (ready.within (slot_of core o)) e)
