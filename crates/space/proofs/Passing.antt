-- What is known once all checks of a map have passed.
use Rattle.std.proofs.Common.{◌≡◌, ℕ, ◌+◌, ◌<◌, ◌≤◌, Bool, true, false, cond, not, ◌&&◌, ltb, leb, Some, None, Ok, Err, Option, Result, sym, refl, ap, ◌∙◌, arith}
use Rattle.std.proofs.lemmas.Bool.{ltb-true, ltb-false, leb-true, and_parts}
use Rattle.model.specs.declared.fault.Reason.{Reason}
use Rattle.model.specs.declared.fault.Reason.TheVariants.{CoreNotInService, BadRange, NoLabel, Mapped, Closing, BadSetUp}
use Rattle.model.specs.declared.fault.TreeFault.{TreeFault}
use Rattle.model.specs.Pages.{closing_by, mapped_state}
use Rattle.model.specs.declared.fault.SpaceFault.{SpaceFault}
use Rattle.model.specs.Flat.{Flat, lowest}
use Rattle.model.proofs.Lowest.{lowest_none}
use Rattle.tree.specs.declared.slot.Slot.{Slot}
use Rattle.tree.specs.declared.slot.Slot.TheVariants.{Vacant, Child, Value}
use Rattle.tree.specs.declared.table.Tree.{Tree}
use Rattle.tree.specs.Nodes.{shows, slot_of, state_of}
use Rattle.tree.specs.Soundness.{Sound, left}
use Rattle.tree.specs.Need.{need}
use Rattle.tree.specs.Room.{room_for}
use Rattle.tree.proofs.Showing.{shown_plain}
use Rattle.space.specs.Checks.{Check, and_then, unless, unless_found, of_tree, good_range, good_set_up, numbers_check, vacant_check, map_check, look_check, set_up_check}

both : (a b : Check) → and_then a b ≡ Ok tt → (a ≡ Ok tt) × (b ≡ Ok tt)
both (Ok x) b e = (refl, e)
both (Err f) b e = absurd (let z : ◌≡◌ {A = ℕ} 0 1 = cc in omega arith)

fine : (b : Bool) (r : Reason) → unless b r ≡ Ok tt → b ≡ true
fine true r e = refl
fine false r e = absurd (let z : ◌≡◌ {A = ℕ} 0 1 = cc in omega arith)

nowhere : (o : Option ℕ) (r : Reason) → unless_found o r ≡ Ok tt → o ≡ None
nowhere None r e = refl
nowhere (Some p) r e = absurd (let z : ◌≡◌ {A = ℕ} 0 1 = cc in omega arith)

below : (r : Result (Unit {0}) TreeFault) → of_tree r ≡ Ok tt → r ≡ Ok tt
below (Ok x) e = refl
below (Err f) e = absurd (let z : ◌≡◌ {A = ℕ} 0 1 = cc in omega arith)

roomy : (b : Bool) (f : TreeFault) → ◌≡◌ {A = Result (Unit {0}) TreeFault} (cond b (Err f) (Ok tt)) (Ok tt) → b ≡ false
roomy true f e = absurd (let z : ◌≡◌ {A = ℕ} 0 1 = cc in omega arith)
roomy false f e = refl

-- a page that is neither closing nor mapped is vacant
neither : (x : Slot) → ((k : ℕ) → x ≡ Child k → ⊥) → closing_by (state_of x) ≡ false → mapped_state (state_of x) ≡ false → x ≡ Vacant
neither Vacant plain a b = refl
neither (Child k) plain a b = absurd (plain k refl)
neither (Value e) plain a b = absurd (let z : ◌≡◌ {A = Bool} true false = sym (ap not a) ∙ b in let y : ◌≡◌ {A = ℕ} 0 1 = cc in omega arith)

module _ (core label first count cores : ℕ) (t : Tree) (ok : Sound t) (e : map_check core label first count cores t ≡ Ok tt) where
  parts : (numbers_check cores core label first count ≡ Ok tt) × (and_then (vacant_check first count (shows t)) (of_tree (room_for first (first + count) t)) ≡ Ok tt)
  parts = both (numbers_check cores core label first count) (and_then (vacant_check first count (shows t)) (of_tree (room_for first (first + count) t))) e

  numbers : (unless (ltb core cores) CoreNotInService ≡ Ok tt) × (and_then (unless (good_range first count) BadRange) (unless (ltb 0 label) NoLabel) ≡ Ok tt)
  numbers = both (unless (ltb core cores) CoreNotInService) (and_then (unless (good_range first count) BadRange) (unless (ltb 0 label) NoLabel)) parts.0

  range : good_range first count ≡ true
  range = fine (good_range first count) BadRange (both (unless (good_range first count) BadRange) (unless (ltb 0 label) NoLabel) numbers.1).0

  pub serves : core < cores
  serves = ltb-true core cores (fine (ltb core cores) CoreNotInService numbers.0)

  pub some : 0 < count
  some = ltb-true 0 count (and_parts (ltb 0 count) (leb (first + count) 262144) range).0

  pub small : first + count ≤ 262144
  small = leb-true (first + count) 262144 (and_parts (ltb 0 count) (leb (first + count) 262144) range).1

  rest : (vacant_check first count (shows t) ≡ Ok tt) × (of_tree (room_for first (first + count) t) ≡ Ok tt)
  rest = both (vacant_check first count (shows t)) (of_tree (room_for first (first + count) t)) parts.1

  found : (unless_found (lowest (λ q. closing_by (shows t q)) first count) Closing ≡ Ok tt) × (unless_found (lowest (λ q. mapped_state (shows t q)) first count) Mapped ≡ Ok tt)
  found = both (unless_found (lowest (λ q. closing_by (shows t q)) first count) Closing) (unless_found (lowest (λ q. mapped_state (shows t q)) first count) Mapped) rest.0

  pub vacant : (q : ℕ) → first ≤ q → q < first + count → slot_of t.slots q ≡ Vacant
  vacant q lo hi =
      let far = small in
      neither (slot_of t.slots q) (shown_plain t.slots t.links ok.linked q (omega arith))
      (lowest_none (λ x. closing_by (shows t x)) count first (nowhere _ Closing found.0) q lo hi)
      (lowest_none (λ x. mapped_state (shows t x)) count first (nowhere _ Mapped found.1) q lo hi)

  pub room : need t.slots first (first + count) ≤ left t
  room = ltb-false (left t) (need t.slots first (first + count)) (roomy (ltb (left t) (need t.slots first (first + count))) _ (below (room_for first (first + count) t) rest.1))

-- what a good set up has
pub set_up_parts : (cores frames nodes : ℕ) → good_set_up cores frames nodes ≡ true → (cores ≤ 16) × (frames ≤ 1024) × (0 < nodes) × (nodes ≤ 64)
set_up_parts cores frames nodes e =
    let a = and_parts (ltb 0 cores && leb cores 16) ((ltb 0 frames && leb frames 1024) && (ltb 0 nodes && leb nodes 64)) e in
    let b = and_parts (ltb 0 frames && leb frames 1024) (ltb 0 nodes && leb nodes 64) a.1 in
    let n = and_parts (ltb 0 nodes) (leb nodes 64) b.1 in (
      leb-true cores 16 (and_parts (ltb 0 cores) (leb cores 16) a.0).1,
      leb-true frames 1024 (and_parts (ltb 0 frames) (leb frames 1024) b.0).1,
      ltb-true 0 nodes n.0,
      leb-true nodes 64 n.1,
    )

-- a page that a look may name
pub page_good : (page : ℕ) → look_check page ≡ Ok tt → page < 262144
page_good page e = ltb-true page 262144 (fine (ltb page 262144) BadRange e)

-- a set up that passes its check is good
pub passed : (cores frames nodes : ℕ) → set_up_check cores frames nodes ≡ Ok tt → good_set_up cores frames nodes ≡ true
passed cores frames nodes e = fine (good_set_up cores frames nodes) BadSetUp e

-- what the checks of a map's pages say, from what each of the two says
module _ (first count : ℕ) (pages : Flat) (a : Check) (closing : a ≡ unless_found (lowest (λ q. closing_by (pages q)) first count) Closing) where
  pub vacant_passed : (b : Check) → a ≡ Ok tt → b ≡ unless_found (lowest (λ q. mapped_state (pages q)) first count) Mapped → b ≡ vacant_check first count pages
  vacant_passed b fine mapped = mapped ∙ sym (ap (λ (x : Check). and_then x (unless_found (lowest (λ q. mapped_state (pages q)) first count) Mapped)) (sym closing ∙ fine))

  pub vacant_refused : (e : SpaceFault) → a ≡ Err e → Err e ≡ vacant_check first count pages
  vacant_refused e bad = sym (ap (λ (x : Check). and_then x (unless_found (lowest (λ q. mapped_state (pages q)) first count) Mapped)) (sym closing ∙ bad))
