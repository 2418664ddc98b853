-- The first map in a new space.
use Rattle.std.proofs.Common.{◌≡◌, ℕ, ◌+◌, ◌<◌, Bool, true, false, cond, ltb, List, Some, None, Ok, Err, Option, sym, refl, ap, ◌∙◌, arith}
use Rattle.std.proofs.lemmas.Bool.{lt-ltb, le-ltb}
use Rattle.model.specs.declared.fault.TreeFault.TheVariants.{TooFewNodes}
use Rattle.tree.specs.declared.table.Tree.{Tree}
use Rattle.tree.specs.Room.{room_for}
use Rattle.model.specs.declared.fault.Reason.TheVariants.{CoreNotInService, BadRange, NoLabel, Mapped, Closing}
use Rattle.model.specs.Pages.{closing_by, mapped_state}
use Rattle.model.specs.Flat.{lowest}
use Rattle.model.proofs.Lowest.{lowest_is}
use Rattle.tree.specs.declared.slot.Slot.{Slot}
use Rattle.tree.specs.declared.slot.Slot.TheVariants.{Vacant}
use Rattle.tree.specs.Changes.{planted}
use Rattle.tree.specs.Nodes.{slot_at, shows}
use Rattle.tree.specs.Need.{at_ends, need, root_part}
use Rattle.tree.specs.Soundness.{left}
use Rattle.tree.proofs.Starting.{planted_root}
use Rattle.space.specs.States.{set_up_state}
use Rattle.space.specs.Checks.{Check, and_then, unless, unless_found, of_tree, good_range, numbers_check, vacant_check, map_check}
use Rattle.space.specs.Calls.{answer}
use Rattle.space.specs.FirstMaps.{Makes, FirstMaps}
use Rattle.space.proofs.Beginning.{all_blank}

nothing : (f : ℕ → Bool) (first count : ℕ) → ((q : ℕ) → f q ≡ false) → lowest f first count ≡ None
nothing f first count h = sym (lowest_is f count first (first + count) None refl (λ q _ _. h q))

joined : (a b : Check) → a ≡ Ok tt → b ≡ Ok tt → and_then a b ≡ Ok tt
joined a b p q = ap (λ (x : Check). and_then x b) p ∙ q

-- a map passes its checks where nothing is in its way
passes : (core label first count cores : ℕ) (t : Tree) → core < cores → good_range first count ≡ true → 0 < label →
    lowest (λ q. closing_by (shows t q)) first count ≡ None → lowest (λ q. mapped_state (shows t q)) first count ≡ None →
    ltb (left t) (need t.slots first (first + count)) ≡ false → map_check core label first count cores t ≡ Ok tt
passes core label first count cores t serves range some c m room =
    joined (numbers_check cores core label first count) (and_then (vacant_check first count (shows t)) (of_tree (room_for first (first + count) t)))
    (joined (unless (ltb core cores) CoreNotInService) (and_then (unless (good_range first count) BadRange) (unless (ltb 0 label) NoLabel))
    (ap (λ (b : Bool). unless b CoreNotInService) (lt-ltb core cores serves))
    (joined (unless (good_range first count) BadRange) (unless (ltb 0 label) NoLabel) (ap (λ (b : Bool). unless b BadRange) range) (ap (λ (b : Bool). unless b NoLabel) (lt-ltb 0 label some))))
    (joined (vacant_check first count (shows t)) (of_tree (room_for first (first + count) t))
    (joined (unless_found (lowest (λ q. closing_by (shows t q)) first count) Closing) (unless_found (lowest (λ q. mapped_state (shows t q)) first count) Mapped)
    (ap (λ (o : Option ℕ). unless_found o Closing) c) (ap (λ (o : Option ℕ). unless_found o Mapped) m))
    (ap (λ (b : Bool). of_tree (cond b (Err (TooFewNodes (Some first))) (Ok tt))) room))

makes : (cores frames nodes epoch core label made first count : ℕ) → core < cores → 0 < label → good_range first count ≡ true →
    need (planted nodes).slots first (first + count) ≡ made → made < nodes → Makes made core label first count (set_up_state cores frames nodes epoch)
makes cores frames nodes epoch core label made first count serves some range is enough =
    record {
      accepted = ap (λ (x : Check). answer x 0)
          (passes core label first count cores (planted nodes) serves range some
          (nothing (λ q. closing_by (shows (planted nodes) q)) first count (λ q. ap closing_by (all_blank cores frames nodes epoch q)))
          (nothing (λ q. mapped_state (shows (planted nodes) q)) first count (λ q. ap mapped_state (all_blank cores frames nodes epoch q)))
          (le-ltb (left (planted nodes)) (need (planted nodes).slots first (first + count)) (omega (arith, is, enough))));
      needs = is;
    }

-- what a map needs where every slot of the root is vacant
module _ (xs : List Slot) (blank : (s : ℕ) → slot_at xs 1 s ≡ Vacant) where
  one : need xs 64 128 ≡ 1
  unfolding at_ends
  one = ap (λ (x : Slot). root_part xs x 64 128 + 0) (blank 0)

  two : need xs 64 127 ≡ 2
  unfolding at_ends
  two = ap (λ (x : Slot). root_part xs x 64 127 + 0) (blank 0)

  none : need xs 0 262144 ≡ 0
  unfolding at_ends
  none = ap (λ (x : Slot). root_part xs x 0 4096 + root_part xs (slot_at xs 1 63) 258048 262144) (blank 0)
      ∙ ap (λ (x : Slot). 0 + root_part xs x 258048 262144) (blank 63)

pub first_maps_lem : FirstMaps
first_maps_lem = record {
  block = λ cores frames nodes epoch core label serves some enough.
      makes cores frames nodes epoch core label 1 64 64 serves some refl (one (planted nodes).slots (planted_root nodes)) enough;
  part = λ cores frames nodes epoch core label serves some enough.
      makes cores frames nodes epoch core label 2 64 63 serves some refl (two (planted nodes).slots (planted_root nodes)) enough;
  all = λ cores frames nodes epoch core label serves some enough.
      makes cores frames nodes epoch core label 0 0 262144 serves some refl (none (planted nodes).slots (planted_root nodes)) enough;
}
