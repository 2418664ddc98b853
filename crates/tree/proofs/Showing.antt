-- What a tree shows of a page.
use Rattle.std.proofs.Common.{◌≡◌, ℕ, ◌/◌, ◌%◌, ◌<◌, List, refl, ap, ◌∙◌, arith}
use Rattle.model.specs.Pages.{Proper}
use Rattle.tree.specs.declared.slot.Slot.{Slot}
use Rattle.tree.specs.declared.slot.Slot.TheVariants.{Vacant, Child, Value}
use Rattle.tree.specs.declared.slot.Link.{Link}
use Rattle.tree.specs.declared.table.Tree.{Tree}
use Rattle.tree.specs.Nodes.{slot_at, down, slot_of, state_of}
use Rattle.tree.specs.Soundness.{Linked, Sound}
use Rattle.tree.proofs.Blocks.{level_2, level_3}
use Rattle.tree.proofs.Filling.{live_small}

-- a value names only cores and frames that there are
module _ (xs : List Slot) (links : List Link) (ok : Linked xs links) where
  proper_at : (n s : ℕ) → s < 64 → (x : Slot) → slot_at xs n s ≡ x → Proper (state_of x)
  proper_at n s h Vacant e = tt
  proper_at n s h (Child k) e = tt
  proper_at n s h (Value v) e = ok.values n s v h e

  proper_below : (s : ℕ) → s < 64 → (x : Slot) → Proper (state_of x) → Proper (state_of (down xs x s))
  proper_below s h Vacant p = tt
  proper_below s h (Child k) p = proper_at k s h (slot_at xs k s) refl
  proper_below s h (Value v) p = p

  pub proper_shown : (q : ℕ) → q < 262144 → Proper (state_of (slot_of xs q))
  proper_shown q h =
      proper_below (q % 64) (omega arith) (down xs (slot_at xs 1 (q / 4096)) (q / 64 % 64))
      (proper_below (q / 64 % 64) (omega arith) (slot_at xs 1 (q / 4096)) (proper_at 1 (q / 4096) (omega arith) (slot_at xs 1 (q / 4096)) refl))

-- where the way down ends above a leaf, the slot there says what the page is
no_way : (xs : List Slot) (s : ℕ) (x : Slot) → ((k : ℕ) → x ≡ Child k → ⊥) → down xs x s ≡ x
no_way xs s Vacant none = refl
no_way xs s (Child k) none = absurd (none k refl)
no_way xs s (Value v) none = refl

pub root_ends : (xs : List Slot) (q : ℕ) → ((k : ℕ) → slot_at xs 1 (q / 4096) ≡ Child k → ⊥) → slot_of xs q ≡ slot_at xs 1 (q / 4096)
root_ends xs q none =
    ap (λ (u : Slot). down xs u (q % 64)) (no_way xs (q / 64 % 64) (slot_at xs 1 (q / 4096)) none) ∙ no_way xs (q % 64) (slot_at xs 1 (q / 4096)) none

pub middle_ends : (xs : List Slot) (q m : ℕ) → slot_at xs 1 (q / 4096) ≡ Child m → ((k : ℕ) → slot_at xs m (q / 64 % 64) ≡ Child k → ⊥) → slot_of xs q ≡ slot_at xs m (q / 64 % 64)
middle_ends xs q m e none =
    ap (λ (u : Slot). down xs (down xs u (q / 64 % 64)) (q % 64)) e ∙ no_way xs (q % 64) (slot_at xs m (q / 64 % 64)) none

pub leaf_ends : (xs : List Slot) (q m n : ℕ) → slot_at xs 1 (q / 4096) ≡ Child m → slot_at xs m (q / 64 % 64) ≡ Child n → slot_of xs q ≡ slot_at xs n (q % 64)
leaf_ends xs q m n a b =
    ap (λ (u : Slot). down xs (down xs u (q / 64 % 64)) (q % 64)) a ∙ ap (λ (v : Slot). down xs v (q % 64)) b

-- the nodes on the way down are among the table's
module _ (t : Tree) (ok : Sound t) (q m : ℕ) where
  pub middle_small : q < 262144 → slot_at t.slots 1 (q / 4096) ≡ Child m → m < 65
  middle_small h a = live_small t ok m (omega (arith, level_2 t.slots t.slots t.links ok.linked q m h a))

  pub leaf_small : (n : ℕ) → q < 262144 → slot_at t.slots 1 (q / 4096) ≡ Child m → slot_at t.slots m (q / 64 % 64) ≡ Child n → n < 65
  leaf_small n h a b = live_small t ok n (omega (arith, level_3 t.slots t.slots t.links ok.linked q m n h a b))

-- a page's slot is never one with a child: leaves have none
module _ (xs : List Slot) (links : List Link) (ok : Linked xs links) (q : ℕ) (small : q < 262144) where
  leaf_plain : (a b k : ℕ) → slot_at xs 1 (q / 4096) ≡ Child a → slot_at xs a (q / 64 % 64) ≡ Child b → slot_at xs b (q % 64) ≡ Child k → ⊥
  leaf_plain a b k p r e = omega (arith, ok.level b (q % 64) k (omega arith) e, level_3 xs xs links ok q a b small p r, ok.deep k)

  third : (a : ℕ) → slot_at xs 1 (q / 4096) ≡ Child a → (v : Slot) → slot_at xs a (q / 64 % 64) ≡ v → (k : ℕ) → down xs v (q % 64) ≡ Child k → ⊥
  third a p Vacant r k e = let z : ◌≡◌ {A = ℕ} 0 1 = cc in omega arith
  third a p (Value v) r k e = let z : ◌≡◌ {A = ℕ} 0 1 = cc in omega arith
  third a p (Child b) r k e = leaf_plain a b k p r e

  second : (u : Slot) → slot_at xs 1 (q / 4096) ≡ u → (k : ℕ) → down xs (down xs u (q / 64 % 64)) (q % 64) ≡ Child k → ⊥
  second Vacant p k e = let z : ◌≡◌ {A = ℕ} 0 1 = cc in omega arith
  second (Value v) p k e = let z : ◌≡◌ {A = ℕ} 0 1 = cc in omega arith
  second (Child a) p k e = third a p (slot_at xs a (q / 64 % 64)) refl k e

  pub shown_plain : (k : ℕ) → slot_of xs q ≡ Child k → ⊥
  shown_plain = second (slot_at xs 1 (q / 4096)) refl
