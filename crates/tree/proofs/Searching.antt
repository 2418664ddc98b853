-- A search passes over blocks that do not fit, and stops at the first that does.
use Rattle.std.proofs.Common.{◌≡◌, ℕ, ◌/◌, ◌%◌, Bool, false, Some, None, MatchOption, sym, ap, ◌∙◌, arith}
use Rattle.model.specs.declared.page.Mapping.{Mapping}
use Rattle.model.specs.Pages.{PageState}
use Rattle.tree.specs.declared.slot.Slot.{Slot}
use Rattle.tree.specs.declared.slot.Slot.TheVariants.{Vacant, Child, Value}
use Rattle.tree.specs.declared.table.Tree.{Tree}
use Rattle.tree.specs.Nodes.{slot_at, state_of}
use Rattle.tree.specs.Search.{found_at}
use Rattle.tree.proofs.Showing.{root_ends, middle_ends, leaf_ends}

module _ (test : PageState → Bool) where
  -- what is said of a slot without a child
  abbrev pub Says : Slot → Bool → Type 0
  Says x b = (test (state_of x) ≡ b) × ((k : ℕ) → x ≡ Child k → ⊥)

  pub vacant_says : (x : Slot) → Vacant ≡ x → test None ≡ false → Says x false
  vacant_says x e h = (ap (λ (u : Slot). test (state_of u)) (sym e) ∙ h, λ k p. let z : ◌≡◌ {A = ℕ} 0 1 = cc in omega arith)

  pub value_says : (x : Slot) (m : Mapping) (b : Bool) → Value m ≡ x → b ≡ test (Some m) → Says x b
  value_says x m b e h = (ap (λ (u : Slot). test (state_of u)) (sym e) ∙ sym h, λ k p. let z : ◌≡◌ {A = ℕ} 0 1 = cc in omega arith)

  -- by the clause of `is_some_and`
  pub state_says : (o : PageState) (b : Bool) (P : Mapping → Type 0) → test None ≡ false → ((m : Mapping) → P m → b ≡ test (Some m)) → MatchOption o (b ≡ false) P → test o ≡ b
  state_says None b P none some h = none ∙ sym h
  state_says (Some m) b P none some h = sym (some m h)

-- a slot of the root, of a middle node and of a leaf speak for their pages
module _ (test : PageState → Bool) (t : Tree) where
  pub top_says : (q top : ℕ) (b : Bool) → q / 4096 ≡ top → Says test (slot_at t.slots 1 top) b → found_at test t q ≡ b
  top_says q top b e h =
      ap (λ (x : Slot). test (state_of x)) (root_ends t.slots q (λ k p. h.1 k (ap (slot_at t.slots 1) (sym e) ∙ p)) ∙ ap (slot_at t.slots 1) e) ∙ h.0

  pub middle_says : (q top block m : ℕ) (b : Bool) → q / 4096 ≡ top → q / 64 ≡ block → slot_at t.slots 1 top ≡ Child m →
      Says test (slot_at t.slots m (block % 64)) b → found_at test t q ≡ b
  middle_says q top block m b e d a h =
      let s : q / 64 % 64 ≡ block % 64 = ap (λ (x : ℕ). x % 64) d in
      ap (λ (x : Slot). test (state_of x))
      (middle_ends t.slots q m (ap (slot_at t.slots 1) e ∙ a) (λ k p. h.1 k (ap (slot_at t.slots m) (sym s) ∙ p)) ∙ ap (slot_at t.slots m) s)
      ∙ h.0

  pub leaf_says : (q top block m n : ℕ) → q / 4096 ≡ top → q / 64 ≡ block → slot_at t.slots 1 top ≡ Child m → slot_at t.slots m (block % 64) ≡ Child n →
      found_at test t q ≡ test (state_of (slot_at t.slots n (q % 64)))
  leaf_says q top block m n e d a b =
      let s : q / 64 % 64 ≡ block % 64 = ap (λ (x : ℕ). x % 64) d in
      ap (λ (x : Slot). test (state_of x)) (leaf_ends t.slots q m n (ap (slot_at t.slots 1) e ∙ a) (ap (slot_at t.slots m) s ∙ b))
