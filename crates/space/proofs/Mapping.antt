-- A fill of the tree is a map of the range on the flat page map.
use Rattle.std.proofs.Common.{Some, ◌≡◌, ℕ, ◌+◌, ◌<◌, ◌≤◌, ltb, leb, sym, ap, ◌∙◌, ⊎_elim, arith}
use Rattle.std.proofs.lemmas.Bool.{cases_lt, cond-true, cond-false, lt-ltb, le-ltb, le-leb, lt-leb, and_from, and_left, and_right}
use Rattle.model.specs.Pages.{fresh}
use Rattle.model.specs.Flat.{inside, map_range}
use Rattle.tree.specs.declared.table.Tree.{Tree}
use Rattle.tree.specs.Nodes.{shows, state_of}
use Rattle.tree.specs.Filled.{Filled}

pub filled_maps : (first count label : ℕ) (old new : Tree) → Filled first (first + count) (fresh label) old new →
    (q : ℕ) → q < 262144 → shows new q ≡ map_range first count label (shows old) q
filled_maps first count label old new f q h = ⊎_elim
    (λ (low : q < first).
    let out = and_left (leb first q) (ltb q (first + count)) (lt-leb first q low) in
    ap state_of (f.rest q h (λ a _. omega (arith, a, low))) ∙ sym (cond-false (inside first count q) (Some (fresh label)) (shows old q) out))
    (λ (lo : first ≤ q). ⊎_elim
    (λ (hi : q < first + count).
    let in_it = and_from (leb first q) (ltb q (first + count)) (le-leb first q lo) (lt-ltb q (first + count) hi) in
    ap state_of (f.here q lo hi h) ∙ sym (cond-true (inside first count q) (Some (fresh label)) (shows old q) in_it))
    (λ (high : first + count ≤ q).
    let out = and_right (leb first q) (ltb q (first + count)) (le-ltb q (first + count) high) in
    ap state_of (f.rest q h (λ _ a. omega (arith, a, high))) ∙ sym (cond-false (inside first count q) (Some (fresh label)) (shows old q) out))
    (cases_lt q (first + count)))
    (cases_lt q first)
