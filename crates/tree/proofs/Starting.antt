-- A new tree is sound.
use Rattle.std.proofs.Common.{◌≡◌, ℕ, zero, suc, ◌+◌, ◌*◌, ◌/◌, ◌%◌, ◌<◌, ◌≤◌, length, get_or, set, replicate, refl, ap, ◌∙◌, ⊎_elim, arith, length-set, get_or-set_other, get_or-set_same}
use lib.ListN.{length-replicate}
use Rattle.std.proofs.lemmas.Bool.{cases_eq}
use Rattle.tree.specs.declared.slot.Slot.{Slot}
use Rattle.tree.specs.declared.slot.Slot.TheVariants.{Vacant, Value}
use Rattle.tree.specs.declared.slot.Link.{Link}
use Rattle.tree.specs.Nodes.{slot_at, link_at, no_link, down, slot_of}
use Rattle.model.specs.declared.page.Mapping.{Mapping}
use Rattle.tree.specs.declared.pool.Pool.{Pool}
use Rattle.tree.specs.Pools.{full, next_object, drawn}
use Rattle.tree.specs.Soundness.{Linked, Pooled, Sound}
use Rattle.tree.specs.declared.table.Tree.{Tree}
use Rattle.tree.specs.Changes.{rooted, planted}
use Rattle.tree.specs.Holders.{holders}
use Rattle.tree.proofs.Holding.{held_none}
use Rattle.tree.proofs.Keeping.{vacant_child}

same_everywhere : {A : Type 0} (n i : ℕ) (x : A) → get_or (replicate n x) i x ≡ x
same_everywhere zero i x = refl
same_everywhere (suc n) zero x = refl
same_everywhere (suc n) (suc i) x = same_everywhere n i x

no_value : {x : Slot} (v : Mapping) → x ≡ Vacant → x ≡ Value v → ⊥
no_value v p q = let z : ◌≡◌ {A = ℕ} 0 1 = cc in omega arith

module _ (w n : ℕ) (r : Link) where
  one_root : (m : ℕ) → (m ≡ 1 → ⊥) → link_at (set (replicate n no_link) 1 r) m ≡ no_link
  one_root m ne = get_or-set_other (replicate n no_link) 1 m r no_link ne ∙ same_everywhere n m no_link

  vacant : (m t : ℕ) → slot_at (replicate w Vacant) m t ≡ Vacant
  vacant m t = same_everywhere w (m * 64 + t) Vacant

  pub new_linked : w ≡ 4160 → n ≡ 65 → r.level ≡ 1 → Linked (replicate w Vacant) (set (replicate n no_link) 1 r)
  new_linked ew en er =
      let one : link_at (set (replicate n no_link) 1 r) 1 ≡ r = get_or-set_same (replicate n no_link) 1 r no_link (omega (arith, length-replicate n no_link)) in
      let low : (m : ℕ) → (link_at (set (replicate n no_link) 1 r) m).level ≤ 1 = λ m. ⊎_elim
      (λ (e : m ≡ 1). omega (arith, ap (λ (i : ℕ). (link_at (set (replicate n no_link) 1 r) i).level) e, ap (λ (u : Link). u.level) one))
      (λ (e : m ≡ 1 → ⊥). omega (arith, ap (λ (u : Link). u.level) (one_root m e)))
      (cases_eq m 1) in
      record {
        wide = length-replicate w Vacant ∙ ew;
        tall = length-set (replicate n no_link) 1 r ∙ length-replicate n no_link ∙ en;
        none = ap (λ (u : Link). u.level) (one_root 0 (λ e. omega (arith, e)));
        root = ap (λ (u : Link). u.level) one ∙ er;
        level = λ m t k _ p. absurd (vacant_child k (vacant m t) p);
        deep = λ m. omega (arith, low m);
        parent = λ m t k _ p. absurd (vacant_child k (vacant m t) p);
        place = λ m t k _ p. absurd (vacant_child k (vacant m t) p);
        hung = λ k h. absurd (omega (arith, low k, h));
        free = λ m t _ _. vacant m t;
        values = λ m t v _ p. absurd (no_value v (vacant m t) p);
      }

  pub new_pooled : (p : Pool 64) → length p.returned ≡ 64 → p.count ≡ 0 → p.next ≡ 2 → 0 < p.size → p.size ≤ 64 → Pooled (set (replicate n no_link) 1 r) p
  new_pooled p long none two h1 h2 = record {
    long = long;
    few = h2;
    past = omega arith;
    second = omega arith;
    fit = omega arith;
    fresh = λ m h. ap (λ (u : Link). u.level) (one_root m (λ e. omega (arith, e, h, two)));
    idle = λ i h. absurd (omega (arith, h, none));
    known = λ i h. absurd (omega (arith, h, none));
    some = λ i h. absurd (omega (arith, h, none));
    apart = λ i j _ h. absurd (omega (arith, h, none));
  }

pub new_blank : (w q : ℕ) → slot_of (replicate w Vacant) q ≡ Vacant
new_blank w q = ap (λ (u : Slot). down (replicate w Vacant) (down (replicate w Vacant) u (q / 64 % 64)) (q % 64)) (same_everywhere w (1 * 64 + q / 4096) Vacant)

pub planted_sound : (nodes : ℕ) → 0 < nodes → nodes ≤ 64 → Sound (planted nodes)
planted_sound nodes h1 h2 = record {
  linked = new_linked 4160 65 (record { level = 1; parent = 0; place = 0 }) refl refl refl;
  pooled = new_pooled 4160 65 (record { level = 1; parent = 0; place = 0 }) (drawn (full 64 nodes)) refl refl refl h1 h2;
}

-- the links of free nodes are made as defaults
pub planted_is : (nodes k : ℕ) (p : Pool 64) (u : Link) → k ≡ next_object (full 64 nodes) → p ≡ drawn (full 64 nodes) → (u.level ≡ 0) × ((u.parent ≡ 0) × (u.place ≡ 0)) →
    ◌≡◌ {A = Tree} (record { slots = replicate 4160 Vacant; links = set (replicate 65 u) k (record { level = 1; parent = 0; place = 0 }); pool = p }) (planted nodes)
planted_is nodes k p u a b e =
    let none : u ≡ no_link = λ i. record { level = e.0 i; parent = e.1.0 i; place = e.1.1 i } in
    ap (λ (v : Link). record { slots = replicate 4160 Vacant; links = set (replicate 65 v) k (record { level = 1; parent = 0; place = 0 }); pool = p }) none
    ∙ ap (λ (x : ℕ). rooted x p) a ∙ ap (λ (x : Pool 64). rooted (next_object (full 64 nodes)) x) b

-- a new tree has one node, the root, which nobody but the tree holds
pub planted_level : (nodes n : ℕ) → (n ≡ 1 → ⊥) → (link_at (planted nodes).links n).level ≡ 0
planted_level nodes n ne = ap (λ (u : Link). u.level) (one_root 4160 65 (record { level = 1; parent = 0; place = 0 }) n ne)

pub planted_holders : (nodes : ℕ) → holders (planted nodes).slots 1 ≡ 1
planted_holders nodes =
    let none = held_none (replicate 4160 Vacant) 1 64 (λ t _. vacant 4160 65 (record { level = 1; parent = 0; place = 0 }) 1 t) in
    omega (arith, none)

pub planted_slot : (nodes q : ℕ) → slot_of (planted nodes).slots q ≡ Vacant
planted_slot nodes q = new_blank 4160 q

-- every slot of a new tree's root is vacant
pub planted_root : (nodes s : ℕ) → slot_at (planted nodes).slots 1 s ≡ Vacant
planted_root nodes s = vacant 4160 65 (record { level = 1; parent = 0; place = 0 }) 1 s
