-- A tree stays sound.
use Rattle.std.proofs.Common.{◌≡◌, ℕ, ◌+◌, ◌-◌, ◌*◌, ◌<◌, ◌≤◌, true, false, ltb, ◌⊎◌, List, get_or, set, sym, ap, ◌∙◌, subst, inl, inr, ⊎_elim, arith, length-set, get_or-set_other, get_or-set_same}
use Rattle.std.proofs.lemmas.Bool.{cases_eq, cases_lt, lt-ltb, le-ltb, cond-true, cond-false}
use Rattle.model.specs.declared.page.Mapping.{Mapping}
use Rattle.tree.specs.declared.slot.Slot.{Slot}
use Rattle.tree.specs.declared.slot.Slot.TheVariants.{Vacant, Child, Value}
use Rattle.tree.specs.declared.slot.Link.{Link}
use Rattle.tree.specs.Nodes.{slot_at, link_at, no_link}
use Rattle.model.specs.Pages.{Within}
use Rattle.tree.specs.declared.pool.Pool.{Pool}
use Rattle.tree.specs.Pools.{next_object, drawn, unused}
use Rattle.tree.specs.Soundness.{Linked, Pooled}
use Rattle.tree.specs.Walks.{Gives}
use Rattle.tree.proofs.Places.{put_same, put_other, put_cases}

value_child : {x : Slot} (e : Mapping) (k : ℕ) → x ≡ Value e → x ≡ Child k → ⊥
value_child e k p q = let z : ◌≡◌ {A = ℕ} 0 1 = cc in omega arith

pub vacant_child : {x : Slot} (k : ℕ) → x ≡ Vacant → x ≡ Child k → ⊥
vacant_child k p q = let z : ◌≡◌ {A = ℕ} 0 1 = cc in omega arith

-- a vacant slot of a node that is not free comes to hold a value
module _ (xs : List Slot) (links : List Link) (ok : Linked xs links) (n s : ℕ) (e : Mapping)
    (hn : n < 65) (hs : s < 64) (live : 0 < (link_at links n).level) (was : slot_at xs n s ≡ Vacant) where
  child_was : (m t k : ℕ) → t < 64 → slot_at (set xs (n * 64 + s) (Value e)) m t ≡ Child k → slot_at xs m t ≡ Child k
  child_was m t k ht p = ⊎_elim
      (λ (h : (m ≡ n) × (t ≡ s) × (slot_at (set xs (n * 64 + s) (Value e)) m t ≡ Value e)). absurd (value_child e k h.2 p))
      (λ (h : (m ≡ n → t ≡ s → ⊥) × (slot_at (set xs (n * 64 + s) (Value e)) m t ≡ slot_at xs m t)). sym h.1 ∙ p)
      (put_cases xs n s (Value e) ok.wide hn hs m t ht)

  pub child_stays : (m t k : ℕ) → t < 64 → slot_at xs m t ≡ Child k → slot_at (set xs (n * 64 + s) (Value e)) m t ≡ Child k
  child_stays m t k ht p = put_other xs n s (Value e) hs m t ht
      (λ a b. vacant_child k was (sym (ap (λ (i : ℕ). slot_at xs i t) a ∙ ap (slot_at xs n) b) ∙ p)) ∙ p

  pub put_linked : Within e → Linked (set xs (n * 64 + s) (Value e)) links
  put_linked fits = record {
    wide = length-set xs (n * 64 + s) (Value e) ∙ ok.wide;
    tall = ok.tall;
    none = ok.none;
    root = ok.root;
    level = λ m t k ht p. ok.level m t k ht (child_was m t k ht p);
    deep = ok.deep;
    parent = λ m t k ht p. ok.parent m t k ht (child_was m t k ht p);
    place = λ m t k ht p. ok.place m t k ht (child_was m t k ht p);
    hung = λ k h. let u = ok.hung k h in (u.0, child_stays _ _ k u.0 u.1);
    free = λ m t ht h. put_other xs n s (Value e) hs m t ht (λ a _. omega (arith, ap (λ (i : ℕ). (link_at links i).level) a, h)) ∙ ok.free m t ht h;
    values = λ m t v ht p. ⊎_elim
        (λ (h : (m ≡ n) × (t ≡ s) × (slot_at (set xs (n * 64 + s) (Value e)) m t ≡ Value e)). let q = h.2 in let same : e ≡ v = cc (p, q) in subst Within same fits)
        (λ (h : (m ≡ n → t ≡ s → ⊥) × (slot_at (set xs (n * 64 + s) (Value e)) m t ≡ slot_at xs m t)). ok.values m t v ht (sym h.1 ∙ p))
        (put_cases xs n s (Value e) ok.wide hn hs m t ht);
  }

-- a free node is hung into a vacant slot
module _ (xs : List Slot) (links : List Link) (ok : Linked xs links) (n s k : ℕ) (w : Link)
    (hn : n < 65) (hs : s < 64) (hk : k < 65) (live : 0 < (link_at links n).level) (above : (link_at links n).level < 3)
    (was : slot_at xs n s ≡ Vacant) (idle : (link_at links k).level ≡ 0) (some : 0 < k)
    (wl : w.level ≡ (link_at links n).level + 1) (wp : w.parent ≡ n) (ws : w.place ≡ s) where
  up_same : link_at (set links k w) k ≡ w
  up_same = get_or-set_same links k w no_link (omega (arith, ok.tall))

  pub up_other : (m : ℕ) → (m ≡ k → ⊥) → link_at (set links k w) m ≡ link_at links m
  up_other m ne = get_or-set_other links k m w no_link ne

  not_k : (m : ℕ) → 0 < (link_at links m).level → m ≡ k → ⊥
  not_k m h e = omega (arith, ap (λ (i : ℕ). (link_at links i).level) e, h, idle)

  -- a child of the new arena: the new one, or an older one that is not k and does not hang from k
  child_of : (m t j : ℕ) → t < 64 → slot_at (set xs (n * 64 + s) (Child k)) m t ≡ Child j →
      ((m ≡ n) × (t ≡ s) × (j ≡ k)) ⊎ ((slot_at xs m t ≡ Child j) × (j ≡ k → ⊥) × (m ≡ k → ⊥))
  child_of m t j ht p = ⊎_elim
      (λ (h : (m ≡ n) × (t ≡ s) × (slot_at (set xs (n * 64 + s) (Child k)) m t ≡ Child k)).
      let q = h.2 in let e : j ≡ k = cc (p, q) in inl (h.0, h.1, e))
      (λ (h : (m ≡ n → t ≡ s → ⊥) × (slot_at (set xs (n * 64 + s) (Child k)) m t ≡ slot_at xs m t)).
      let old : slot_at xs m t ≡ Child j = sym h.1 ∙ p in
      inr (
        old,
        not_k j (omega (arith, ok.level m t j ht old)),
        λ e. vacant_child j (ok.free m t ht (ap (λ (i : ℕ). (link_at links i).level) e ∙ idle)) old,
      ))
      (put_cases xs n s (Child k) ok.wide hn hs m t ht)

  pub child_kept : (m t j : ℕ) → t < 64 → slot_at xs m t ≡ Child j → slot_at (set xs (n * 64 + s) (Child k)) m t ≡ Child j
  child_kept m t j ht p = put_other xs n s (Child k) hs m t ht
      (λ a b. vacant_child j was (sym (ap (λ (i : ℕ). slot_at xs i t) a ∙ ap (slot_at xs n) b) ∙ p)) ∙ p

  n_same : link_at (set links k w) n ≡ link_at links n
  n_same = up_other n (not_k n live)

  pub grow_linked : Linked (set xs (n * 64 + s) (Child k)) (set links k w)
  grow_linked = record {
    wide = length-set xs (n * 64 + s) (Child k) ∙ ok.wide;
    tall = length-set links k w ∙ ok.tall;
    none = ap (λ (u : Link). u.level) (up_other 0 (λ e. omega (arith, e))) ∙ ok.none;
    root = ap (λ (u : Link). u.level) (up_other 1 (not_k 1 (omega (arith, ok.root)))) ∙ ok.root;
    level = λ m t j ht p. ⊎_elim
        (λ (h : (m ≡ n) × (t ≡ s) × (j ≡ k)).
        ap (λ (i : ℕ). (link_at (set links k w) i).level) h.2 ∙ ap (λ (u : Link). u.level) up_same ∙ wl
        ∙ sym (ap (λ (i : ℕ). (link_at (set links k w) i).level + 1) h.0 ∙ ap (λ (u : Link). u.level + 1) n_same))
        (λ (h : (slot_at xs m t ≡ Child j) × (j ≡ k → ⊥) × (m ≡ k → ⊥)).
        ap (λ (u : Link). u.level) (up_other j h.1) ∙ ok.level m t j ht h.0 ∙ sym (ap (λ (u : Link). u.level + 1) (up_other m h.2)))
        (child_of m t j ht p);
    deep = λ m. ⊎_elim
        (λ (e : m ≡ k). omega (arith, ap (λ (i : ℕ). (link_at (set links k w) i).level) e, ap (λ (u : Link). u.level) up_same, wl, above))
        (λ (e : m ≡ k → ⊥). omega (arith, ap (λ (u : Link). u.level) (up_other m e), ok.deep m))
        (cases_eq m k);
    parent = λ m t j ht p. ⊎_elim
        (λ (h : (m ≡ n) × (t ≡ s) × (j ≡ k)).
        ap (λ (i : ℕ). (link_at (set links k w) i).parent) h.2 ∙ ap (λ (u : Link). u.parent) up_same ∙ wp ∙ sym h.0)
        (λ (h : (slot_at xs m t ≡ Child j) × (j ≡ k → ⊥) × (m ≡ k → ⊥)).
        ap (λ (u : Link). u.parent) (up_other j h.1) ∙ ok.parent m t j ht h.0)
        (child_of m t j ht p);
    place = λ m t j ht p. ⊎_elim
        (λ (h : (m ≡ n) × (t ≡ s) × (j ≡ k)).
        ap (λ (i : ℕ). (link_at (set links k w) i).place) h.2 ∙ ap (λ (u : Link). u.place) up_same ∙ ws ∙ sym h.1)
        (λ (h : (slot_at xs m t ≡ Child j) × (j ≡ k → ⊥) × (m ≡ k → ⊥)).
        ap (λ (u : Link). u.place) (up_other j h.1) ∙ ok.place m t j ht h.0)
        (child_of m t j ht p);
    hung = λ j h. ⊎_elim
        (λ (e : j ≡ k).
        let u : link_at (set links k w) j ≡ w = ap (link_at (set links k w)) e ∙ up_same in
        let pl : (link_at (set links k w) j).place ≡ s = ap (λ (u : Link). u.place) u ∙ ws in
        let pa : (link_at (set links k w) j).parent ≡ n = ap (λ (u : Link). u.parent) u ∙ wp in (
          omega (arith, pl, hs),
          ap (λ (i : ℕ). slot_at (set xs (n * 64 + s) (Child k)) i (link_at (set links k w) j).place) pa
              ∙ ap (slot_at (set xs (n * 64 + s) (Child k)) n) pl ∙ put_same xs n s (Child k) ok.wide hn hs ∙ ap Child (sym e),
        ))
        (λ (e : j ≡ k → ⊥).
        let u = up_other j e in
        let lo : 1 < (link_at links j).level = omega (arith, ap (λ (u : Link). u.level) u, h) in
        let x = ok.hung j lo in
        let pl : (link_at (set links k w) j).place ≡ (link_at links j).place = ap (λ (u : Link). u.place) u in
        let pa : (link_at (set links k w) j).parent ≡ (link_at links j).parent = ap (λ (u : Link). u.parent) u in (
          omega (arith, pl, x.0),
          ap (λ (i : ℕ). slot_at (set xs (n * 64 + s) (Child k)) i (link_at (set links k w) j).place) pa
              ∙ ap (slot_at (set xs (n * 64 + s) (Child k)) (link_at links j).parent) pl
              ∙ child_kept (link_at links j).parent (link_at links j).place j x.0 x.1,
        ))
        (cases_eq j k);
    free = λ m t ht h. ⊎_elim
        (λ (e : m ≡ k). absurd (omega (arith, ap (λ (i : ℕ). (link_at (set links k w) i).level) e, ap (λ (u : Link). u.level) up_same, wl, h)))
        (λ (e : m ≡ k → ⊥).
        let z : (link_at links m).level ≡ 0 = sym (ap (λ (u : Link). u.level) (up_other m e)) ∙ h in
        put_other xs n s (Child k) hs m t ht (λ a _. omega (arith, ap (λ (i : ℕ). (link_at links i).level) a, z, live)) ∙ ok.free m t ht z)
        (cases_eq m k);
    values = λ m t v ht p. ⊎_elim
        (λ (h : (m ≡ n) × (t ≡ s) × (slot_at (set xs (n * 64 + s) (Child k)) m t ≡ Child k)). absurd (value_child v k p h.2))
        (λ (h : (m ≡ n → t ≡ s → ⊥) × (slot_at (set xs (n * 64 + s) (Child k)) m t ≡ slot_at xs m t)). ok.values m t v ht (sym h.1 ∙ p))
        (put_cases xs n s (Child k) ok.wide hn hs m t ht);
  }

-- a node out of the pool may get a level
pub pool_kept : (links : List Link) (p : Pool 64) (k : ℕ) (w : Link) → Pooled links p →
    k < p.next → ((i : ℕ) → i < p.count → get_or p.returned i 0 ≡ k → ⊥) → Pooled (set links k w) p
pool_kept links p k w ok under out = record {
  long = ok.long;
  few = ok.few;
  past = ok.past;
  second = ok.second;
  fit = ok.fit;
  fresh = λ n h. ap (λ (u : Link). u.level) (get_or-set_other links k n w no_link (λ e. omega (arith, e))) ∙ ok.fresh n h;
  idle = λ i h. ap (λ (u : Link). u.level) (get_or-set_other links k (get_or p.returned i 0) w no_link (out i h)) ∙ ok.idle i h;
  known = ok.known;
  some = ok.some;
  apart = ok.apart;
}

-- a pool gives a free node
pub pool_gives : (links : List Link) (p : Pool 64) → Pooled links p → 0 < unused p → Gives links p
pool_gives links p ok some = ⊎_elim
    (λ (h : 0 < p.count).
    let b : ltb 0 p.count ≡ true = lt-ltb 0 p.count h in
    let is : next_object p ≡ get_or p.returned (p.count - 1) 0 = cond-true (ltb 0 p.count) _ _ b in
    let next : (drawn p).next ≡ p.next = cond-true (ltb 0 p.count) p.next (p.next + 1) b in
    let in_it : p.count - 1 < p.count = omega arith in
    record {
      some = omega (arith, is, ok.some (p.count - 1) in_it);
      small = omega (arith, is, ok.known (p.count - 1) in_it, ok.past, ok.few);
      idle = ap (λ (i : ℕ). (link_at links i).level) is ∙ ok.idle (p.count - 1) in_it;
      left = omega (arith, next, h);
      pooled = record {
        long = ok.long;
        few = ok.few;
        past = omega (arith, next, ok.past);
        second = omega (arith, next, ok.second);
        fit = omega (arith, next, ok.fit, h);
        fresh = λ n hn. ok.fresh n (omega (arith, next, hn));
        idle = λ i hi. ok.idle i (omega arith);
        known = λ i hi. omega (arith, next, ok.known i (omega arith));
        some = λ i hi. ok.some i (omega arith);
        apart = λ i j hi hj. ok.apart i j hi (omega arith);
      };
      under = omega (arith, is, next, ok.known (p.count - 1) in_it);
      out = λ i hi e. ok.apart i (p.count - 1) hi in_it (e ∙ is);
    })
    (λ (h : p.count ≤ 0).
    let b : ltb 0 p.count ≡ false = le-ltb 0 p.count h in
    let is : next_object p ≡ p.next = cond-false (ltb 0 p.count) (get_or p.returned (p.count - 1) 0) p.next b in
    let next : (drawn p).next ≡ p.next + 1 = cond-false (ltb 0 p.count) p.next (p.next + 1) b in
    record {
      some = omega (arith, is, ok.second);
      small = omega (arith, is, ok.few, some, h);
      idle = ap (λ (i : ℕ). (link_at links i).level) is ∙ ok.fresh p.next (omega arith);
      left = omega (arith, next, some, h);
      pooled = record {
        long = ok.long;
        few = ok.few;
        past = omega (arith, next, some, h);
        second = omega (arith, next, ok.second);
        fit = omega (arith, next, ok.fit);
        fresh = λ n hn. ok.fresh n (omega (arith, next, hn));
        idle = λ i hi. absurd (omega (arith, hi, h));
        known = λ i hi. absurd (omega (arith, hi, h));
        some = λ i hi. absurd (omega (arith, hi, h));
        apart = λ i j hi hj. absurd (omega (arith, hj, h));
      };
      under = omega (arith, is, next);
      out = λ i hi e. absurd (omega (arith, hi, h));
    })
    (cases_lt 0 p.count)
