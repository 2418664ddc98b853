-- A write to one slot of a reached node changes what its block slot_of, and no other page.
use Rattle.std.proofs.Common.{◌≡◌, ℕ, ◌/◌, ◌%◌, ◌<◌, ◌⊎◌, List, sym, refl, ap, ◌∙◌, inl, inr, ⊎_elim, arith}
use Rattle.std.proofs.lemmas.Bool.{cases_eq}
use Rattle.model.specs.declared.page.Mapping.{Mapping}
use Rattle.tree.specs.declared.slot.Slot.{Slot}
use Rattle.tree.specs.declared.slot.Slot.TheVariants.{Vacant, Child, Value}
use Rattle.tree.specs.declared.slot.Link.{Link}
use Rattle.tree.specs.Nodes.{slot_at, link_at, down, slot_of}
use Rattle.tree.specs.Soundness.{Linked}

both_eq : (a b s t : ℕ) → ((a ≡ b) × (s ≡ t)) ⊎ (a ≡ b → s ≡ t → ⊥)
both_eq a b s t = ⊎_elim
    (λ (e : a ≡ b). ⊎_elim (λ (f : s ≡ t). inl (e, f)) (λ (f : s ≡ t → ⊥). inr (λ _ g. f g)) (cases_eq s t))
    (λ (e : a ≡ b → ⊥). inr (λ g _. e g))
    (cases_eq a b)

-- a page of which no slot on the way is written slot_of what it showed
module _ (xs ys : List Slot) (q : ℕ) (small : q < 262144)
    (top : slot_at ys 1 (q / 4096) ≡ slot_at xs 1 (q / 4096))
    (mid : (a : ℕ) → slot_at xs 1 (q / 4096) ≡ Child a → slot_at ys a (q / 64 % 64) ≡ slot_at xs a (q / 64 % 64))
    (low : (a b : ℕ) → slot_at xs 1 (q / 4096) ≡ Child a → slot_at xs a (q / 64 % 64) ≡ Child b → slot_at ys b (q % 64) ≡ slot_at xs b (q % 64)) where
  third : (a : ℕ) → slot_at xs 1 (q / 4096) ≡ Child a → (v : Slot) → slot_at xs a (q / 64 % 64) ≡ v → down ys v (q % 64) ≡ down xs v (q % 64)
  third a p Vacant r = refl
  third a p (Value e) r = refl
  third a p (Child b) r = low a b p r

  second : (u : Slot) → slot_at xs 1 (q / 4096) ≡ u → down ys (down ys u (q / 64 % 64)) (q % 64) ≡ down xs (down xs u (q / 64 % 64)) (q % 64)
  second Vacant p = refl
  second (Value e) p = refl
  second (Child a) p = ap (λ (v : Slot). down ys v (q % 64)) (mid a p) ∙ third a p (slot_at xs a (q / 64 % 64)) refl

  pub walk_kept : slot_of ys q ≡ slot_of xs q
  walk_kept = ap (λ (u : Slot). down ys (down ys u (q / 64 % 64)) (q % 64)) top ∙ second (slot_at xs 1 (q / 4096)) refl

module _ (xs ys : List Slot) (links : List Link) (ok : Linked xs links) where
  pub level_2 : (q a : ℕ) → q < 262144 → slot_at xs 1 (q / 4096) ≡ Child a → (link_at links a).level ≡ 2
  level_2 q a h p = omega (arith, ok.level 1 (q / 4096) a (omega arith) p, ok.root)

  pub level_3 : (q a b : ℕ) → q < 262144 → slot_at xs 1 (q / 4096) ≡ Child a → slot_at xs a (q / 64 % 64) ≡ Child b → (link_at links b).level ≡ 3
  level_3 q a b h p r = omega (arith, ok.level a (q / 64 % 64) b (omega arith) r, level_2 q a h p)

  -- a leaf
  module _ (p m l : ℕ) (e : Slot) (small : p < 262144)
      (at_m : slot_at xs 1 (p / 4096) ≡ Child m)
      (at_l : slot_at xs m (p / 64 % 64) ≡ Child l)
      (here : slot_at ys l (p % 64) ≡ e)
      (rest : (a t : ℕ) → t < 64 → (a ≡ l → t ≡ p % 64 → ⊥) → slot_at ys a t ≡ slot_at xs a t) where
    pub leaf_top : (i : ℕ) → i < 64 → slot_at ys 1 i ≡ slot_at xs 1 i
    leaf_top i h = rest 1 i h (λ same _. omega (arith, ap (λ (k : ℕ). (link_at links k).level) same, ok.root, level_3 p m l small at_m at_l))

    leaf_mid : (q a : ℕ) → q < 262144 → slot_at xs 1 (q / 4096) ≡ Child a → (j : ℕ) → j < 64 → slot_at ys a j ≡ slot_at xs a j
    leaf_mid q a h r j hj = rest a j hj (λ same _. omega (arith, ap (λ (k : ℕ). (link_at links k).level) same, level_2 q a h r, level_3 p m l small at_m at_l))

    pub leaf_here : slot_of ys p ≡ e
    leaf_here =
        ap (λ (u : Slot). down ys (down ys u (p / 64 % 64)) (p % 64)) (leaf_top (p / 4096) (omega arith) ∙ at_m)
        ∙ ap (λ (v : Slot). down ys v (p % 64)) (leaf_mid p m small at_m (p / 64 % 64) (omega arith) ∙ at_l)
        ∙ here

    pub leaf_rest : (q : ℕ) → q < 262144 → (q ≡ p → ⊥) → slot_of ys q ≡ slot_of xs q
    leaf_rest q h ne = walk_kept xs ys q h (leaf_top (q / 4096) (omega arith))
        (λ a r. leaf_mid q a h r (q / 64 % 64) (omega arith))
        (λ a b r t. rest b (q % 64) (omega arith) (λ same last. ne
        (let pb = ap (λ (k : ℕ). (link_at links k).parent) same in
        let lb = ap (λ (k : ℕ). (link_at links k).place) same in
        let pq = ok.parent a (q / 64 % 64) b (omega arith) t in
        let lq = ok.place a (q / 64 % 64) b (omega arith) t in
        let pp = ok.parent m (p / 64 % 64) l (omega arith) at_l in
        let lp = ok.place m (p / 64 % 64) l (omega arith) at_l in
        let am : a ≡ m = sym pq ∙ pb ∙ pp in
        let la = ap (λ (k : ℕ). (link_at links k).place) am in
        let ra = ok.place 1 (q / 4096) a (omega arith) r in
        let rm = ok.place 1 (p / 4096) m (omega arith) at_m in
        let x : q / 4096 ≡ p / 4096 = sym ra ∙ la ∙ rm in
        let y : q / 64 % 64 ≡ p / 64 % 64 = sym lq ∙ lb ∙ lp in
        omega (arith, x, y, last))))

  -- a slot of a middle node: the pages of its block have the same p / 64
  module _ (p m : ℕ) (e : Mapping) (small : p < 262144)
      (at_m : slot_at xs 1 (p / 4096) ≡ Child m)
      (here : slot_at ys m (p / 64 % 64) ≡ Value e)
      (rest : (a t : ℕ) → t < 64 → (a ≡ m → t ≡ p / 64 % 64 → ⊥) → slot_at ys a t ≡ slot_at xs a t) where
    mid_top : (i : ℕ) → i < 64 → slot_at ys 1 i ≡ slot_at xs 1 i
    mid_top i h = rest 1 i h (λ same _. omega (arith, ap (λ (k : ℕ). (link_at links k).level) same, ok.root, level_2 p m small at_m))

    pub mid_here : (q : ℕ) → q < 262144 → q / 64 ≡ p / 64 → slot_of ys q ≡ Value e
    mid_here q h same =
        let x : q / 4096 ≡ p / 4096 = omega arith in
        let y : q / 64 % 64 ≡ p / 64 % 64 = omega arith in
        ap (λ (i : ℕ). down ys (down ys (slot_at ys 1 i) (q / 64 % 64)) (q % 64)) x
        ∙ ap (λ (u : Slot). down ys (down ys u (q / 64 % 64)) (q % 64)) (mid_top (p / 4096) (omega arith) ∙ at_m)
        ∙ ap (λ (j : ℕ). down ys (slot_at ys m j) (q % 64)) y
        ∙ ap (λ (v : Slot). down ys v (q % 64)) here

    pub mid_rest : (q : ℕ) → q < 262144 → (q / 64 ≡ p / 64 → ⊥) → slot_of ys q ≡ slot_of xs q
    mid_rest q h ne = walk_kept xs ys q h (mid_top (q / 4096) (omega arith))
        (λ a r. rest a (q / 64 % 64) (omega arith) (λ same last. ne
        (let la = ap (λ (k : ℕ). (link_at links k).place) same in
        let ra = ok.place 1 (q / 4096) a (omega arith) r in
        let rm = ok.place 1 (p / 4096) m (omega arith) at_m in
        let x : q / 4096 ≡ p / 4096 = sym ra ∙ la ∙ rm in
        omega (arith, x, last))))
        (λ a b r t. rest b (q % 64) (omega arith) (λ same _. omega (arith, ap (λ (k : ℕ). (link_at links k).level) same, level_2 p m small at_m, level_3 q a b h r t)))

  -- a slot of the root
  module _ (p : ℕ) (e : Mapping) (small : p < 262144)
      (here : slot_at ys 1 (p / 4096) ≡ Value e)
      (rest : (a t : ℕ) → t < 64 → (a ≡ 1 → t ≡ p / 4096 → ⊥) → slot_at ys a t ≡ slot_at xs a t) where
    pub root_here : (q : ℕ) → q < 262144 → q / 4096 ≡ p / 4096 → slot_of ys q ≡ Value e
    root_here q h same =
        ap (λ (i : ℕ). down ys (down ys (slot_at ys 1 i) (q / 64 % 64)) (q % 64)) same
        ∙ ap (λ (u : Slot). down ys (down ys u (q / 64 % 64)) (q % 64)) here

    pub root_rest : (q : ℕ) → q < 262144 → (q / 4096 ≡ p / 4096 → ⊥) → slot_of ys q ≡ slot_of xs q
    root_rest q h ne = walk_kept xs ys q h (rest 1 (q / 4096) (omega arith) (λ _ last. ne last))
        (λ a r. rest a (q / 64 % 64) (omega arith) (λ same _. omega (arith, ap (λ (k : ℕ). (link_at links k).level) same, ok.root, level_2 q a h r)))
        (λ a b r t. rest b (q % 64) (omega arith) (λ same _. omega (arith, ap (λ (k : ℕ). (link_at links k).level) same, ok.root, level_3 q a b h r t)))

  -- a vacant slot above the leaves comes to hold a child with vacant slots: every page slot_of what it showed
  module _ (n s k : ℕ) (above : (link_at links n).level < 3) (was : slot_at xs n s ≡ Vacant)
      (apart : k ≡ n → ⊥) (empty : (t : ℕ) → t < 64 → slot_at xs k t ≡ Vacant)
      (here : slot_at ys n s ≡ Child k)
      (rest : (a t : ℕ) → t < 64 → (a ≡ n → t ≡ s → ⊥) → slot_at ys a t ≡ slot_at xs a t) where
    still : (t : ℕ) → t < 64 → slot_at ys k t ≡ Vacant
    still t h = rest k t h (λ same _. apart same) ∙ empty t h

    low_same : (q a b : ℕ) → q < 262144 → slot_at xs 1 (q / 4096) ≡ Child a → slot_at xs a (q / 64 % 64) ≡ Child b → slot_at ys b (q % 64) ≡ slot_at xs b (q % 64)
    low_same q a b h r t = rest b (q % 64) (omega arith) (λ same _. omega (arith, ap (λ (k : ℕ). (link_at links k).level) same, level_3 q a b h r t))

    third_of : (q a : ℕ) → q < 262144 → slot_at xs 1 (q / 4096) ≡ Child a → (v : Slot) → slot_at xs a (q / 64 % 64) ≡ v → down ys v (q % 64) ≡ down xs v (q % 64)
    third_of q a h r Vacant t = refl
    third_of q a h r (Value e) t = refl
    third_of q a h r (Child b) t = low_same q a b h r t

    mid_same : (q a : ℕ) → q < 262144 → slot_at xs 1 (q / 4096) ≡ Child a → down ys (slot_at ys a (q / 64 % 64)) (q % 64) ≡ down xs (slot_at xs a (q / 64 % 64)) (q % 64)
    mid_same q a h r = ⊎_elim
        (λ (e : (a ≡ n) × (q / 64 % 64 ≡ s)).
        let new : slot_at ys a (q / 64 % 64) ≡ Child k = ap (λ (i : ℕ). slot_at ys i (q / 64 % 64)) e.0 ∙ ap (slot_at ys n) e.1 ∙ here in
        let old : slot_at xs a (q / 64 % 64) ≡ Vacant = ap (λ (i : ℕ). slot_at xs i (q / 64 % 64)) e.0 ∙ ap (slot_at xs n) e.1 ∙ was in
        ap (λ (v : Slot). down ys v (q % 64)) new ∙ still (q % 64) (omega arith) ∙ sym (ap (λ (v : Slot). down xs v (q % 64)) old))
        (λ (ne : a ≡ n → q / 64 % 64 ≡ s → ⊥).
        ap (λ (v : Slot). down ys v (q % 64)) (rest a (q / 64 % 64) (omega arith) ne)
        ∙ third_of q a h r (slot_at xs a (q / 64 % 64)) refl)
        (both_eq a n (q / 64 % 64) s)

    second_of : (q : ℕ) → q < 262144 → (u : Slot) → slot_at xs 1 (q / 4096) ≡ u → down ys (down ys u (q / 64 % 64)) (q % 64) ≡ down xs (down xs u (q / 64 % 64)) (q % 64)
    second_of q h Vacant r = refl
    second_of q h (Value e) r = refl
    second_of q h (Child a) r = mid_same q a h r

    pub grow_shows : (q : ℕ) → q < 262144 → slot_of ys q ≡ slot_of xs q
    grow_shows q h = ⊎_elim
        (λ (e : (1 ≡ n) × (q / 4096 ≡ s)).
        let new : slot_at ys 1 (q / 4096) ≡ Child k = ap (λ (i : ℕ). slot_at ys i (q / 4096)) e.0 ∙ ap (slot_at ys n) e.1 ∙ here in
        let old : slot_at xs 1 (q / 4096) ≡ Vacant = ap (λ (i : ℕ). slot_at xs i (q / 4096)) e.0 ∙ ap (slot_at xs n) e.1 ∙ was in
        ap (λ (u : Slot). down ys (down ys u (q / 64 % 64)) (q % 64)) new
        ∙ ap (λ (v : Slot). down ys v (q % 64)) (still (q / 64 % 64) (omega arith))
        ∙ sym (ap (λ (u : Slot). down xs (down xs u (q / 64 % 64)) (q % 64)) old))
        (λ (ne : 1 ≡ n → q / 4096 ≡ s → ⊥).
        ap (λ (u : Slot). down ys (down ys u (q / 64 % 64)) (q % 64)) (rest 1 (q / 4096) (omega arith) ne)
        ∙ second_of q h (slot_at xs 1 (q / 4096)) refl)
        (both_eq 1 n (q / 4096) s)
