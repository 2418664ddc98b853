-- The turns of a fill under the root.
use Rattle.std.proofs.Common.{◌≡◌, ℕ, ◌+◌, ◌-◌, ◌*◌, ◌/◌, ◌%◌, ◌<◌, ◌≤◌, max, min, true, false, eqb, List, sym, refl, ap, ◌∙◌, subst, arith}
use Rattle.std.proofs.lemmas.Bool.{cond-true, cond-false}
use Rattle.model.specs.declared.page.Mapping.{Mapping}
use Rattle.tree.specs.declared.slot.Slot.{Slot}
use Rattle.tree.specs.declared.slot.Slot.TheVariants.{Vacant, Child, Value}
use Rattle.tree.specs.declared.slot.Link.{Link}
use Rattle.tree.specs.declared.table.Tree.{Tree}
use Rattle.tree.specs.Nodes.{slot_at, link_at}
use Rattle.tree.specs.Soundness.{Sound, left}
use Rattle.model.specs.Pages.{Within}
use Rattle.tree.specs.Walks.{Put}
use Rattle.tree.specs.Need.{covers, vacancy, need_by, need_mid, root_part, need}
use Rattle.tree.specs.Filled.{Filled, Free}
use Rattle.tree.specs.Walks.{Others, Entered, Beside}
use Rattle.tree.proofs.Exact.{reached}
use Rattle.tree.proofs.Filling.{filled_none, filled_then, root_filled, put_left, put_rest}
use Rattle.tree.proofs.Leaves.{covers_true}
use Rattle.tree.proofs.Needing.{ends_none, need_same, root_split, root_same}
use Rattle.tree.proofs.Blocks.{level_2}

part_all : (xs : List Slot) (x : Slot) (first last : ℕ) → true ≡ covers x (last - first) 4096 → root_part xs x first last ≡ 0
part_all xs Vacant first last h = cond-true (eqb (last - first) 4096) _ _ (sym h)
part_all xs (Child k) first last h = absurd (let z : ◌≡◌ {A = ℕ} 0 1 = cc in omega arith)
part_all xs (Value e) first last h = refl

module _ (old : Tree) (first last : ℕ) (e : Mapping) (ok : Sound old) (some : first < last) (small : last ≤ 262144)
    (block : (last - 1) / 4096 ≡ first / 4096) where
  module _ (new : Tree) (c : true ≡ covers (slot_at old.slots 1 (first / 4096)) (last - first) 4096) (w : Put 1 (first / 4096) e old new) where
    parts : (slot_at old.slots 1 (first / 4096) ≡ Vacant) × (last - first ≡ 4096)
    parts = covers_true _ (last - first) 4096 c

    live_1 : 0 < (link_at old.links 1).level
    live_1 = omega (arith, ok.linked.root)

    pub top_filled : Within e → Filled first last e old new
    top_filled fits =
        let len = parts.1 in
        let to : first + 4096 ≡ last = omega arith in
        subst (λ (x : ℕ). Filled first x e old new) to (root_filled old new ok e fits first (omega arith) (omega arith) parts.0 w)

    pub top_left : left new + root_part old.slots (slot_at old.slots 1 (first / 4096)) first last ≡ left old
    top_left = omega (arith, part_all old.slots _ first last c, put_left old new ok 1 (first / 4096) e w (omega arith) live_1 parts.0)

    pub top_others : Others (Beside old (first / 4096)) old new
    top_others a t ht h p = put_rest old new ok 1 (first / 4096) e w (omega arith) live_1 parts.0 a t ht
        (λ same. p.1 (ap (λ (k : ℕ). (link_at old.links k).level) same ∙ ok.linked.root))

  -- what a child that was entered needs
  module _ (mid : Tree) (m : ℕ) (i : Entered 1 (first / 4096) m old mid) where
    m_level : (link_at mid.links m).level ≡ 2
    m_level = level_2 mid.slots mid.slots mid.links i.sound.linked first m (omega arith) i.slot

    by : (x : Slot) → slot_at old.slots 1 (first / 4096) ≡ x → false ≡ covers x (last - first) 4096 → ((v : Mapping) → x ≡ Value v → ⊥) →
        root_part old.slots x first last ≡ vacancy x + need_mid mid.slots m first last
    by Vacant was c none =
        let a = cond-false (eqb (last - first) 4096) 0 (1 + need_by (λ _. Vacant) first last) (sym c) in
        let b = need_same (λ x. slot_at mid.slots m (x % 64)) (λ _. Vacant) first last (λ x _ _ _. i.blank was (x % 64) (omega arith)) in
        omega (arith, a, b)
    by (Value v) was c none = absurd (none v refl)
    by (Child k) was c none =
        let s = i.slot in
        let t = i.kept 1 (first / 4096) k (omega arith) was in
        let same : k ≡ m = cc in
        let lk = ok.linked.level 1 (first / 4096) k (omega arith) was in
        let live_k : 0 < (link_at old.links k).level = omega (arith, lk) in
        let not_1 : k ≡ 1 → ⊥ = λ x. omega (arith, ap (λ (y : ℕ). (link_at old.links y).level) x, lk, ok.linked.root) in
        let a = need_same (λ x. slot_at mid.slots k (x % 64)) (λ x. slot_at old.slots k (x % 64)) first last
        (λ x _ _ _. i.others k (x % 64) (omega arith) live_k (λ y _. not_1 y)) in
        let b = ap (λ (y : ℕ). need_mid mid.slots y first last) same in
        omega (arith, a, b)

    pub inner_need : false ≡ covers (slot_at old.slots 1 (first / 4096)) (last - first) 4096 → ((v : Mapping) → slot_at old.slots 1 (first / 4096) ≡ Value v → ⊥) →
        root_part old.slots (slot_at old.slots 1 (first / 4096)) first last ≡ vacancy (slot_at old.slots 1 (first / 4096)) + need_mid mid.slots m first last
    inner_need c none = by (slot_at old.slots 1 (first / 4096)) refl c none

    pub top_inner_others : (new : Tree) → Others (λ a t. ((link_at mid.links a).level < 3) × (a ≡ m → ⊥)) mid new → Others (Beside old (first / 4096)) old new
    top_inner_others new fo a t ht h p =
        let up = i.levels a h in
        let la = ap (λ (u : Link). u.level) up in
        let pa = ap (λ (u : Link). u.place) up in
        let pm = i.sound.linked.place 1 (first / 4096) m (omega arith) i.slot in
        fo a t ht (omega (arith, la, h))
        (omega (arith, la, p.0), λ same. p.2 (sym la ∙ ap (λ (k : ℕ). (link_at mid.links k).level) same ∙ m_level) (sym pa ∙ ap (λ (k : ℕ). (link_at mid.links k).place) same ∙ pm))
        ∙ i.others a t ht h (λ same. p.1 (ap (λ (k : ℕ). (link_at old.links k).level) same ∙ ok.linked.root))

-- the least that an open slot draws
pub vacancy_first : (xs : List Slot) (x : Slot) (first last : ℕ) → false ≡ covers x (last - first) 4096 → vacancy x ≤ root_part xs x first last
vacancy_first xs Vacant first last c =
    let a = cond-false (eqb (last - first) 4096) 0 (1 + need_by (λ _. Vacant) first last) (sym c) in omega (arith, a)
vacancy_first xs (Child k) first last c = omega arith
vacancy_first xs (Value e) first last c = omega arith

-- a fill of the range has come to the page `at`
pub record Come (first last : ℕ) (e : Mapping) (old : Tree) (at : ℕ) (now : Tree) : Type 0 where
  pub filled : Filled first at e old now
  pub count : left now + need old.slots first last ≡ left old + need now.slots at last

-- before the first block, and after the last
module _ (first last : ℕ) (e : Mapping) (old : Tree) (some : first < last) (block : ℕ) where
  pub come_first : Sound old → block ≡ first / 4096 → Come first last e old (reached 4096 first last block) old
  come_first ok b =
      let at : first ≡ reached 4096 first last block = omega (arith, b) in
      subst (λ (x : ℕ). Come first last e old x old) at (record { filled = filled_none first e old ok; count = refl })

  pub come_last : (now : Tree) → block ≡ (last - 1) / 4096 + 1 → Come first last e old (reached 4096 first last block) now → Come first last e old last now
  come_last now b u =
      let at : reached 4096 first last block ≡ last = omega (arith, b) in
      subst (λ (x : ℕ). Come first last e old x now) at u

pub come_left : (first last : ℕ) (e : Mapping) (old now : Tree) → Come first last e old last now → left now + need old.slots first last ≡ left old
come_left first last e old now u =
    omega (arith, u.count, ends_none 4096 (omega arith) (λ a z. root_part now.slots (slot_at now.slots 1 (a / 4096)) a z) last last (omega arith))

-- a turn takes the next block, in which the range has the pages from `at` and below `stop`
module _ (old now : Tree) (first last number at stop : ℕ) (e : Mapping) (small : last ≤ 262144) (free : Free old first last)
    (room : need old.slots first last ≤ left old)
    (low : first / 4096 ≤ number) (high : number ≤ (last - 1) / 4096) (some : first < last)
    (from : at ≡ max first (number * 4096)) (to : stop ≡ min last (number * 4096 + 4096)) (before : Come first last e old (reached 4096 first last number) now) where
  u : Come first last e old at now
  u =
      let same : reached 4096 first last number ≡ at = omega (arith, from, low, high, some) in
      subst (λ (x : ℕ). Come first last e old x now) same before

  is : stop ≡ min last (at / 4096 * 4096 + 4096)
  is = omega (arith, from, to, low)

  within : (first ≤ at) × (at < stop) × (stop ≤ last)
  within = (omega (arith, from), omega (arith, from, to, low, high, some), omega (arith, to))

  pub top_free : Free now at stop
  top_free q x y = u.filled.rest q (omega (arith, within, y)) (λ _ z. omega (arith, z, x)) ∙ free q (omega (arith, within, x)) (omega (arith, within, y))

  split : need now.slots at last ≡ root_part now.slots (slot_at now.slots 1 (at / 4096)) at stop + need now.slots stop last
  split = root_split now.slots at last stop (omega (arith, within)) is

  pub top_room : root_part now.slots (slot_at now.slots 1 (at / 4096)) at stop ≤ left now
  top_room = omega (arith, split, u.count, room)

  module _ (new : Tree) (g : Filled at stop e now new)
      (spent : left new + root_part now.slots (slot_at now.slots 1 (at / 4096)) at stop ≡ left now)
      (others : Others (Beside now (at / 4096)) now new) where
    later : need new.slots stop last ≡ need now.slots stop last
    later = root_same now.slots new.slots stop last (λ b h lo hi.
        let ok = u.filled.sound.linked in
        let hb : b < 64 = omega arith in
        let ne : b ≡ at / 4096 → ⊥ = λ x. omega (arith, x, lo, h, is) in (
          others 1 b hb (omega (arith, ok.root)) (omega (arith, ok.root), (λ _ x. ne x), (λ x. absurd (omega (arith, x, ok.root)))),
          λ m t p ht.
              let lm = ok.level 1 b m hb p in
              let pm = ok.place 1 b m hb p in
              others m t ht (omega (arith, lm)) (omega (arith, lm, ok.root), (λ x. absurd (omega (arith, x, lm, ok.root))), (λ _ x. ne (sym pm ∙ x))),
        ))

    pub next_come : Come first last e old (reached 4096 first last (number + 1)) new
    next_come =
        let same : stop ≡ reached 4096 first last (number + 1) = omega (arith, to, low) in
        subst (λ (x : ℕ). Come first last e old x new) same (record {
          filled = filled_then first at stop e old now new within.0 (omega (arith, within)) u.filled g;
          count = omega (arith, spent, u.count, split, later);
        })
