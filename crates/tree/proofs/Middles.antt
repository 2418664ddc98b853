-- The turns of a fill under a middle node.
use Rattle.std.proofs.Common.{◌≡◌, ℕ, ◌+◌, ◌-◌, ◌*◌, ◌/◌, ◌%◌, ◌<◌, ◌≤◌, max, min, refl, ap, ◌∙◌, subst, arith}
use Rattle.model.specs.declared.page.Mapping.{Mapping}
use Rattle.tree.specs.declared.slot.Slot.TheVariants.{Vacant, Child}
use Rattle.tree.specs.declared.slot.Link.{Link}
use Rattle.tree.specs.declared.table.Tree.{Tree}
use Rattle.tree.specs.Nodes.{slot_at, link_at}
use Rattle.tree.specs.Soundness.{Sound, left}
use Rattle.tree.specs.Need.{part, need_mid}
use Rattle.tree.specs.Filled.{Filled, Free}
use Rattle.tree.specs.Walks.{Others, Goes}
use Rattle.tree.specs.Holders.{holders}
use Rattle.tree.proofs.Exact.{reached}
use Rattle.tree.proofs.Filling.{filled_none, filled_then}
use Rattle.tree.proofs.Needing.{ends_none, need_split, need_same}
use Rattle.tree.proofs.Blocks.{level_2}

-- a fill of the range under the middle node m has come to the page `at`
pub record Under (m first last : ℕ) (e : Mapping) (old : Tree) (at : ℕ) (now : Tree) : Type 0 where
  pub filled : Filled first at e old now
  pub count : left now + need_mid old.slots m first last ≡ left old + need_mid now.slots m at last
  pub others : Others (λ a t. ((link_at old.links a).level < 3) × (a ≡ m → ⊥)) old now

-- before the first block, and after the last
module _ (m first last : ℕ) (e : Mapping) (old : Tree) (some : first < last) (block : ℕ) where
  pub under_first : Sound old → block ≡ first / 64 → Under m first last e old (reached 64 first last block) old
  under_first ok b =
      let at : first ≡ reached 64 first last block = omega (arith, b) in
      subst (λ (x : ℕ). Under m first last e old x old) at (record { filled = filled_none first e old ok; count = refl; others = λ a t _ _ _. refl })

  pub goes_first : block ≡ first / 64 → Goes m first last block old old
  goes_first b = record { later = λ _ _ _. refl; gain = λ _. omega (arith, b) }

  pub under_last : (now : Tree) → block ≡ (last - 1) / 64 + 1 → Under m first last e old (reached 64 first last block) now → Under m first last e old last now
  under_last now b u =
      let at : reached 64 first last block ≡ last = omega (arith, b) in
      subst (λ (x : ℕ). Under m first last e old x now) at u

pub under_left : (m first last : ℕ) (e : Mapping) (old now : Tree) → Under m first last e old last now → left now + need_mid old.slots m first last ≡ left old
under_left m first last e old now u = omega (arith, u.count, ends_none 64 (omega arith) (λ a z. part (slot_at now.slots m (a / 64 % 64)) (z - a)) last last (omega arith))

-- a turn takes the next block, in which the range has the pages from `at` and below `stop`
module _ (old now : Tree) (m first last number at stop : ℕ) (e : Mapping) (small : last ≤ 262144)
    (block : (last - 1) / 4096 ≡ first / 4096) (path : slot_at old.slots 1 (first / 4096) ≡ Child m) (free : Free old first last)
    (room : need_mid old.slots m first last ≤ left old)
    (low : first / 64 ≤ number) (high : number ≤ (last - 1) / 64) (some : first < last)
    (from : at ≡ max first (number * 64)) (to : stop ≡ min last (number * 64 + 64)) (before : Under m first last e old (reached 64 first last number) now) where
  u : Under m first last e old at now
  u =
      let same : reached 64 first last number ≡ at = omega (arith, from, low, high, some) in
      subst (λ (x : ℕ). Under m first last e old x now) same before

  is : stop ≡ min last (at / 64 * 64 + 64)
  is = omega (arith, from, to, low)

  within : (first ≤ at) × (at < stop) × (stop ≤ last)
  within = (omega (arith, from), omega (arith, from, to, low, high, some), omega (arith, to))

  pub path_now : slot_at now.slots 1 (at / 4096) ≡ Child m
  path_now = ap (slot_at now.slots 1) (omega (arith, within, block)) ∙ u.filled.kept 1 (first / 4096) m (omega arith) path

  pub free_now : Free now at stop
  free_now q x y = u.filled.rest q (omega (arith, within, y)) (λ _ z. omega (arith, z, x)) ∙ free q (omega (arith, within, x)) (omega (arith, within, y))

  split : need_mid now.slots m at last ≡ part (slot_at now.slots m (at / 64 % 64)) (stop - at) + need_mid now.slots m stop last
  split = need_split (λ x. slot_at now.slots m (x % 64)) at last stop (omega (arith, within)) is

  pub room_now : part (slot_at now.slots m (at / 64 % 64)) (stop - at) ≤ left now
  room_now = omega (arith, split, u.count, room)

  module _ (new : Tree) (g : Filled at stop e now new)
      (spent : left new + part (slot_at now.slots m (at / 64 % 64)) (stop - at) ≡ left now)
      (others : Others (λ a t. ((link_at now.links a).level < 3) × (a ≡ m → t ≡ at / 64 % 64 → ⊥)) now new) where
    m_level : (link_at now.links m).level ≡ 2
    m_level = level_2 now.slots now.slots now.links u.filled.sound.linked at m (omega (arith, within)) path_now

    -- the slots of m after this block
    beyond : (x : ℕ) → number < x → x ≤ (last - 1) / 64 → slot_at new.slots m (x % 64) ≡ slot_at now.slots m (x % 64)
    beyond x lo hi = others m (x % 64) (omega arith) (omega (arith, m_level)) (omega (arith, m_level), λ _ same. omega (arith, same, lo, hi, from, low, block))

    pub next_under : Under m first last e old (reached 64 first last (number + 1)) new
    next_under =
        let same : stop ≡ reached 64 first last (number + 1) = omega (arith, to, low) in
        let later = need_same (λ x. slot_at new.slots m (x % 64)) (λ x. slot_at now.slots m (x % 64)) stop last (λ x h lo hi. beyond x (omega (arith, lo, h, to, low)) hi) in
        subst (λ (x : ℕ). Under m first last e old x new) same (record {
          filled = filled_then first at stop e old now new within.0 (omega (arith, within)) u.filled g;
          count = omega (arith, spent, u.count, split, later);
          others = λ a t ht live p.
              let la = ap (λ (x : Link). x.level) (u.filled.levels a live) in
              others a t ht (omega (arith, la, live)) (omega (arith, la, p.0), λ same _. p.1 same) ∙ u.others a t ht live p;
        })

    pub next_goes : Goes m first last number old now → (slot_at now.slots m (at / 64 % 64) ≡ Vacant → holders new.slots m ≡ holders now.slots m + 1) →
        Goes m first last (number + 1) old new
    next_goes h gained = record {
      later = λ x lo hi. beyond x (omega (arith, lo)) hi ∙ h.later x (omega (arith, lo)) hi;
      gain = λ blank.
          let same : number ≡ at / 64 = omega (arith, from, low) in
          let g = gained (h.later (at / 64) (omega (arith, same)) (omega (arith, same, high)) ∙ blank (at / 64 % 64) (omega arith)) in
          omega (arith, g, h.gain blank);
    }
