-- Fills follow one another.
use Rattle.std.proofs.Common.{◌≡◌, ℕ, ◌+◌, ◌/◌, ◌%◌, ◌<◌, ◌≤◌, List, length, sym, refl, ap, ◌∙◌, subst, ⊎_elim, arith}
use Rattle.std.proofs.lemmas.Bool.{cases_eq, cases_lt}
use Rattle.std.proofs.lemmas.List.{get_or_past}
use Rattle.model.specs.declared.page.Mapping.{Mapping}
use Rattle.tree.specs.declared.slot.Slot.{Slot}
use Rattle.tree.specs.declared.slot.Slot.TheVariants.{Vacant, Child, Value}
use Rattle.tree.specs.declared.slot.Link.{Link}
use Rattle.tree.specs.declared.table.Tree.{Tree}
use Rattle.tree.specs.Nodes.{slot_at, link_at, no_link, slot_of}
use Rattle.model.specs.Pages.{Within}
use Rattle.tree.specs.Soundness.{Linked, Pooled, Sound, left}
use Rattle.tree.specs.Walks.{Put, Hung, Keeps}
use Rattle.tree.specs.Filled.{Filled}
use Rattle.tree.specs.Walks.{Entered}
use Rattle.tree.specs.Need.{vacancy}
use Rattle.tree.proofs.Places.{put_same, put_other}
use Rattle.tree.proofs.Blocks.{level_2, level_3, leaf_here, leaf_rest, mid_here, mid_rest, root_here, root_rest}
use Rattle.tree.proofs.Keeping.{put_linked, child_stays}

past : (links : List Link) (k n : ℕ) → length links ≡ n → n ≤ k → link_at links k ≡ no_link
past links k n e h = get_or_past links k no_link (omega arith)

pub live_small : (t : Tree) → Sound t → (k : ℕ) → 0 < (link_at t.links k).level → k < 65
live_small t ok k h = ⊎_elim (λ (a : k < 65). a)
    (λ (b : 65 ≤ k). absurd (omega (arith, ap (λ (u : Link). u.level) (past t.links k 65 ok.linked.tall b), h)))
    (cases_lt k 65)

pub filled_none : (a : ℕ) (e : Mapping) (t : Tree) → Sound t → Filled a a e t t
filled_none a e t ok = record {
  sound = ok;
  here = λ q x y _. absurd (omega arith);
  rest = λ q _ _. refl;
  kept = λ n s k _ p. p;
  levels = λ n _. refl;
  size = refl;
}

pub filled_then : (a b c : ℕ) (e : Mapping) (old mid new : Tree) → a ≤ b → b ≤ c → Filled a b e old mid → Filled b c e mid new → Filled a c e old new
filled_then a b c e old mid new ab bc f g = record {
  sound = g.sound;
  here = λ q x y z. ⊎_elim (λ (h : q < b). g.rest q z (λ u _. omega (arith, u, h)) ∙ f.here q x h z) (λ (h : b ≤ q). g.here q h y z) (cases_lt q b);
  rest = λ q z out. g.rest q z (λ x y. out (omega arith) y) ∙ f.rest q z (λ x y. out x (omega arith));
  kept = λ n s k hs p. g.kept n s k hs (f.kept n s k hs p);
  levels = λ n h. g.levels n (subst (λ (u : Link). 0 < u.level) (sym (f.levels n h)) h) ∙ f.levels n h;
  size = g.size ∙ f.size;
}

-- one slot of a live node is written
module _ (old new : Tree) (ok : Sound old) (n s : ℕ) (e : Mapping) (w : Put n s e old new) (hs : s < 64)
    (live : 0 < (link_at old.links n).level) (was : slot_at old.slots n s ≡ Vacant) where
  hn : n < 65
  hn = live_small old ok n live

  pub put_sound : Within e → Sound new
  put_sound fits = record {
    linked = subst (λ (u : Tree). Linked u.slots u.links) (sym w) (put_linked old.slots old.links ok.linked n s e hn hs live was fits);
    pooled = subst (λ (u : Tree). Pooled u.links u.pool) (sym w) ok.pooled;
  }

  pub put_left : left new ≡ left old
  put_left = ap left w

  pub put_here : slot_at new.slots n s ≡ Value e
  put_here = ap (λ (x : Tree). slot_at x.slots n s) w ∙ put_same old.slots n s (Value e) ok.linked.wide hn hs

  pub put_rest : (a t : ℕ) → t < 64 → (a ≡ n → t ≡ s → ⊥) → slot_at new.slots a t ≡ slot_at old.slots a t
  put_rest a t ht ne = ap (λ (x : Tree). slot_at x.slots a t) w ∙ put_other old.slots n s (Value e) hs a t ht ne

  put_kept : Keeps old new
  put_kept a t k ht p = ap (λ (x : Tree). slot_at x.slots a t) w ∙ child_stays old.slots old.links ok.linked n s e hn hs live was a t k ht p

  -- what the block slot_of is left to show
  pub put_filled : Within e → (a b : ℕ) → ((q : ℕ) → q < 262144 → a ≤ q → q < b → slot_of new.slots q ≡ Value e) →
      ((q : ℕ) → q < 262144 → (a ≤ q → q < b → ⊥) → slot_of new.slots q ≡ slot_of old.slots q) → Filled a b e old new
  put_filled fits a b here rest = record {
    sound = put_sound fits;
    here = λ q x y z. here q z x y;
    rest = rest;
    kept = put_kept;
    levels = λ m _. ap (λ (u : Tree). link_at u.links m) w;
    size = ap (λ (u : Tree). u.pool.size) w;
  }

module _ (old new : Tree) (ok : Sound old) (e : Mapping) (fits : Within e) (p : ℕ) (small : p < 262144) where
  pub leaf_filled : (m n : ℕ) → slot_at old.slots 1 (p / 4096) ≡ Child m → slot_at old.slots m (p / 64 % 64) ≡ Child n →
      slot_at old.slots n (p % 64) ≡ Vacant → Put n (p % 64) e old new → Filled p (p + 1) e old new
  leaf_filled m n at_m at_n was w =
      let live : 0 < (link_at old.links n).level = omega (arith, level_3 old.slots old.slots old.links ok.linked p m n small at_m at_n) in
      let hs : p % 64 < 64 = omega arith in
      let here = put_here old new ok n (p % 64) e w hs live was in
      let rest = put_rest old new ok n (p % 64) e w hs live was in
      put_filled old new ok n (p % 64) e w hs live was fits p (p + 1)
      (λ q h x y. ap (slot_of new.slots) (omega arith) ∙ leaf_here old.slots new.slots old.links ok.linked p m n (Value e) small at_m at_n here rest)
      (λ q h out. leaf_rest old.slots new.slots old.links ok.linked p m n (Value e) small at_m at_n here rest q h (λ same. out (omega arith) (omega arith)))

  pub mid_filled : (m : ℕ) → slot_at old.slots 1 (p / 4096) ≡ Child m → p % 64 ≡ 0 →
      slot_at old.slots m (p / 64 % 64) ≡ Vacant → Put m (p / 64 % 64) e old new → Filled p (p + 64) e old new
  mid_filled m at_m even was w =
      let live : 0 < (link_at old.links m).level = omega (arith, level_2 old.slots old.slots old.links ok.linked p m small at_m) in
      let hs : p / 64 % 64 < 64 = omega arith in
      let here = put_here old new ok m (p / 64 % 64) e w hs live was in
      let rest = put_rest old new ok m (p / 64 % 64) e w hs live was in
      put_filled old new ok m (p / 64 % 64) e w hs live was fits p (p + 64)
      (λ q h x y. mid_here old.slots new.slots old.links ok.linked p m e small at_m here rest q h (omega arith))
      (λ q h out. mid_rest old.slots new.slots old.links ok.linked p m e small at_m here rest q h (λ same. out (omega arith) (omega arith)))

  pub root_filled : p % 4096 ≡ 0 → slot_at old.slots 1 (p / 4096) ≡ Vacant → Put 1 (p / 4096) e old new → Filled p (p + 4096) e old new
  root_filled even was w =
      let live : 0 < (link_at old.links 1).level = omega (arith, ok.linked.root) in
      let hs : p / 4096 < 64 = omega arith in
      let here = put_here old new ok 1 (p / 4096) e w hs live was in
      let rest = put_rest old new ok 1 (p / 4096) e w hs live was in
      put_filled old new ok 1 (p / 4096) e w hs live was fits p (p + 4096)
      (λ q h x y. root_here old.slots new.slots old.links ok.linked p e small here rest q h (omega arith))
      (λ q h out. root_rest old.slots new.slots old.links ok.linked p e small here rest q h (λ same. out (omega arith) (omega arith)))

-- entering changes nothing that is shown
pub entered_filled : (n s k a : ℕ) (e : Mapping) (old new : Tree) → Entered n s k old new → Filled a a e old new
entered_filled n s k a e old new w = record {
  sound = w.sound;
  here = λ q x y _. absurd (omega arith);
  rest = λ q h _. w.shown q h;
  kept = w.kept;
  levels = w.levels;
  size = w.size;
}

pub hung_entered : (n s k : ℕ) (old new : Tree) → Sound old → s < 64 → n < 65 → 0 < (link_at old.links n).level → slot_at old.slots n s ≡ Vacant → Hung n s k old new → Entered n s k old new
hung_entered n s k old new ok hs hn live was w =
    let v : vacancy (slot_at old.slots n s) ≡ 1 = ap vacancy was in
    let same : (a t : ℕ) → t < 64 → (a ≡ n → t ≡ s → ⊥) → slot_at new.slots a t ≡ slot_at old.slots a t =
    λ a t ht ne. ap (λ (x : List Slot). slot_at x a t) w.slots ∙ put_other old.slots n s (Child k) hs a t ht ne in
    record {
      sound = w.sound;
      slot = ap (λ (x : List Slot). slot_at x n s) w.slots ∙ put_same old.slots n s (Child k) ok.linked.wide hn hs;
      small = w.small;
      shown = w.shown;
      kept = w.kept;
      levels = λ m h. w.levels m (λ e. omega (arith, ap (λ (i : ℕ). (link_at old.links i).level) e, w.idle, h));
      others = λ a t ht h ne. same a t ht ne;
      blank = λ _ t ht. same k t ht (λ e _. omega (arith, ap (λ (i : ℕ). (link_at old.links i).level) e, w.idle, live)) ∙ ok.linked.free k t ht w.idle;
      size = w.size;
      left = omega (arith, w.left, v);
    }

pub child_entered : (n s k : ℕ) (t : Tree) → Sound t → s < 64 → slot_at t.slots n s ≡ Child k → Entered n s k t t
child_entered n s k t ok hs p =
    let v : vacancy (slot_at t.slots n s) ≡ 0 = ap vacancy p in
    record {
      sound = ok;
      slot = p;
      small = live_small t ok k (omega (arith, ok.linked.level n s k hs p));
      shown = λ q _. refl;
      kept = λ a b c _ x. x;
      levels = λ m _. refl;
      others = λ a b _ _ _. refl;
      blank = λ u. absurd (let z : ◌≡◌ {A = ℕ} 0 1 = cc in omega arith);
      size = refl;
      left = omega (arith, v);
    }

-- the numbers of nodes in use begin at 1
pub live_some : (t : Tree) → Sound t → (k : ℕ) → 0 < (link_at t.links k).level → 1 ≤ k
live_some t ok k h = ⊎_elim
    (λ (e : k ≡ 0). absurd (omega (arith, ap (λ (i : ℕ). (link_at t.links i).level) e, ok.linked.none, h)))
    (λ (ne : k ≡ 0 → ⊥). omega arith)
    (cases_eq k 0)

-- nodes of different levels are different nodes
pub not_same : (t : Tree) (a b : ℕ) → ((link_at t.links a).level ≡ (link_at t.links b).level → ⊥) → a ≡ b → ⊥
not_same t a b ne e = ne (ap (λ (i : ℕ). (link_at t.links i).level) e)
