-- A fill, step by step, is what its definition says.
use Rattle.std.proofs.Common.{◌≡◌, ℕ, suc, ◌+◌, ◌-◌, ◌*◌, ◌/◌, ◌%◌, ◌<◌, ◌≤◌, max, min, Bool, true, false, eqb, ltb, List, [], ◌∷◌, ◌++◌, sym, ap, ◌∙◌, subst, arith}
use Rattle.std.proofs.lemmas.Bool.{lt-ltb, eq-eqb, cond-true, cond-false}
use Rattle.model.specs.declared.page.Mapping.{Mapping}
use Rattle.counter.specs.Meaning.{Operation}
use Rattle.counter.specs.Meaning.Operation.{Give, Revive}
use Rattle.tree.specs.declared.slot.Slot.{Slot}
use Rattle.tree.specs.declared.slot.Slot.TheVariants.{Vacant, Child, Value}
use Rattle.tree.specs.declared.table.Tree.{Tree}
use Rattle.tree.specs.Pools.{next_object}
use Rattle.tree.specs.Nodes.{slot_at}
use Rattle.tree.specs.Changes.{written, grown}
use Rattle.tree.specs.Need.{covers}
use Rattle.tree.specs.Holders.{Follows}
use Rattle.tree.specs.Fill.{blocks_met, part_start, part_stop, walk, told_walk, fill_leaf, fill_block_by, fill_block, fill_middle, fill_top_by, fill_top, gain, revivals, told_block_by, told_block, told_middle, told_top_by, told_top}
use Rattle.tree.proofs.Counting.{follows_none, follows_then}

-- a leaf
module _ (n first : ℕ) (e : Mapping) (t : Tree) where
  pub leaf_start : fill_leaf n first e (first - first) t ≡ t
  unfolding fill_leaf
  leaf_start = let z : first - first ≡ 0 = omega arith in ap (λ (k : ℕ). fill_leaf n first e k t) z

  pub leaf_more : (page : ℕ) → first ≤ page → fill_leaf n first e (page + 1 - first) t ≡ written n (page % 64) (Value e) (fill_leaf n first e (page - first) t)
  unfolding fill_leaf
  leaf_more page h =
      let z : page + 1 - first ≡ suc (page - first) = omega arith in
      let p : first + (page - first) ≡ page = omega arith in
      ap (λ (k : ℕ). fill_leaf n first e k t) z ∙ ap (λ (q : ℕ). written n (q % 64) (Value e) (fill_leaf n first e (page - first) t)) p

  pub leaf_to : (page : ℕ) (now : Tree) → first ≤ page → now ≡ fill_leaf n first e (page - first) t → written n (page % 64) (Value e) now ≡ fill_leaf n first e (page + 1 - first) t
  leaf_to page now h is = ap (written n (page % 64) (Value e)) is ∙ sym (leaf_more page h)

-- a slot of a middle node
module _ (m first last : ℕ) (e : Mapping) (t : Tree) where
  pub block_whole : slot_at t.slots m (first / 64 % 64) ≡ Vacant → last - first ≡ 64 → fill_block m first last e t ≡ written m (first / 64 % 64) (Value e) t
  unfolding fill_block
  block_whole was len =
      ap (λ (x : Slot). fill_block_by x m first last e t) was ∙ cond-true (eqb (last - first) 64) _ _ (eq-eqb (last - first) 64 len)

  pub block_part : slot_at t.slots m (first / 64 % 64) ≡ Vacant → eqb (last - first) 64 ≡ false →
      fill_block m first last e t ≡ fill_leaf (next_object t.pool) first e (last - first) (grown m (first / 64 % 64) t)
  unfolding fill_block
  block_part was len =
      ap (λ (x : Slot). fill_block_by x m first last e t) was
      ∙ cond-false (eqb (last - first) 64) (written m (first / 64 % 64) (Value e) t) (fill_leaf (next_object t.pool) first e (last - first) (grown m (first / 64 % 64) t)) len

  pub block_child : (n : ℕ) → slot_at t.slots m (first / 64 % 64) ≡ Child n → fill_block m first last e t ≡ fill_leaf n first e (last - first) t
  unfolding fill_block
  block_child n was = ap (λ (x : Slot). fill_block_by x m first last e t) was

  pub block_grown : (k : ℕ) (mid new : Tree) → slot_at t.slots m (first / 64 % 64) ≡ Vacant → eqb (last - first) 64 ≡ false →
      k ≡ next_object t.pool → mid ≡ grown m (first / 64 % 64) t → new ≡ fill_leaf k first e (last - first) mid → new ≡ fill_block m first last e t
  block_grown k mid new was len a b d =
      d ∙ ap (λ (x : ℕ). fill_leaf x first e (last - first) mid) a ∙ ap (fill_leaf (next_object t.pool) first e (last - first)) b ∙ sym (block_part was len)

  module _ (older : Bool) (core : ℕ) where
    pub told_whole : slot_at t.slots m (first / 64 % 64) ≡ Vacant → last - first ≡ 64 → told_block older core m first last t ≡ gain older core m ++ []
    unfolding told_block
    told_whole was len =
        ap (λ (x : Slot). told_block_by x older core m first last t) was
        ∙ ap (λ (os : List Operation). gain older core m ++ os) (cond-true (eqb (last - first) 64) [] (Give (next_object t.pool) (last - first) ∷ []) (eq-eqb (last - first) 64 len))

    pub told_part : slot_at t.slots m (first / 64 % 64) ≡ Vacant → eqb (last - first) 64 ≡ false →
        told_block older core m first last t ≡ gain older core m ++ (Give (next_object t.pool) (last - first) ∷ [])
    unfolding told_block
    told_part was len =
        ap (λ (x : Slot). told_block_by x older core m first last t) was
        ∙ ap (λ (os : List Operation). gain older core m ++ os) (cond-false (eqb (last - first) 64) [] (Give (next_object t.pool) (last - first) ∷ []) len)

    pub told_child : (n : ℕ) → slot_at t.slots m (first / 64 % 64) ≡ Child n → told_block older core m first last t ≡ revivals core n (last - first)
    unfolding told_block
    told_child n was = ap (λ (x : Slot). told_block_by x older core m first last t) was

-- a vacant slot that is not covered
pub open_vacant : (x : Slot) (len size : ℕ) → x ≡ Vacant → false ≡ covers x len size → eqb len size ≡ false
open_vacant x len size was c = sym (c ∙ ap (λ (y : Slot). covers y len size) was)

-- how many blocks are met
met_some : (size first last : ℕ) → first < last → blocks_met size first last ≡ (last - 1) / size + 1 - first / size
unfolding blocks_met
met_some size first last h = cond-true (ltb first last) ((last - 1) / size + 1 - first / size) 0 (lt-ltb first last h)

-- a turn takes the next block, in which the range has the pages from a and below z
pub record Turn (size first last block a z : ℕ) : Type 0 where
  pub one : block + 1 - first / size ≡ suc (block - first / size)
  pub from : part_start size first (block - first / size) ≡ a
  pub to : part_stop size first last (block - first / size) ≡ z

-- where the range's pages before a block end
abbrev pub reached : ℕ → ℕ → ℕ → ℕ → ℕ
reached size first last block = min last (max first (block * size))

after : (q block : ℕ) → q ≤ block → (block + 1 - q ≡ suc (block - q)) × (q + (block - q) ≡ block)
after q block h = (omega (arith, h), omega (arith, h))

pub turn : (size first last block a z : ℕ) → first / size ≤ block → a ≡ max first (block * size) → z ≡ min last (block * size + size) → Turn size first last block a z
turn size first last block a z h from to =
    let e = after (first / size) block h in
    record {
      one = e.0;
      from = ap (λ (b : ℕ). max first (b * size)) e.1 ∙ sym from;
      to = ap (λ (b : ℕ). min last (b * size + size)) e.1 ∙ sym to;
    }

none_yet : (q block : ℕ) → block ≡ q → block - q ≡ 0
none_yet q block e = omega (arith, e)

module _ (size : ℕ) (step : ℕ → ℕ → Tree → Tree) (first last : ℕ) (old : Tree) where
  pub walk_start : (block : ℕ) → block ≡ first / size → old ≡ walk size step first last (block - first / size) old
  unfolding walk
  walk_start block e = ap (λ (k : ℕ). walk size step first last k old) (sym (none_yet (first / size) block e))

  pub walk_turn : (block a z : ℕ) (now new : Tree) → Turn size first last block a z → now ≡ walk size step first last (block - first / size) old →
      new ≡ step a z now → new ≡ walk size step first last (block + 1 - first / size) old
  unfolding walk
  walk_turn block a z now new t is made =
      let far = walk size step first last (block - first / size) old in
      made ∙ ap (step a z) is
      ∙ ap (λ (x : ℕ). step x z far) (sym t.from)
      ∙ ap (λ (x : ℕ). step (part_start size first (block - first / size)) x far) (sym t.to)
      ∙ ap (λ (k : ℕ). walk size step first last k old) (sym t.one)

  met : (block : ℕ) → first < last → block ≡ (last - 1) / size + 1 → block - first / size ≡ blocks_met size first last
  met block h e = ap (λ (b : ℕ). b - first / size) e ∙ sym (met_some size first last h)

  pub walk_end : (block : ℕ) (now : Tree) → first < last → block ≡ (last - 1) / size + 1 → now ≡ walk size step first last (block - first / size) old →
      now ≡ walk size step first last (blocks_met size first last) old
  walk_end block now h e is = is ∙ ap (λ (k : ℕ). walk size step first last k old) (met block h e)

  -- what is told of it
  module _ {S : Type 0} (steps : S → Operation → S → Type 0) (says : ℕ → ℕ → Tree → List Operation) (s : S) where
    pub told_start : (block : ℕ) → block ≡ first / size → Follows steps (told_walk size step says first last (block - first / size) old) s s
    unfolding told_walk
    told_start block e =
        subst (λ (k : ℕ). Follows steps (told_walk size step says first last k old) s s) (sym (none_yet (first / size) block e)) (follows_none steps s)

    pub told_turn : (block a z : ℕ) (now : Tree) (u t : S) → Turn size first last block a z → now ≡ walk size step first last (block - first / size) old →
        Follows steps (told_walk size step says first last (block - first / size) old) s u → Follows steps (says a z now) u t →
        Follows steps (told_walk size step says first last (block + 1 - first / size) old) s t
    unfolding told_walk
    told_turn block a z now u t turn is before here =
        let k = block - first / size in
        let far = walk size step first last k old in
        let more : told_walk size step says first last (block + 1 - first / size) old ≡ told_walk size step says first last k old ++ says a z now =
        ap (λ (j : ℕ). told_walk size step says first last j old) turn.one
        ∙ ap (λ (x : ℕ). told_walk size step says first last k old ++ says x (part_stop size first last k) far) turn.from
        ∙ ap (λ (x : ℕ). told_walk size step says first last k old ++ says a x far) turn.to
        ∙ ap (λ (v : Tree). told_walk size step says first last k old ++ says a z v) (sym is) in
        subst (λ (os : List Operation). Follows steps os s t) (sym more) (follows_then steps (told_walk size step says first last k old) (says a z now) s u t before here)

    pub told_end : (block : ℕ) (t : S) → first < last → block ≡ (last - 1) / size + 1 → Follows steps (told_walk size step says first last (block - first / size) old) s t →
        Follows steps (told_walk size step says first last (blocks_met size first last) old) s t
    told_end block t h e = subst (λ (k : ℕ). Follows steps (told_walk size step says first last k old) s t) (met block h e)

-- a slot of the root
module _ (first last : ℕ) (e : Mapping) (t : Tree) where
  pub top_whole : slot_at t.slots 1 (first / 4096) ≡ Vacant → last - first ≡ 4096 → fill_top first last e t ≡ written 1 (first / 4096) (Value e) t
  unfolding fill_top
  top_whole was len =
      ap (λ (x : Slot). fill_top_by x first last e t) was
      ∙ cond-true (eqb (last - first) 4096) (written 1 (first / 4096) (Value e) t) (fill_middle (next_object t.pool) first last e (grown 1 (first / 4096) t)) (eq-eqb (last - first) 4096 len)

  pub top_grown : (k : ℕ) (mid new : Tree) → slot_at t.slots 1 (first / 4096) ≡ Vacant → eqb (last - first) 4096 ≡ false →
      k ≡ next_object t.pool → mid ≡ grown 1 (first / 4096) t → new ≡ fill_middle k first last e mid → new ≡ fill_top first last e t
  unfolding fill_top
  top_grown k mid new was len a b d =
      d ∙ ap (λ (x : ℕ). fill_middle x first last e mid) a ∙ ap (fill_middle (next_object t.pool) first last e) b
      ∙ sym (cond-false (eqb (last - first) 4096) (written 1 (first / 4096) (Value e) t) (fill_middle (next_object t.pool) first last e (grown 1 (first / 4096) t)) len)
      ∙ ap (λ (x : Slot). fill_top_by x first last e t) (sym was)

  pub top_child : (m : ℕ) → slot_at t.slots 1 (first / 4096) ≡ Child m → fill_top first last e t ≡ fill_middle m first last e t
  unfolding fill_top
  top_child m was = ap (λ (x : Slot). fill_top_by x first last e t) was

  module _ (core : ℕ) where
    pub told_top_whole : slot_at t.slots 1 (first / 4096) ≡ Vacant → last - first ≡ 4096 → told_top core first last e t ≡ Revive core 1 ∷ []
    unfolding told_top
    told_top_whole was len =
        ap (λ (x : Slot). told_top_by x core first last e t) was
        ∙ ap (λ (os : List Operation). Revive core 1 ∷ os)
        (cond-true (eqb (last - first) 4096) [] (Give (next_object t.pool) ((last - 1) / 64 + 1 - first / 64) ∷ told_middle false core (next_object t.pool) first last e (grown 1 (first / 4096) t)) (eq-eqb (last - first) 4096 len))

    pub told_top_grown : (k : ℕ) (mid : Tree) → slot_at t.slots 1 (first / 4096) ≡ Vacant → eqb (last - first) 4096 ≡ false →
        k ≡ next_object t.pool → mid ≡ grown 1 (first / 4096) t →
        told_top core first last e t ≡ Revive core 1 ∷ (Give k ((last - 1) / 64 + 1 - first / 64) ∷ told_middle false core k first last e mid)
    unfolding told_top
    told_top_grown k mid was len a b =
        ap (λ (x : Slot). told_top_by x core first last e t) was
        ∙ ap (λ (os : List Operation). Revive core 1 ∷ os)
        (cond-false (eqb (last - first) 4096) [] (Give (next_object t.pool) ((last - 1) / 64 + 1 - first / 64) ∷ told_middle false core (next_object t.pool) first last e (grown 1 (first / 4096) t)) len
        ∙ ap (λ (x : ℕ). Give x ((last - 1) / 64 + 1 - first / 64) ∷ told_middle false core x first last e (grown 1 (first / 4096) t)) (sym a)
        ∙ ap (λ (u : Tree). Give k ((last - 1) / 64 + 1 - first / 64) ∷ told_middle false core k first last e u) (sym b))

    pub told_top_child : (m : ℕ) → slot_at t.slots 1 (first / 4096) ≡ Child m → told_top core first last e t ≡ told_middle true core m first last e t
    unfolding told_top
    told_top_child m was = ap (λ (x : Slot). told_top_by x core first last e t) was
