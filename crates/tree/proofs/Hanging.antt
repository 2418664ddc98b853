-- A drawn node is hung into a vacant slot.
use Rattle.std.proofs.Common.{◌≡◌, ℕ, ◌+◌, ◌*◌, ◌<◌, set, sym, refl, ap, ◌∙◌, subst, arith, get_or-set_other, get_or-set_same}
use Rattle.tree.specs.declared.slot.Slot.TheVariants.{Vacant, Child}
use Rattle.tree.specs.declared.slot.Link.{Link}
use Rattle.tree.specs.declared.table.Tree.{Tree}
use Rattle.tree.specs.Nodes.{slot_at, link_at, no_link}
use Rattle.tree.specs.Soundness.{Sound, left}
use Rattle.tree.specs.declared.pool.Pool.{Pool}
use Rattle.tree.specs.Pools.{next_object, drawn}
use Rattle.tree.specs.Changes.{hung_from, grown}
use Rattle.tree.specs.Walks.{Gives, Hung}
use Rattle.tree.proofs.Places.{put_same, put_other}
use Rattle.tree.proofs.Blocks.{grow_shows}
use Rattle.tree.proofs.Keeping.{grow_linked, child_kept, pool_kept, pool_gives}

hangs : (old : Tree) (n s : ℕ) → Sound old → 0 < left old →
    n < 65 → s < 64 → 0 < (link_at old.links n).level → (link_at old.links n).level < 3 → slot_at old.slots n s ≡ Vacant →
    Hung n s (next_object old.pool) old (grown n s old)
hangs old n s ok some hn hs live above was =
    let xs = old.slots in
    let us = old.links in
    let k = next_object old.pool in
    let w : Link = record { level = (link_at us n).level + 1; parent = n; place = s } in
    let d : Gives us old.pool = pool_gives us old.pool ok.pooled some in
    let apart : k ≡ n → ⊥ = λ e. omega (arith, ap (λ (i : ℕ). (link_at us i).level) e, d.idle, live) in
    record {
      sound = record {
        linked = grow_linked xs us ok.linked n s k w hn hs d.small live above was d.idle d.some refl refl refl;
        pooled = pool_kept us (drawn old.pool) k w d.pooled d.under d.out;
      };
      slots = refl;
      levels = λ m ne. get_or-set_other us k m w no_link ne;
      level = ap (λ (u : Link). u.level) (get_or-set_same us k w no_link (omega (arith, ok.linked.tall, d.small)));
      idle = d.idle;
      small = d.small;
      size = refl;
      left = d.left;
      shown = grow_shows xs (set xs (n * 64 + s) (Child k)) us ok.linked n s k above was apart (λ t ht. ok.linked.free k t ht d.idle)
          (put_same xs n s (Child k) ok.linked.wide hn hs) (λ a t ht ne. put_other xs n s (Child k) hs a t ht ne);
      kept = λ m t j ht p. child_kept xs us ok.linked n s k w hn hs d.small live above was d.idle d.some refl refl refl m t j ht p;
    }

pub grown_is : (t : Tree) (n s k : ℕ) (p : Pool 64) → k ≡ next_object t.pool → p ≡ drawn t.pool → hung_from n s k p t ≡ grown n s t
grown_is t n s k p a b =
    ap (λ (x : ℕ). hung_from n s x p t) a ∙ ap (λ (x : Pool 64). hung_from n s (next_object t.pool) x t) b

hung_as : (old new : Tree) (n s k : ℕ) → k ≡ next_object old.pool → new ≡ grown n s old → Hung n s (next_object old.pool) old (grown n s old) → Hung n s k old new
hung_as old new n s k a b h =
    subst (λ (x : ℕ). Hung n s x old new) (sym a) (subst (λ (u : Tree). Hung n s (next_object old.pool) old u) (sym b) h)

-- the same by what the fields say, of which `now` is the view
pub grown_hung : (t now new : Tree) (n s k : ℕ) → t ≡ now → Sound t → k ≡ next_object t.pool → new ≡ grown n s t → 0 < left now →
    n < 65 → s < 64 → 0 < (link_at now.links n).level → (link_at now.links n).level < 3 → slot_at now.slots n s ≡ Vacant → Hung n s k now new
grown_hung t now new n s k e ok ek is some hn hs live above was =
    let sound = subst Sound e ok in
    hung_as now new n s k (ek ∙ ap (λ (u : Tree). next_object u.pool) e) (is ∙ ap (grown n s) e) (hangs now n s sound some hn hs live above was)
