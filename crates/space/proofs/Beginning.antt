-- A space that was just set up: its parts agree, and every page is vacant.
use Rattle.std.proofs.Common.{◌≡◌, ℕ, ◌<◌, ◌≤◌, eqb, Some, None, sym, ap, ◌∙◌, subst, ⊎_elim, arith}
use Rattle.std.proofs.lemmas.Bool.{cases_eq, cond-true, cond-false, eq-eqb, ne_eqb}
use Rattle.counter.specs.Meaning.{Meaning, begun, given}
use Rattle.model.specs.Flat.{all_vacant}
use Rattle.tree.specs.Nodes.{link_at, state_of}
use Rattle.tree.specs.Holders.{Tallied, holders}
use Rattle.tree.specs.Changes.{planted}
use Rattle.tree.specs.declared.pool.Pool.{Pool}
use Rattle.tree.specs.declared.table.Tree.{Tree}
use Rattle.tree.specs.Pools.{full}
use Rattle.tree.proofs.Starting.{planted_sound, planted_level, planted_holders, planted_slot}
use Rattle.space.specs.States.{State, set_up_state, flat}
use Rattle.space.specs.Linking.{Agrees}

planted_tallied : (nodes cores epoch : ℕ) → 0 < nodes → nodes ≤ 64 → Tallied (given 1 1 (begun cores epoch)) (planted nodes)
planted_tallied nodes cores epoch h1 h2 = record {
  held = λ n live. ⊎_elim
      (λ (e : n ≡ 1).
      cond-true (eqb n 1) (Some 1) None (eq-eqb n 1 e)
      ∙ ap Some (sym (planted_holders nodes)) ∙ ap (λ (k : ℕ). Some (holders (planted nodes).slots k)) (sym e))
      (λ (ne : n ≡ 1 → ⊥). absurd (omega (arith, planted_level nodes n ne, live)))
      (cases_eq n 1);
  idle = λ n free. ⊎_elim
      (λ (e : n ≡ 1). absurd (omega (arith, free, ap (λ (k : ℕ). (link_at (planted nodes).links k).level) e, (planted_sound nodes h1 h2).linked.root)))
      (λ (ne : n ≡ 1 → ⊥). cond-false (eqb n 1) (Some 1) None (ne_eqb n 1 ne))
      (cases_eq n 1);
}

pub begins : (cores frames nodes epoch : ℕ) (m : Meaning) → cores ≤ 16 → frames ≤ 1024 → 0 < nodes → nodes ≤ 64 → m ≡ given 1 1 (begun cores epoch) →
    Agrees (set_up_state cores frames nodes epoch) m
begins cores frames nodes epoch m few hf h1 h2 e = record {
  tree = planted_sound nodes h1 h2;
  tallied = subst (λ (x : Meaning). Tallied x (planted nodes)) (sym e) (planted_tallied nodes cores epoch h1 h2);
  cores = ap (λ (x : Meaning). x.cores) e;
  epoch = ap (λ (x : Meaning). x.epoch) e;
  few = few;
  frames = record { few = hf; small = omega arith; past = omega arith; fit = omega arith; less = omega arith };
}

pub all_blank : (cores frames nodes epoch q : ℕ) → flat (set_up_state cores frames nodes epoch) q ≡ all_vacant q
all_blank cores frames nodes epoch q = ap state_of (planted_slot nodes q)

pub begun_state : (cores frames nodes epoch : ℕ) (p : Pool 1024) (t : Tree) → p ≡ full 1024 frames → t ≡ planted nodes →
    ◌≡◌ {A = State} (record { cores = cores; epoch = epoch; frames = p; tree = t }) (set_up_state cores frames nodes epoch)
begun_state cores frames nodes epoch p t a b =
    ap {B = State} (λ (x : Pool 1024). record { cores = cores; epoch = epoch; frames = x; tree = t }) a
    ∙ ap {B = State} (λ (x : Tree). record { cores = cores; epoch = epoch; frames = full 1024 frames; tree = x }) b
