-- What links the parts of a space has one proof at most, so it comes out of its truncation.
use Rattle.std.proofs.Common.{ℕ}
use mathlib.Core.Logic.{∥∥₁_elim}
use mathlib.Core.HLevel.{Π_prop}
use native.Mathlib.Bridge.{le_prop}
use native.Mathlib.Nat.{ℕ_set}
use Rattle.counter.specs.Meaning.{Meaning}
use Rattle.tree.specs.declared.pool.Pool.{Pool}
use Rattle.tree.specs.declared.table.Tree.{Tree}
use Rattle.tree.specs.Pools.{Ready}
use Rattle.tree.specs.Holders.{Tallied}
use Rattle.tree.proofs.Props.{sound_prop, option_set}
use Rattle.space.specs.States.{State}
use Rattle.space.specs.Linking.{Agrees}

tallied_prop : {m : Meaning} {t : Tree} → IsProp (Tallied m t)
tallied_prop a b = λ i. record {
  held = Π_prop (λ n. Π_prop (λ h. option_set _ _)) a.held b.held i;
  idle = Π_prop (λ n. Π_prop (λ h. option_set _ _)) a.idle b.idle i;
}

ready_prop : {n : ℕ} {p : Pool n} → IsProp (Ready n p)
ready_prop a b = λ i. record {
  few = le_prop a.few b.few i;
  small = le_prop a.small b.small i;
  past = le_prop a.past b.past i;
  fit = le_prop a.fit b.fit i;
  less = le_prop a.less b.less i;
}

agrees_prop : {st : State} {m : Meaning} → IsProp (Agrees st m)
agrees_prop a b = λ i. record {
  tree = sound_prop a.tree b.tree i;
  tallied = tallied_prop a.tallied b.tallied i;
  cores = ℕ_set _ _ a.cores b.cores i;
  epoch = ℕ_set _ _ a.epoch b.epoch i;
  few = le_prop a.few b.few i;
  frames = ready_prop a.frames b.frames i;
}

pub opened : {st : State} {m : Meaning} → ∥ Agrees st m ∥₁ → Agrees st m
opened h = ∥∥₁_elim h agrees_prop (λ a. a)
