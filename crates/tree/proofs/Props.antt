-- That a tree is sound has one proof at most, so it comes out of its truncation.
use Rattle.std.proofs.Common.{◌≡◌, ℕ, ◌⊎◌, List, Some, None, Option, refl, ap, inl, inr}
use mathlib.Core.Logic.{∥∥₁_elim}
use mathlib.Core.HLevel.{Π_prop, ×_prop, ⊥_prop}
use native.Mathlib.Bridge.{le_prop}
use native.Mathlib.Nat.{ℕ_set}
use base.Stored.{Coded-set, coded_via, coded⊎, coded×, coded_unit, coded_ℕ}
use Rattle.model.specs.declared.page.Mapping.{Mapping}
use Rattle.tree.specs.declared.slot.Slot.{Slot}
use Rattle.tree.specs.declared.slot.Slot.TheVariants.{Vacant, Child, Value}
use Rattle.tree.specs.declared.slot.Link.{Link}
use Rattle.tree.specs.declared.table.Tree.{Tree}
use Rattle.model.specs.Pages.{Within}
use Rattle.tree.specs.declared.pool.Pool.{Pool}
use Rattle.tree.specs.Soundness.{Linked, Pooled, Sound}

abbrev option_code : Option ℕ → Unit {0} ⊎ ℕ
option_code None = inl tt
option_code (Some n) = inr n

option_inj : (x y : Option ℕ) → option_code x ≡ option_code y → x ≡ y
option_inj None None e = refl
option_inj None (Some n) e = cc
option_inj (Some m) None e = cc
option_inj (Some m) (Some n) e = cc

abbrev Flat : Type 0
Flat = ℕ × (ℕ × ((Unit {0} ⊎ ℕ) × (Unit {0} ⊎ ℕ)))

abbrev mapping_code : Mapping → Flat
mapping_code e = (e.label, (e.cores.bits, (option_code e.owner, option_code e.frame)))

mapping_inj : (x y : Mapping) → mapping_code x ≡ mapping_code y → x ≡ y
mapping_inj x y p = λ i. record {
  label = ap (λ (z : Flat). z.0) p i;
  owner = option_inj x.owner y.owner (ap (λ (z : Flat). z.1.1.0) p) i;
  frame = option_inj x.frame y.frame (ap (λ (z : Flat). z.1.1.1) p) i;
  cores = record { bits = ap (λ (z : Flat). z.1.0) p i };
}

abbrev slot_code : Slot → Unit {0} ⊎ (ℕ ⊎ Flat)
slot_code Vacant = inl tt
slot_code (Child k) = inr (inl k)
slot_code (Value e) = inr (inr (mapping_code e))

slot_inj : (x y : Slot) → slot_code x ≡ slot_code y → x ≡ y
slot_inj Vacant Vacant p = refl
slot_inj Vacant (Child k) p = cc
slot_inj Vacant (Value e) p = cc
slot_inj (Child j) Vacant p = cc
slot_inj (Child j) (Child k) p = cc
slot_inj (Child j) (Value e) p = cc
slot_inj (Value d) Vacant p = cc
slot_inj (Value d) (Child k) p = cc
slot_inj (Value d) (Value e) p = let q : mapping_code d ≡ mapping_code e = cc in ap Value (mapping_inj d e q)

pub option_set : IsSet (Option ℕ)
option_set = Coded-set (coded_via (coded⊎ coded_unit coded_ℕ) option_code option_inj)

pub slot_set : IsSet Slot
slot_set = Coded-set (coded_via (coded⊎ coded_unit (coded⊎ coded_ℕ (coded× coded_ℕ (coded× coded_ℕ (coded× (coded⊎ coded_unit coded_ℕ) (coded⊎ coded_unit coded_ℕ)))))) slot_code slot_inj)

within_prop : {e : Mapping} → IsProp (Within e)
within_prop a b = λ i. record { owner = le_prop a.owner b.owner i; frame = le_prop a.frame b.frame i }

linked_prop : {slots : List Slot} {links : List Link} → IsProp (Linked slots links)
linked_prop a b = λ i. record {
  wide = ℕ_set _ _ a.wide b.wide i;
  tall = ℕ_set _ _ a.tall b.tall i;
  none = ℕ_set _ _ a.none b.none i;
  root = ℕ_set _ _ a.root b.root i;
  level = Π_prop (λ n. Π_prop (λ s. Π_prop (λ k. Π_prop (λ h. Π_prop (λ p. ℕ_set _ _))))) a.level b.level i;
  deep = Π_prop (λ n. le_prop) a.deep b.deep i;
  parent = Π_prop (λ n. Π_prop (λ s. Π_prop (λ k. Π_prop (λ h. Π_prop (λ p. ℕ_set _ _))))) a.parent b.parent i;
  place = Π_prop (λ n. Π_prop (λ s. Π_prop (λ k. Π_prop (λ h. Π_prop (λ p. ℕ_set _ _))))) a.place b.place i;
  hung = Π_prop (λ k. Π_prop (λ h. ×_prop le_prop (slot_set _ _))) a.hung b.hung i;
  free = Π_prop (λ n. Π_prop (λ s. Π_prop (λ h. Π_prop (λ p. slot_set _ _)))) a.free b.free i;
  values = Π_prop (λ n. Π_prop (λ s. Π_prop (λ e. Π_prop (λ h. Π_prop (λ p. within_prop))))) a.values b.values i;
}

pooled_prop : {links : List Link} {p : Pool 64} → IsProp (Pooled links p)
pooled_prop a b = λ i. record {
  long = ℕ_set _ _ a.long b.long i;
  few = le_prop a.few b.few i;
  past = le_prop a.past b.past i;
  second = le_prop a.second b.second i;
  fit = le_prop a.fit b.fit i;
  fresh = Π_prop (λ n. Π_prop (λ h. ℕ_set _ _)) a.fresh b.fresh i;
  idle = Π_prop (λ n. Π_prop (λ h. ℕ_set _ _)) a.idle b.idle i;
  known = Π_prop (λ n. Π_prop (λ h. le_prop)) a.known b.known i;
  some = Π_prop (λ n. Π_prop (λ h. le_prop)) a.some b.some i;
  apart = Π_prop (λ x. Π_prop (λ y. Π_prop (λ h. Π_prop (λ g. Π_prop (λ e. ⊥_prop))))) a.apart b.apart i;
}

pub sound_prop : {t : Tree} → IsProp (Sound t)
sound_prop a b = λ i. record { linked = linked_prop a.linked b.linked i; pooled = pooled_prop a.pooled b.pooled i }

pub opened : {t : Tree} → ∥ Sound t ∥₁ → Sound t
opened h = ∥∥₁_elim h sound_prop (λ s. s)
