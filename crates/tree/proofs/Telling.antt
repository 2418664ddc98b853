-- The counter has the holders again.
use Rattle.std.proofs.Common.{◌≡◌, ℕ, ◌+◌, ◌<◌, Bool, true, false, eqb, List, is_some, Some, Option, sym, refl, ap, ◌∙◌, subst, ⊎_elim, arith}
use Rattle.std.proofs.lemmas.Bool.{cases_eq, cond-false, ne_eqb}
use Rattle.model.specs.declared.page.Mapping.{Mapping}
use Rattle.tree.specs.declared.slot.Slot.{Slot}
use Rattle.tree.specs.declared.slot.Slot.TheVariants.{Vacant, Child}
use Rattle.tree.specs.declared.slot.Link.{Link}
use Rattle.tree.specs.declared.table.Tree.{Tree}
use Rattle.tree.specs.Nodes.{slot_at, link_at}
use Rattle.tree.specs.Soundness.{Sound}
use Rattle.tree.specs.Walks.{Put, Hung}
use Rattle.tree.specs.Walks.{Others}
use Rattle.counter.specs.Meaning.{how_many}
use Rattle.tree.specs.Holders.{taken, held, holders, Changed, Counted, CountedBut, Told}
use Rattle.tree.proofs.Filling.{put_here, put_rest}
use Rattle.tree.proofs.Places.{put_same, put_other}
use Rattle.tree.proofs.Holding.{holders_same, holders_gain, held_none, holders_small}

pub known : (f : ℕ → Option ℕ) (t : Tree) → Counted f t → (n : ℕ) → 0 < (link_at t.links n).level → is_some (f n) ≡ true
known f t h n live = ap is_some (h n live)

-- one older node gains k slots
pub counted_gain : (f g : ℕ → Option ℕ) (old new : Tree) (n k : ℕ) → Counted f old → 0 < (link_at old.links n).level →
    Changed n (Some (how_many (f n) + k)) f g → holders new.slots n ≡ holders old.slots n + k → new.links ≡ old.links →
    ((a : ℕ) → 0 < (link_at old.links a).level → (a ≡ n → ⊥) → holders new.slots a ≡ holders old.slots a) → Counted g new
counted_gain f g old new n k h live ch gain links same a live' =
    let la : 0 < (link_at old.links a).level = subst (λ (u : List Link). 0 < (link_at u a).level) links live' in
    ⊎_elim
    (λ (e : a ≡ n).
    let x : how_many (f n) ≡ holders old.slots n = ap how_many (h n live) in
    let y : how_many (f n) + k ≡ holders new.slots n = omega (arith, x, gain) in
    ap g e ∙ ch.here ∙ ap Some y ∙ ap (λ (i : ℕ). Some (holders new.slots i)) (sym e))
    (λ (ne : a ≡ n → ⊥). ch.rest a ne ∙ h a la ∙ ap Some (sym (same a la ne)))
    (cases_eq a n)

-- a value is put into a vacant slot
pub counted_put : (f g : ℕ → Option ℕ) (old new : Tree) (n s : ℕ) (e : Mapping) → Sound old → Counted f old → 0 < (link_at old.links n).level → s < 64 →
    slot_at old.slots n s ≡ Vacant → Put n s e old new → Changed n (Some (how_many (f n) + 1)) f g → Counted g new
counted_put f g old new n s e ok h live hs was w ch =
    let rest = put_rest old new ok n s e w hs live was in
    counted_gain f g old new n 1 h live ch
    (holders_gain old.slots new.slots n s hs (ap taken was) (ap taken (put_here old new ok n s e w hs live was)) (λ t ht ne. rest n t ht (λ _ x. ne x)))
    (ap (λ (u : Tree). u.links) w)
    (λ a la ne. holders_same old.slots new.slots a (λ t ht. rest a t ht (λ x _. ne x)))

is_true : (b : Bool) → (b ≡ false → ⊥) → b ≡ true
is_true true h = refl
is_true false h = absurd (h refl)

module _ (older : Bool) (m : ℕ) where
  pub but_put : (f g : ℕ → Option ℕ) (old new : Tree) (s : ℕ) (e : Mapping) → Sound old → CountedBut older m f old → 0 < (link_at old.links m).level → s < 64 →
      slot_at old.slots m s ≡ Vacant → Put m s e old new → Told older m f g → CountedBut older m g new
  but_put f g old new s e ok h live hs was w ch a live' excl =
      let la : 0 < (link_at old.links a).level = subst (λ (u : Tree). 0 < (link_at u.links a).level) w live' in
      let rest = put_rest old new ok m s e w hs live was in
      ⊎_elim
      (λ (q : a ≡ m).
      let x : how_many (f m) ≡ holders old.slots m = ap how_many (h m live (λ z _. excl z q)) in
      let gain = holders_gain old.slots new.slots m s hs (ap taken was) (ap taken (put_here old new ok m s e w hs live was)) (λ t ht ne. rest m t ht (λ _ z. ne z)) in
      let y : how_many (f m) + 1 ≡ holders new.slots m = omega (arith, x, gain) in
      ap g q ∙ ch.here (is_true older (λ z. excl z q)) ∙ ap Some y ∙ ap (λ (i : ℕ). Some (holders new.slots i)) (sym q))
      (λ (ne : a ≡ m → ⊥). ch.rest a ne ∙ h a la excl ∙ ap Some (sym (holders_same old.slots new.slots a (λ t ht. rest a t ht (λ z _. ne z)))))
      (cases_eq a m)

  pub put_gains : (old new : Tree) (s : ℕ) (e : Mapping) → Sound old → 0 < (link_at old.links m).level → s < 64 →
      slot_at old.slots m s ≡ Vacant → Put m s e old new → holders new.slots m ≡ holders old.slots m + 1
  put_gains old new s e ok live hs was w =
      holders_gain old.slots new.slots m s hs (ap taken was) (ap taken (put_here old new ok m s e w hs live was)) (λ t ht ne. put_rest old new ok m s e w hs live was m t ht (λ _ z. ne z))

  pub but_leaf : (f g : ℕ → Option ℕ) (old new : Tree) (n k : ℕ) → CountedBut older m f old → 0 < (link_at old.links n).level → (n ≡ m → ⊥) →
      Changed n (Some (how_many (f n) + k)) f g → holders new.slots n ≡ holders old.slots n + k → new.links ≡ old.links →
      Others (λ a t. a ≡ n → ⊥) old new → CountedBut older m g new
  but_leaf f g old new n k h live nm ch gain links others a live' excl =
      let la : 0 < (link_at old.links a).level = subst (λ (u : List Link). 0 < (link_at u a).level) links live' in
      ⊎_elim
      (λ (e : a ≡ n).
      let x : how_many (f n) ≡ holders old.slots n = ap how_many (h n live (λ _. nm)) in
      let y : how_many (f n) + k ≡ holders new.slots n = omega (arith, x, gain) in
      ap g e ∙ ch.here ∙ ap Some y ∙ ap (λ (i : ℕ). Some (holders new.slots i)) (sym e))
      (λ (ne : a ≡ n → ⊥). ch.rest a ne ∙ h a la excl ∙ ap Some (sym (holders_same old.slots new.slots a (λ t ht. others a t ht la ne))))
      (cases_eq a n)

  module _ (old mid : Tree) (s n : ℕ) (ok : Sound old) (hm : m < 65) (hs : s < 64) (live : 0 < (link_at old.links m).level)
      (was : slot_at old.slots m s ≡ Vacant) (w : Hung m s n old mid) where
    h_rest : (b t : ℕ) → t < 64 → (b ≡ m → t ≡ s → ⊥) → slot_at mid.slots b t ≡ slot_at old.slots b t
    h_rest b t ht ne = ap (λ (x : List Slot). slot_at x b t) w.slots ∙ put_other old.slots m s (Child n) hs b t ht ne

    h_here : slot_at mid.slots m s ≡ Child n
    h_here = ap (λ (x : List Slot). slot_at x m s) w.slots ∙ put_same old.slots m s (Child n) ok.linked.wide hm hs

    m_n : m ≡ n → ⊥
    m_n e = omega (arith, ap (λ (j : ℕ). (link_at old.links j).level) e, w.idle, live)

    pub hung_gains : holders mid.slots m ≡ holders old.slots m + 1
    hung_gains = holders_gain old.slots mid.slots m s hs (ap taken was) (ap taken h_here) (λ t ht no. h_rest m t ht (λ _ z. no z))

    pub hung_blank : holders mid.slots n ≡ 0
    hung_blank =
        let n_1 : n ≡ 1 → ⊥ = λ e. omega (arith, ap (λ (j : ℕ). (link_at old.links j).level) e, w.idle, ok.linked.root) in
        let blank : held mid.slots n 64 ≡ 0 = held_none mid.slots n 64 (λ t ht. h_rest n t ht (λ e _. m_n (sym e)) ∙ ok.linked.free n t ht w.idle) in
        let low = cond-false {A = ℕ} (eqb n 1) 1 0 (ne_eqb n 1 n_1) in
        omega (arith, blank, low)

    -- the parent was told, the child is not yet given
    hung_but : (f g : ℕ → Option ℕ) → CountedBut older m f old → Told older m f g →
        (a : ℕ) → 0 < (link_at mid.links a).level → (a ≡ n → ⊥) → (older ≡ false → a ≡ m → ⊥) → g a ≡ Some (holders mid.slots a)
    hung_but f g h up a la ne excl =
        let lo : 0 < (link_at old.links a).level = subst (λ (u : Link). 0 < u.level) (w.levels a ne) la in
        ⊎_elim
        (λ (e : a ≡ m).
        let x : how_many (f m) ≡ holders old.slots m = ap how_many (h m live (λ z _. excl z e)) in
        let z : how_many (f m) + 1 ≡ holders mid.slots m = omega (arith, x, hung_gains) in
        ap g e ∙ up.here (is_true older (λ z. excl z e)) ∙ ap Some z ∙ ap (λ (j : ℕ). Some (holders mid.slots j)) (sym e))
        (λ (no : a ≡ m → ⊥).
        up.rest a no ∙ h a lo excl ∙ ap Some (sym (holders_same old.slots mid.slots a (λ t ht. h_rest a t ht (λ z _. no z)))))
        (cases_eq a m)

    pub but_new : (f g i : ℕ → Option ℕ) (new : Tree) (k : ℕ) → CountedBut older m f old → Told older m f g → Changed n (Some k) g i →
        holders new.slots n ≡ holders mid.slots n + k → new.links ≡ mid.links → Others (λ a t. a ≡ n → ⊥) mid new → CountedBut older m i new
    but_new f g i new k h up gave gain links others a live' excl =
        let la : 0 < (link_at mid.links a).level = subst (λ (u : List Link). 0 < (link_at u a).level) links live' in
        ⊎_elim
        (λ (e : a ≡ n).
        let y : k ≡ holders new.slots n = omega (arith, gain, hung_blank) in
        ap i e ∙ gave.here ∙ ap Some y ∙ ap (λ (j : ℕ). Some (holders new.slots j)) (sym e))
        (λ (ne : a ≡ n → ⊥).
        gave.rest a ne ∙ hung_but f g h up a la ne excl ∙ ap Some (sym (holders_same mid.slots new.slots a (λ t ht. others a t ht la ne))))
        (cases_eq a n)

    -- for a child that is filled before it is given
    pub but_child : (f g : ℕ → Option ℕ) → older ≡ true → CountedBut older m f old → Told older m f g → CountedBut false n g mid
    but_child f g o h up a la excl = hung_but f g h up a la (excl refl) (λ z _. let q : ◌≡◌ {A = Bool} true false = sym o ∙ z in absurd (let z : ◌≡◌ {A = ℕ} 0 1 = cc in omega arith))

-- the child was given before it was filled
pub but_given : (m k : ℕ) (g i : ℕ → Option ℕ) (t : Tree) → CountedBut false m g t → Changed m (Some k) g i → CountedBut false m i t
but_given m k g i t h ch a la excl = ch.rest a (excl refl) ∙ h a la excl

pub but_held : (m : ℕ) (f : ℕ → Option ℕ) (t : Tree) → CountedBut false m f t → f m ≡ Some (holders t.slots m) → Counted f t
but_held m f t h is a la = ⊎_elim
    (λ (e : a ≡ m). ap f e ∙ is ∙ ap (λ (j : ℕ). Some (holders t.slots j)) (sym e))
    (λ (ne : a ≡ m → ⊥). h a la (λ _. ne))
    (cases_eq a m)

pub but_all : (m : ℕ) (f : ℕ → Option ℕ) (t : Tree) → CountedBut true m f t → Counted f t
but_all m f t h a la = h a la (λ z _. absurd (let q : ◌≡◌ {A = ℕ} 0 1 = cc in omega arith))

pub but_known : (older : Bool) (m : ℕ) (f : ℕ → Option ℕ) (t : Tree) → CountedBut older m f t → 0 < (link_at t.links m).level → older ≡ true → is_some (f m) ≡ true
but_known older m f t h live o = ap is_some (h m live (λ z _. let q : ◌≡◌ {A = Bool} true false = sym o ∙ z in absurd (let z : ◌≡◌ {A = ℕ} 0 1 = cc in omega arith)))

-- an older node that gains a slot has room in the count
pub but_few : (older : Bool) (m : ℕ) (f : ℕ → Option ℕ) (t : Tree) (ys : List Slot) → CountedBut older m f t → 0 < (link_at t.links m).level → holders ys m ≡ holders t.slots m + 1 → older ≡ true → how_many (f m) < 65
but_few older m f t ys h live gain o =
    let x = ap how_many (h m live (λ z _. let q : ◌≡◌ {A = Bool} true false = sym o ∙ z in absurd (let z : ◌≡◌ {A = ℕ} 0 1 = cc in omega arith))) in
    omega (arith, x, gain, holders_small ys m)

pub few : (f : ℕ → Option ℕ) (t : Tree) (ys : List Slot) → Counted f t → (n : ℕ) → 0 < (link_at t.links n).level → holders ys n ≡ holders t.slots n + 1 → how_many (f n) < 65
few f t ys h n live gain = let x = ap how_many (h n live) in omega (arith, x, gain, holders_small ys n)
