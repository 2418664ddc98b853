-- What the marks of a clock mean.
use Rattle.std.specs.Prelude.{◌≡◌, ℕ, ◌+◌, ◌^◌, Bool, true, false, cond, ◌||◌, Option, ◌==◌, bit_or, refl}
use Rattle.std.proofs.Common.{ap, ◌∙◌}
use Rattle.std.proofs.Math.Path.{fun_ext}
use Rattle.model.specs.CoreSets.{member, all_below}
use Rattle.model.proofs.Sets.{none_member, join_member}
use Rattle.counter.specs.declared.epoch.Clock.{Clock}
use Rattle.counter.specs.Meaning.{Meaning, put_at, with_holders, begun, has_folded, has_closed, next_epoch, closes}
use Rattle.counter.specs.Clocks.{clock_meaning, clock_started, clock_folds, clock_marked, clock_turned, last_to_close, clock_closes}

or_cond : (s t : Bool) → (s || t) ≡ cond t true s
or_cond true true = refl
or_cond true false = refl
or_cond false true = refl
or_cond false false = refl

-- a mark more is one core more that has it
pub marked : (bits c : ℕ) → member (bit_or bits (2 ^ c)) ≡ put_at c true (member bits)
marked bits c = fun_ext (λ x. join_member bits c x ∙ or_cond (member bits x) (x == c))

unmarked : member 0 ≡ (λ _. false)
unmarked = fun_ext none_member

-- a clock that has just started, with these holders
pub started_means : (cores epoch : ℕ) (f : ℕ → Option ℕ) → clock_meaning (clock_started cores epoch) f ≡ with_holders f (begun cores epoch)
started_means cores epoch f =
    let with_marks : (ℕ → Bool) → Meaning = λ g. record { cores = cores; epoch = epoch; holders = f; folded = g; closed = g } in
    ap with_marks unmarked

pub folds_means : (c : ℕ) (k : Clock) (f : ℕ → Option ℕ) → clock_meaning (clock_folds c k) f ≡ has_folded c (clock_meaning k f)
folds_means c k f =
    let with_folded : (ℕ → Bool) → Meaning = λ g. record { cores = k.cores; epoch = k.epoch; holders = f; folded = g; closed = member k.closed.bits } in
    ap with_folded (marked k.folded.bits c)

mark_means : (c : ℕ) (k : Clock) (f : ℕ → Option ℕ) → clock_meaning (clock_marked c k) f ≡ has_closed c (clock_meaning k f)
mark_means c k f =
    let with_closed : (ℕ → Bool) → Meaning = λ g. record { cores = k.cores; epoch = k.epoch; holders = f; folded = member k.folded.bits; closed = g } in
    ap with_closed (marked k.closed.bits c)

either_means : (b : Bool) (c : ℕ) (k : Clock) (f : ℕ → Option ℕ) →
    clock_meaning (cond b (clock_turned k) (clock_marked c k)) f ≡ cond b (next_epoch (clock_meaning k f)) (has_closed c (clock_meaning k f))
either_means true c k f = started_means k.cores (k.epoch + 1) f
either_means false c k f = mark_means c k f

-- the last core to close, in the words of the meaning
pub last_means : (c : ℕ) (k : Clock) (f : ℕ → Option ℕ) → last_to_close c k ≡ all_below k.cores (has_closed c (clock_meaning k f)).closed
last_means c k f = ap (λ (g : ℕ → Bool). all_below k.cores g) (marked k.closed.bits c)

pub closes_means : (c : ℕ) (k : Clock) (f : ℕ → Option ℕ) → clock_meaning (clock_closes c k) f ≡ closes c (clock_meaning k f)
closes_means c k f =
    either_means (last_to_close c k) c k f
    ∙ ap (λ (b : Bool). cond b (next_epoch (clock_meaning k f)) (has_closed c (clock_meaning k f))) (last_means c k f)
