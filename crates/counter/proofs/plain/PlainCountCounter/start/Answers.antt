use Rattle.std.proofs.Common.{◌≡◌, ℕ, None, Option, ap, ◌∙◌}
use Rattle.std.proofs.Math.Path.{fun_ext}
use Rattle.counter.specs.Meaning.{with_holders, begun}
use Rattle.counter.specs.ClocksLemmas.{started_means}
use Rattle.counter.specs.Plain.{count_at, table_meaning, blank_table}
use Rattle.counter.proofs.Lists.{get_d_replicate}
use Rattle.counter.proofs.plain.PlainCountCounter.start.Goals as goal

-- no object of a blank table is in use
blank_free : (cores epoch o : ℕ) → count_at (blank_table cores epoch) o ≡ None
blank_free cores epoch o = get_d_replicate 1025 None o

blank_means : (cores epoch : ℕ) → table_meaning (blank_table cores epoch) ≡ begun cores epoch
blank_means cores epoch =
    started_means cores epoch (count_at (blank_table cores epoch))
    ∙ ap (λ (f : ℕ → Option ℕ). with_holders f (begun cores epoch)) (fun_ext (blank_free cores epoch))

pub returns-clause-means : goal.returns-clause-means
returns-clause-means g c = rw c.start.ensures (blank_means c.args.cores c.args.epoch)

pub returns-clause-timely : goal.returns-clause-timely
returns-clause-timely g c p o is z = let free = blank_free c.args.cores c.args.epoch o in absurd cc
